-- Trusted in part: How an archive is made in a store, and how it is found there again.
use Rattle.std.specs.Prelude.{◌≡◌, ◌≢◌, ◌⊎◌, ℕ, List, [], ◌∷◌, Option, Result, Err, OnOk, OnErr, IfOk, IsErr, IsTrue}
use Rattle.std.specs.Borrow.{MutBor}
use Rattle.sqlite.specs.Schema.{Schema}
use Rattle.sqlite.specs.Tree.{Trees}
use Rattle.sqlite.specs.State.{State as Sqlite, HasCleanDisk, KeepsCommit, Survives}
use Rattle.sqlite.specs.Store.{Ghosts}
use Rattle.sqlite.specs.Held.{Held, state}
use Rattle.sqlite_catalog.specs.Listing.{IsSound}
use Rattle.tacho_state.specs.declared.fault.StoreFault.{StoreFault}
use Rattle.tacho_state.specs.declared.fault.StoreFault.TheVariants.{OldSchema}
use Rattle.tacho_state.specs.State.{State}
use Rattle.tacho_tables.specs.Schema.{IsArchiveSchema, current_version, old_schema, old_version, meta_rows}
use Rattle.tacho_tables.specs.Making.{IsVersioned, TellsVersion}
use Rattle.tacho_tables.specs.Tables.{IsArchive, IsVersion}
use Rattle.tacho_tables.specs.Calls.{Stays}
use Rattle.tacho_reading.specs.Standing.{Represents}
use Rattle.tacho_reading.specs.Kept.{IsBlank, HasGivenUp, Sees, LeavesOneOf}
use Rattle.tacho_store.specs.Old.{OldState, StoodFor, with_office}

-- within a transaction, makes the tables of an archive without drivers
pub record Makes {S : Type 0} (g : Ghosts S) (old new : MutBor (Held S)) {A : Type 0} (result : Result A StoreFault) : Type 0 where
  pub stays : Stays g old new
  pub keeps : HasCleanDisk (state g new.now) → KeepsCommit (state g old.now) (state g new.now)
  pub made : HasCleanDisk (state g new.now) → IsBlank (state g old.now) → OnOk result (Sees (state g new.now) [])

-- the store has schema 1, and states a version, which is 1
pub record IsOld (c : Sqlite) : Type 0 where
  pub schema : c.now.schema ≡ old_schema
  pub stated : c.now.trees meta_rows ≢ []
  pub version : (version : ℕ) → IsVersion version c.now.trees → version ≡ old_version

-- the faults with which a store isn't adopted
abbrev pub IsOpeningFault : StoreFault → Type 0
IsOpeningFault OldSchema = Unit {0}
IsOpeningFault fault = HasGivenUp fault

-- within a transaction, migrates tables of schema 1
pub record CarriesOver {S : Type 0} (g : Ghosts S) (old new : MutBor (Held S)) {A : Type 0} (result : Result A StoreFault) : Type 0 where
  pub stays : Stays g old new
  pub keeps : HasCleanDisk (state g new.now) → KeepsCommit (state g old.now) (state g new.now)
  pub carried : HasCleanDisk (state g new.now) → (state g old.now).now.schema ≡ old_schema → (s : OldState)
      → StoodFor (state g old.now).now.trees s → OnOk result (Sees (state g new.now) (with_office s))

module _ (old new : Sqlite) where
  -- making was given up and has changed nothing; a crash leaves what it would have left before the call, or the new archive
  pub record IsUnmade : Type 0 where
    pub same : HasCleanDisk new → IsTrue new.is_open → new.now ≡ old.now
    pub crash : IsBlank old → Survives old new (λ db. Represents db [])

  -- nothing has changed, and a crash leaves what it would have left before the call
  pub record IsLeftAlone : Type 0 where
    pub was_open : HasCleanDisk new → IsTrue new.is_open → IsTrue old.is_open
    pub same : HasCleanDisk new → IsTrue new.is_open → new.now ≡ old.now
    pub survives : Survives old new (λ _. ⊥)

  module _ {A : Type 0} (result : Result A StoreFault) where
    -- the tables were made in a store without tables, or nothing has changed
    pub record IsMade : Type 0 where
      pub clean : HasCleanDisk new → HasCleanDisk old
      pub made : HasCleanDisk new → IsBlank old → OnOk result (Sees new [])
      pub taken : old.now.schema.tables ≢ [] → IsErr result
      pub live : HasCleanDisk new → OnOk result (IsTrue new.is_open)
      pub same : HasCleanDisk new → IsTrue new.is_open → OnErr result (new.now ≡ old.now)
      pub kept : HasCleanDisk new → IsBlank old → OnOk result (LeavesOneOf new ([] ∷ []))
      pub crash : IsBlank old → Survives old new (λ db. Represents db [])

    -- the schema of an archive and its version were found; nothing has changed
    pub record FindsArchive : Type 0 where
      pub alone : IsLeftAlone
      pub live : HasCleanDisk new → OnOk result (IsTrue new.is_open)
      pub schema : OnOk result (IsArchiveSchema old.now.schema)
      pub stated : HasCleanDisk new → OnOk result (old.now.trees meta_rows ≢ [])
      pub version : HasCleanDisk new → (version : ℕ) → IsVersion version old.now.trees → OnOk result (version ≡ current_version)
      pub is_old : HasCleanDisk new → result ≡ Err OldSchema → IsTrue new.is_open × IsOld old

    -- tables of schema 1 were migrated, or nothing has changed; a crash leaves what it would have left before the call, or the migrated
    -- tables
    pub record IsCarried : Type 0 where
      pub clean : HasCleanDisk new → HasCleanDisk old
      pub was_open : HasCleanDisk new → IsTrue new.is_open → IsTrue old.is_open
      pub live : HasCleanDisk new → OnOk result (IsTrue new.is_open)
      pub same : HasCleanDisk new → IsTrue new.is_open → OnErr result (new.now ≡ old.now)
      pub survives : Survives old new (λ _. Unit {0})
      pub carried : HasCleanDisk new → old.now.schema ≡ old_schema → (s : OldState) → StoodFor old.now.trees s
          → OnOk result (Sees new (with_office s))
      pub kept : HasCleanDisk new → old.now.schema ≡ old_schema → (s : OldState) → StoodFor old.now.trees s
          → OnOk result (LeavesOneOf new (with_office s ∷ []))
      pub crash : old.now.schema ≡ old_schema → (s : OldState) → StoodFor old.now.trees s
          → Survives old new (λ db. Represents db (with_office s))

  -- the version was read, and nothing has changed
  pub record TellsSchema (result : Result (Option ℕ) StoreFault) : Type 0 where
    pub was_open : HasCleanDisk new → IsTrue new.is_open → IsTrue old.is_open
    pub same : HasCleanDisk new → IsTrue new.is_open → IsVersioned old.now → new.now ≡ old.now
    pub survives : Survives old new (λ _. ⊥)
    pub version : HasCleanDisk new → IsVersioned old.now → IfOk result (TellsVersion old.now.trees)
    pub missing : HasCleanDisk new → IsBlank old → IsErr result

  -- What was not migrated is as it was. A crash leaves what it would have left before the call, or an archive of schema 1 migrated.
  pub record IsNotMigrated : Type 0 where
    pub was_open : HasCleanDisk new → IsTrue new.is_open → IsTrue old.is_open
    pub same : HasCleanDisk new → IsTrue new.is_open → new.now ≡ old.now
    pub crash : (s : OldState) → StoodFor old.now.trees s → Survives old new (λ db. Represents db (with_office s))
    pub alone : (s : State) → Represents old.now.trees s → Survives old new (λ _. ⊥)
    pub other : old.now.schema ≢ old_schema → Survives old new (λ _. ⊥)

-- ---- archives, for any way of keeping them

module _ {K : Type 0} (stands : K → State → Type 0) (is_live : K → Type 0) (leaves : K → List State → Type 0) where
  -- an archive without drivers
  pub record IsEmptyArchive (archive : K) : Type 0 where
    pub empty : stands archive []
    pub live : is_live archive
    pub left : leaves archive ([] ∷ [])

  -- the archive of schema 2 that the store had, with its version; until it is changed, a crash leaves it as it was
  pub record IsAdopted (old : Sqlite) (archive : K) : Type 0 where
    pub was_open : IsTrue old.is_open
    pub held : (s : State) → Represents old.now.trees s → stands archive s
    pub live : is_live archive
    pub left : (states : List State) → LeavesOneOf old states → leaves archive states
    pub rests : (s : State) → Represents old.now.trees s → leaves archive (s ∷ [])
    pub schema : IsArchive old.now
    pub stated : old.now.trees meta_rows ≢ []
    pub version : (version : ℕ) → IsVersion version old.now.trees → version ≡ current_version

  -- the archive that the store had: of schema 1, with the office as the author of its entries, or of schema 2, as it was; until it is
  -- changed, a crash leaves it as it is
  pub record IsMigrated (old : Sqlite) (archive : K) : Type 0 where
    pub carried : (s : OldState) → StoodFor old.now.trees s → stands archive (with_office s)
    pub held : (s : State) → Represents old.now.trees s → stands archive s
    pub live : is_live archive
    pub kept : (s : OldState) → StoodFor old.now.trees s → leaves archive (with_office s ∷ [])
    pub left : (s : State) → Represents old.now.trees s → (states : List State) → LeavesOneOf old states → leaves archive states
    pub rests : (s : State) → Represents old.now.trees s → leaves archive (s ∷ [])
    pub schema : IsArchive old.now ⊎ (old.now.schema ≡ old_schema)

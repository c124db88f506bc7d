-- Trusted in part: What a job does at a store: how an archive is made, migrated and checked there, and what is done at one that is opened.
use Rattle.std.specs.Prelude.{◌≡◌, ◌≢◌, ◌↔◌, ◌<◌, ℕ, Bool, true, length, List, [], Option, None, Some, Result, Ok, Err, OnOk, OnErr, IfOk, IfErr, IsErr, IsTrue}
use Rattle.sqlite.specs.State.{State as Sqlite, HasCleanDisk}
use Rattle.sqlite.specs.Held.{Held as Connection, state}
use Rattle.sqlite.specs.Store.{Ghosts}
use Rattle.tacho_message.specs.declared.reply.PageFile.{PageFile}
use Rattle.tacho_state.specs.declared.fault.StoreFault.{StoreFault}
use Rattle.tacho_state.specs.declared.fault.StoreFault.TheVariants as store
use Rattle.tacho_state.specs.State.{State}
use Rattle.tacho_state.specs.Acts.{OnlyRead}
use Rattle.tacho_state.specs.Steps.{owner, key_reading}
use Rattle.tacho_card.specs.declared.file.Part.{Part}
use Rattle.tacho_tables.specs.Making.{IsVersioned}
use Rattle.tacho_tables.specs.Tables.{IsArchive}
use Rattle.tacho_reading.specs.Kept.{IsBlank, SeesWhileOpen, LeavesOneOf, HasGivenUp}
use Rattle.tacho_store.specs.Opening.{IsUnmade, IsEmptyArchive, IsAdopted, IsLeftAlone, IsOld, IsOpeningFault, IsMigrated, IsNotMigrated}
use Rattle.tacho_check.specs.declared.table.Unsound.{Unsound}
use Rattle.tacho_check.specs.Checked.{IsChecked}
use Rattle.tacho_check.specs.Text.{check_line}
use Rattle.tacho_sheet.specs.declared.fault.Fault.{Fault}
use Rattle.tacho_sheet.specs.declared.fault.Fault.TheVariants as fault
use Rattle.tacho_desk.specs.Told.{Answer}
use Rattle.tacho_desk.specs.Words.{Wish, part_of}
use Rattle.tacho_cli.specs.Card.{no_part_reply}
use Rattle.tacho_cli.specs.Command.{Reply, IsWrittenOut}
use Rattle.tacho_cli.specs.Files.{ImportsFiles}
use Rattle.tacho_cli.specs.Office.{Performed}
use Rattle.tacho_serve.specs.Served.{ChangesByRequests}
use Rattle.tacho_jobs.specs.declared.ended.Ended.{Ended}
use Rattle.tacho_jobs.specs.Ended.{EndsWith, told_reply}

-- the connection is open
abbrev pub IsOpenStore : Sqlite → Type 0
IsOpenStore c = IsTrue c.is_open

-- ---- init and migrate

module _ {S : Type 0} (g : Ghosts S) where
  -- a connection as an archive: the state that its tables represent, whether it is open, and the states of which a crash leaves one
  abbrev pub Stands : Connection S → State → Type 0
  Stands conn = SeesWhileOpen (state g conn)

  abbrev pub IsLive : Connection S → Type 0
  IsLive conn = IsOpenStore (state g conn)

  abbrev pub MayLeave : Connection S → List State → Type 0
  MayLeave conn = LeavesOneOf (state g conn)

  module _ (old new : Connection S) (answer : Result (Unit {0}) StoreFault) where
    -- an archive without drivers was made in a store without tables, or nothing has changed: memory ran out, or the store failed or has
    -- tables
    pub record IsInit : Type 0 where
      pub made : HasCleanDisk (state g new) → IsBlank (state g old) → OnOk answer (IsEmptyArchive Stands IsLive MayLeave new)
      pub taken : (state g old).now.schema.tables ≢ [] → IsErr answer
      pub refused : IfErr answer HasGivenUp
      pub unmade : OnErr answer (IsUnmade (state g old) (state g new))

    -- an archive of schema 1 was migrated, one of schema 2 is as it was; or nothing has changed: memory ran out, or the store failed or has
    -- neither schema
    pub record IsMigration : Type 0 where
      pub migrated : HasCleanDisk (state g new) → OnOk answer (IsMigrated Stands IsLive MayLeave (state g old) new)
      pub refused : IfErr answer HasGivenUp
      pub left : OnErr answer (IsNotMigrated (state g old) (state g new))
      pub unknown : ¬ IsVersioned (state g old).now → answer ≡ Err store.Store

-- ---- check

-- the line of what a check has found, with the status 1 if rows are unsound
abbrev pub check_status : Option Unsound → ℕ
check_status None = 0
check_status (Some u) = 1

abbrev pub check_reply : Option Unsound → Reply
check_reply found = record { text = check_line found; status = check_status found }

-- what a check of a store answers, if the store has no failure to hide: what its rows are, S13 if it has schema 1, S12 if it has neither
-- schema
pub record IsCheckOf (old : Sqlite) (is_clean : Type 0) (answer : Result (Option Unsound) StoreFault) : Type 0 where
  pub checked : is_clean → IfOk answer (λ found. (is : IsArchive old.now) × IsChecked is.layout old.now.trees found)
  pub refused : IfErr answer IsOpeningFault
  pub is_old : is_clean → answer ≡ Err store.OldSchema → IsOld old
  pub unknown : ¬ IsVersioned old.now → answer ≡ Err store.Store

-- why the office's key may not be used: a driver has it, or the archive gave up
abbrev pub IsKeyRefusal : StoreFault → Type 0
IsKeyRefusal store.KeyTaken = Unit {0}
IsKeyRefusal cause = HasGivenUp cause

-- a driver has the office's key: S2
abbrev pub key_taken : Fault
key_taken = fault.Store store.KeyTaken

-- why a service does not begin, or ends early: S2 if a driver has the office's key, S12, M1, or X2 if the port failed
abbrev pub IsServiceFault : Fault → Type 0
IsServiceFault (fault.Store store.KeyTaken) = Unit {0}
IsServiceFault (fault.Store store.Store) = Unit {0}
IsServiceFault fault.Memory = Unit {0}
IsServiceFault fault.Device = Unit {0}
IsServiceFault f = ⊥

-- ---- jobs at an archive that is opened

-- the archive was not opened, for this reason, and nothing has changed
pub record IsNotOpened (old new : Sqlite) (cause : StoreFault) : Type 0 where
  pub refused : IsOpeningFault cause
  pub alone : IsLeftAlone old new
  pub is_old : HasCleanDisk new → cause ≡ store.OldSchema → IsOpenStore new × IsOld old

module _ {K : Type 0} (stands : K → State → Type 0) (is_clean is_live : K → Type 0) (leaves : K → List State → Type 0) where
  -- the connection is that of the archive, which was closed
  pub record IsConnectionOf (archive : K) (new : Sqlite) : Type 0 where
    pub clean : is_clean archive ↔ HasCleanDisk new
    pub live : is_live archive ↔ IsOpenStore new
    pub held : (s : State) → stands archive s → SeesWhileOpen new s
    pub left : (states : List State) → leaves archive states → LeavesOneOf new states

  -- the archive of the first connection was opened, this was done with it, and it was closed
  pub record DoneAt (old new : Sqlite) (Does : K → K → Type 0) : Type 0 where
    pub before : K
    pub after : K
    pub adopted : is_clean before → IsAdopted stands is_live leaves old before
    pub does : Does before after
    pub closed : IsConnectionOf after new

  -- The archive was only read after a command, for a word to the user: true if a driver has a key of fewer than 20 bytes, which others may
  -- guess.
  pub record HasSeenKey (is_same : K → K → Type 0) (old new : K) (is_short : Bool) : Type 0 where
    pub read : OnlyRead stands is_clean leaves is_same old new
    pub short : is_short ≡ true → is_clean new → (s : State) → stands old s
        → (n : ℕ) × (key : List ℕ) × (key_reading n s ≡ Ok key) × (length key < 20)

  -- A task was done, and its answer was written. Then the key of the driver was looked at.
  pub record IsTaskDone (is_same : K → K → Type 0) (old new : K) (w : Wish) (unread : Option (List ℕ)) (reader_failed writer_failed : Bool)
      (text_old text_new : Option (List ℕ)) (ended : Ended) : Type 0 where
    pub answer : Answer
    pub mid : K
    pub performed : Performed stands is_clean is_live leaves is_same old mid w unread reader_failed answer
    pub ends : EndsWith told_reply writer_failed text_old text_new ended answer
    pub looked : HasSeenKey is_same mid new ended.has_short_key

  -- Card files were imported in order, or no part has this name, which is P1: then nothing was done.
  pub record AreFilesDone (Gives : List ℕ → Result (List ℕ) Fault → Type 0) (old new : K) (part : List ℕ) (names : List (List ℕ))
      (writer_failed : Bool) (text_old text_new : Option (List ℕ)) (ended : Ended) : Type 0 where
    pub no_part : part_of part ≡ None → (new ≡ old) × IsWrittenOut writer_failed text_old text_new no_part_reply ended.status
        × (ended.fault ≡ Some fault.Part)
    pub imported : (p : Part) → part_of part ≡ Some p
        → ImportsFiles Gives stands is_clean leaves old new p names writer_failed text_old text_new ended.status × (ended.fault ≡ None)

  -- ---- serve and listen

  -- A service changed an archive by requests alone. `listen`, which has page files, begins only if no driver has the office's key.
  pub record IsService (files : List PageFile) (office : List ℕ) (old new : K) (answer : Result (Unit {0}) Fault) : Type 0 where
    pub changes : ChangesByRequests files office stands is_clean leaves old new
    pub faults : is_clean new → (s : State) → stands old s → IfErr answer IsServiceFault
    pub taken : files ≢ [] → is_clean new → (s : State) → stands old s → (n : ℕ) → owner office s ≡ Ok (Some n) → IsErr answer
    pub only : answer ≡ Err key_taken → is_clean new → (s : State) → stands old s
        → (files ≢ []) × ((n : ℕ) × (owner office s ≡ Ok (Some n)))

-- Trusted in part: What a connection sees of an archive.
use Rattle.std.specs.Prelude.{◌≡◌, ◌⊎◌, ℕ, List, [], ◌∷◌, Result, IsTrue}
use Rattle.sqlite.specs.Tree.{Trees}
use Rattle.sqlite.specs.State.{State as Sqlite, HasCleanDisk}
use Rattle.sqlite.specs.Store.{Ghosts}
use Rattle.sqlite.specs.Held.{Held, state}
use Rattle.tacho_state.specs.declared.fault.StoreFault.{StoreFault}
use Rattle.tacho_state.specs.declared.fault.StoreFault.TheVariants.{Memory, Store}
use Rattle.tacho_state.specs.State.{State}
use Rattle.tacho_state.specs.Steps.{Turn}
use Rattle.tacho_state.specs.Acts.{Acts, Reads}
use Rattle.tacho_tables.specs.Schema.{no_schema}
use Rattle.tacho_tables.specs.Tables.{IsArchive}
use Rattle.tacho_reading.specs.Standing.{Represents, KeepsRowsOf}

-- the fact holds for one of the states
abbrev pub IsOfOne : (State → Type 0) → List State → Type 0
IsOfOne fact [] = ⊥
IsOfOne fact (s ∷ states) = fact s ⊎ IsOfOne fact states

-- the connection sees no tables
abbrev pub IsBlank : Sqlite → Type 0
IsBlank c = c.now.schema ≡ no_schema

-- the connection sees an archive's tables, and they represent the state
abbrev pub Sees : Sqlite → State → Type 0
Sees c s = IsArchive c.now × Represents c.now.trees s

-- likewise, while the connection is open; if a failure has shut it, nothing is said
abbrev pub SeesWhileOpen : Sqlite → State → Type 0
SeesWhileOpen c s = IsTrue c.is_open → Sees c s

-- whatever a crash may leave now is an archive's database, and represents one of these states
abbrev pub LeavesOneOf : Sqlite → List State → Type 0
LeavesOneOf c states = (db : Trees) → c.may_leave db → IsOfOne (Represents db) states

-- the call gave up: it ran out of memory, or the store failed
abbrev pub HasGivenUp : StoreFault → Type 0
HasGivenUp Memory = Unit {0}
HasGivenUp Store = Unit {0}
HasGivenUp fault = ⊥

-- the second connection sees the same rows as the first, while it is open
abbrev pub IsSame : Sqlite → Sqlite → Type 0
IsSame a b = IsTrue b.is_open → b.now ≡ a.now

-- the second connection sees the same rows of one driver as the first, while it is open
abbrev pub IsSameOf : ℕ → Sqlite → Sqlite → Type 0
IsSameOf n a b = IsTrue b.is_open → KeepsRowsOf n a.now.trees b.now.trees

-- what a call does on a connection whose tables are an archive's
module _ {S : Type 0} (g : Ghosts S) {A B : Type 0} (view : A → B) (old new : Held S) (result : Result A StoreFault) where
  abbrev pub ActsOn : (State → Turn B) → Type 0
  ActsOn step = Acts (λ (h : Held S). SeesWhileOpen (state g h)) (λ h. HasCleanDisk (state g h)) (λ h. IsTrue (state g h).is_open)
      (λ h. LeavesOneOf (state g h)) (λ a b. IsSame (state g a) (state g b)) (λ n a b. IsSameOf n (state g a) (state g b))
      view old new result step

  abbrev pub ReadsOn : (State → Result B StoreFault) → Type 0
  ReadsOn told = Reads (λ (h : Held S). SeesWhileOpen (state g h)) (λ h. HasCleanDisk (state g h)) (λ h. IsTrue (state g h).is_open)
      (λ h. LeavesOneOf (state g h)) (λ a b. IsSame (state g a) (state g b)) view old new result told

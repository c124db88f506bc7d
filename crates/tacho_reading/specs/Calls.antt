-- Private to tacho_reading: What a call on an archive does within a transaction, in terms of the state that the tables represent.
use Rattle.std.specs.Prelude.{◌≡◌, ℕ, Result, OnOk, IsTrue}
use Rattle.std.specs.Borrow.{MutBor}
use Rattle.sqlite.specs.State.{HasCleanDisk, IsUnchanged, KeepsCommit}
use Rattle.sqlite.specs.Store.{Ghosts}
use Rattle.sqlite.specs.Held.{Held, state}
use Rattle.sqlite.specs.Tree.{Trees}
use Rattle.tacho_state.specs.declared.fault.StoreFault.{StoreFault}
use Rattle.tacho_state.specs.State.{State, driver_of}
use Rattle.tacho_state.specs.Steps.{Turn}
use Rattle.tacho_state.specs.Acts.{Answers, IsAnswered, IsOfNoFile}
use Rattle.tacho_tables.specs.Tables.{Tables, HasTables, IsArchive}
use Rattle.tacho_tables.specs.Calls.{Stays}
use Rattle.tacho_reading.specs.Standing.{Represents, KeepsRowsOf}

module _ {S : Type 0} (g : Ghosts S) (old new : MutBor (Held S)) where
  module _ {A : Type 0} (result : Result A StoreFault) where
    -- This holds whatever the call does: nothing is committed, only an open store answers, and the result isn't the fault of a card file.
    pub record Goes : Type 0 where
      pub stays : Stays g old new
      pub keeps : HasCleanDisk (state g new.now) → IsArchive (state g old.now).now → KeepsCommit (state g old.now) (state g new.now)
      pub live : HasCleanDisk (state g new.now) → IsAnswered result → IsTrue (state g old.now).is_open
      pub of_no_file : IsOfNoFile result

    -- A reading whose answer is a fact about the tables and the state.
    pub record Tells (fact : Trees → State → Type 0) : Type 0 where
      pub goes : Goes
      pub same : HasCleanDisk (state g new.now) → IsArchive (state g old.now).now
          → OnOk result (IsUnchanged (state g old.now) (state g new.now))
      pub told : HasCleanDisk (state g new.now) → IsArchive (state g old.now).now
          → (s : State) → Represents (state g old.now).now.trees s → fact (state g old.now).now.trees s

    -- The call answers as the step does. If it answers Ok, the tables represent the step's state, and have the same rows of each driver
    -- that the step doesn't change.
    pub record Steps {B : Type 0} (view : A → B) (step : State → Turn B) : Type 0 where
      pub goes : Goes
      pub answer : HasCleanDisk (state g new.now) → IsArchive (state g old.now).now
          → (s : State) → Represents (state g old.now).now.trees s → Answers view result (step s).answer
      pub made : HasCleanDisk (state g new.now) → IsArchive (state g old.now).now
          → (s : State) → Represents (state g old.now).now.trees s
          → OnOk result (IsArchive (state g new.now).now × Represents (state g new.now).now.trees (step s).after)
      pub others : HasCleanDisk (state g new.now) → IsArchive (state g old.now).now
          → (s : State) → Represents (state g old.now).now.trees s
          → (n : ℕ) → driver_of n (step s).after ≡ driver_of n s
          → OnOk result (KeepsRowsOf n (state g old.now).now.trees (state g new.now).now.trees)

    -- Likewise for a step that depends on a value `p` that was found before it, for which `given p` holds.
    pub record StepsGiven {B P : Type 0} (given : P → Trees → State → Type 0) (view : A → B) (step : P → State → Turn B) : Type 0 where
      pub stays : Stays g old new
      pub keeps : HasCleanDisk (state g new.now) → IsArchive (state g old.now).now → KeepsCommit (state g old.now) (state g new.now)
      pub of_no_file : IsOfNoFile result
      pub answer : HasCleanDisk (state g new.now) → IsArchive (state g old.now).now
          → (s : State) → Represents (state g old.now).now.trees s
          → (p : P) → given p (state g old.now).now.trees s → Answers view result (step p s).answer
      pub made : HasCleanDisk (state g new.now) → IsArchive (state g old.now).now
          → (s : State) → Represents (state g old.now).now.trees s → (p : P) → given p (state g old.now).now.trees s
          → OnOk result (IsArchive (state g new.now).now × Represents (state g new.now).now.trees (step p s).after)
      pub others : HasCleanDisk (state g new.now) → IsArchive (state g old.now).now
          → (s : State) → Represents (state g old.now).now.trees s → (p : P) → given p (state g old.now).now.trees s
          → (n : ℕ) → driver_of n (step p s).after ≡ driver_of n s
          → OnOk result (KeepsRowsOf n (state g old.now).now.trees (state g new.now).now.trees)

  -- A change of the tables, for tables for which `given` holds.
  pub record ChangesWhere {A E : Type 0} (result : Result A E) (given : Tables → Type 0) (step : Tables → Tables) : Type 0 where
    pub stays : Stays g old new
    pub keeps : HasCleanDisk (state g new.now) → IsArchive (state g old.now).now → KeepsCommit (state g old.now) (state g new.now)
    pub schema : HasCleanDisk (state g new.now) → IsArchive (state g old.now).now
        → OnOk result (IsArchive (state g new.now).now)
    pub turned : HasCleanDisk (state g new.now) → IsArchive (state g old.now).now
        → (t : Tables) → HasTables (state g old.now).now.trees t → given t → OnOk result (HasTables (state g new.now).now.trees (step t))

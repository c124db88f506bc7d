-- Trusted: A driver's own tasks: they depend on that driver's rows alone, and change no other driver's.
use Rattle.std.specs.Prelude.{◌≡◌, ◌≢◌, ℕ, List, Err}
use Rattle.tacho_state.specs.State.{State, driver_of}
use Rattle.tacho_state.specs.declared.caller.Caller.TheVariants as caller
use Rattle.tacho_desk.specs.Tasks.{Does}
use Rattle.tacho_desk.specs.Told.{Answer}
use Rattle.tacho_sheet.specs.declared.fault.Fault.{Fault}
use Rattle.tacho_desk.specs.declared.task.Task.{Task}
use Rattle.tacho_desk.specs.declared.task.Task.TheVariants as task

-- a driver's own task: the import of their card, a reading of what they have, or the version
abbrev pub IsOwnTask : ℕ → Task → Type 0
IsOwnTask n (task.Import (caller.Driver m) part) = m ≡ n
IsOwnTask n (task.Reading m text) = m ≡ n
IsOwnTask n (task.MonthReading m month text) = m ≡ n
IsOwnTask n (task.Form m before) = m ≡ n
IsOwnTask n (task.File m number) = m ≡ n
IsOwnTask n (task.Handover m period) = m ≡ n
IsOwnTask n (task.Driver m) = m ≡ n
IsOwnTask n (task.Ahead m minute) = m ≡ n
IsOwnTask n task.Version = Unit {0}
IsOwnTask n t = ⊥

-- if two states have the same rows of a driver, each answer of the driver's own task in one state is an answer in the other, and the
-- driver's rows are the same after it
abbrev pub SameAnswers : Type 0
SameAnswers = (n : ℕ) (t : Task) → IsOwnTask n t → (input : List ℕ) (s other : State) → driver_of n s ≡ driver_of n other
    → (answer : Answer) (after : State) → Does t input s answer after
    → (left : State) × Does t input other answer left × (driver_of n after ≡ driver_of n left)

-- a driver's own task has only one answer, and only one state after it
abbrev pub OneAnswer : Type 0
OneAnswer = (n : ℕ) (t : Task) → IsOwnTask n t → (input : List ℕ) (s : State) (a b : Answer) (after left : State)
    → Does t input s a after → Does t input s b left → (a ≡ b) × (after ≡ left)

-- no other driver's rows change
abbrev pub OthersStay : Type 0
OthersStay = (n : ℕ) (t : Task) → IsOwnTask n t → (input : List ℕ) (s : State) (answer : Answer) (after : State) → Does t input s answer after
    → (m : ℕ) → m ≢ n → driver_of m after ≡ driver_of m s

-- a refusal changes nothing, whoever is refused
abbrev pub RefusalsStay : Type 0
RefusalsStay = (t : Task) (input : List ℕ) (s : State) (f : Fault) (after : State) → Does t input s (Err f) after → after ≡ s

-- Trusted: The requirements of a task: what it answers, and the state of the archive after it.
use Rattle.std.specs.Prelude.{◌≡◌, ◌⊎◌, ◌∷◌, [], Bool, true, false, List, Option, None, Some, Result, Ok, Err, OnOk, ℕ}
use Rattle.tacho_state.specs.declared.fault.StoreFault.{StoreFault}
use Rattle.tacho_state.specs.declared.fault.StoreFault.TheVariants as store
use Rattle.tacho_state.specs.State.{Driver, State, driver_of}
use Rattle.tacho_state.specs.Steps.{Turn}
use Rattle.tacho_sheet.specs.declared.fault.Fault.{Fault}
use Rattle.tacho_sheet.specs.declared.fault.Fault.TheVariants as fault
use Rattle.tacho_time.specs.declared.fault.TimeFault.TheVariants as time
use Rattle.tacho_sheet.specs.Fault.{IsFailure, fault_of_store}
use Rattle.tacho_desk.specs.Told.{Answer, Told, File, Long}

-- a relation between the answer and the state after it
abbrev pub Doing : Type 1
Doing = Answer → State → Type 0

-- the answer is the fault, and nothing changes
abbrev pub Refuses : Fault → State → Doing
Refuses f s answer after = (answer ≡ Err f) × (after ≡ s)

-- the archive's answer, as text
abbrev pub in_words : {A : Type 0} → (A → Told) → Result A StoreFault → Answer
in_words words (Ok x) = Ok (words x)
in_words words (Err f) = Err (fault_of_store f)

-- a step of the archive, with its answer as text; a step that is refused leaves the state as it was
abbrev pub Steps : {A : Type 0} → (A → Told) → Turn A → Doing
Steps words turn answer after = (answer ≡ in_words words turn.answer) × (after ≡ turn.after)

-- the answer of a reading, as text; the state stays as it was
abbrev pub Lists : {A : Type 0} → (A → Told) → State → Result A StoreFault → Doing
Lists words s read answer after = (answer ≡ in_words words read) × (after ≡ s)

-- the answer is a text with this property
abbrev pub IsText : (List ℕ → Type 0) → Answer → Type 0
IsText Is (Ok (Long text)) = Is text
IsText Is answer = ⊥

-- the answer is a text with this property for the driver; S4 if there is none
abbrev pub IsTextOf : (Driver → List ℕ → Type 0) → Option Driver → Answer → Type 0
IsTextOf Is None answer = answer ≡ Err (fault_of_store store.UnknownDriver)
IsTextOf Is (Some d) answer = IsText (Is d) answer

-- the answer is the bytes of a file with this property; below, for the driver, or S4 if there is none
abbrev pub IsFile : (List ℕ → Type 0) → Answer → Type 0
IsFile Is (Ok (File bytes)) = Is bytes
IsFile Is answer = ⊥

abbrev pub IsFileOf : (Driver → List ℕ → Type 0) → Option Driver → Answer → Type 0
IsFileOf Is None answer = answer ≡ Err (fault_of_store store.UnknownDriver)
IsFileOf Is (Some d) answer = IsFile (Is d) answer

-- the answer is a text for the driver with the number; the state stays as it was
abbrev pub Shows : (Driver → List ℕ → Type 0) → ℕ → State → Doing
Shows Is n s answer after = IsTextOf Is (driver_of n s) answer × (after ≡ s)

-- ---- the states after a call

-- on success the answer is one that the task allows, and the archive has the state after it; on a fault the archive has the state before,
-- and the fault is one that the task allows, or memory ran out, or the store failed
abbrev pub Done : (State → Type 0) → State → Doing → Answer → Type 0
Done stands s Does (Ok told) = (after : State) × stands after × Does (Ok told) after
Done stands s Does (Err f) = stands s × (Does (Err f) s ⊎ IsFailure f)

-- on success the result is durable: a crash leaves the state after it and no other
abbrev pub IsDurable : (State → Type 0) → (List State → Type 0) → Doing → Answer → Type 0
IsDurable stands leaves Does (Ok told) = (after : State) × stands after × Does (Ok told) after × leaves (after ∷ [])
IsDurable stands leaves Does (Err f) = Unit {0}

-- a crash may leave what it could leave before the call; and on success also the state after the answer; and if memory ran out or the store
-- failed, also the state after some answer that the task allows
abbrev pub CrashMayLeave : (List State → Type 0) → List State → Doing → Answer → Type 0
CrashMayLeave leaves past Does (Ok told) = leaves past ⊎ ((after : State) × Does (Ok told) after × leaves (after ∷ past))
CrashMayLeave leaves past Does (Err f) =
    leaves past ⊎ (IsFailure f × ((answer : Answer) × (after : State) × Does answer after × leaves (after ∷ past)))

-- a state, and the states of which a crash may leave one
pub record Kept : Type 0 where
  pub state : State
  pub past : List State

-- the answer, and the state after it: on success as the task requires; on a fault the state before, and the fault is one that the task
-- allows, or memory ran out, or the store failed
abbrev pub Takes : Doing → State → Answer → State → Type 0
Takes Does s (Ok told) after = Does (Ok told) after
Takes Does s (Err f) after = (after ≡ s) × (Does (Err f) s ⊎ IsFailure f)

-- the states of which a crash may leave one after the answer: on success the state after it alone; on a fault those from before, and if
-- memory ran out or the store failed, also the state after some answer that the task allows
abbrev pub LeavesAfter : Doing → Answer → State → List State → List State → Type 0
LeavesAfter Does (Ok told) after past future = future ≡ after ∷ []
LeavesAfter Does (Err f) after past future =
    (future ≡ past) ⊎ (IsFailure f × ((answer : Answer) × (other : State) × Does answer other × (future ≡ other ∷ past)))

-- the call is a reading, or it is refused, and so changes nothing
abbrev pub ChangesNothing : Bool → Answer → Type 0
ChangesNothing false answer = Unit {0}
ChangesNothing true (Ok told) = ⊥
ChangesNothing true (Err f) = Unit {0}

-- a call does what the task requires. If the archive is clean after the call, it was clean before, and on success it is live. A reading and
-- a refusal leave every row as it was. What a command answered with success is durable.
pub record CarriesOut {K : Type 0} (stands : K → State → Type 0) (is_clean is_live : K → Type 0) (leaves : K → List State → Type 0)
    (is_same : K → K → Type 0) (old new : K) (command : Bool) (answer : Answer) (Does : State → Doing) : Type 0 where
  pub clean : is_clean new → is_clean old
  pub live : is_clean new → OnOk answer (is_live new)
  pub done : is_clean new → (s : State) → stands old s → Done (stands new) s (Does s) answer
  pub same : ChangesNothing command answer → is_clean new → (s : State) → stands old s → is_same old new
  pub kept : command ≡ true → is_clean new → (s : State) → stands old s → IsDurable (stands new) (leaves new) (Does s) answer
  pub crash : is_clean new → (s : State) (past : List State) → stands old s → leaves old past
      → CrashMayLeave (leaves new) past (Does s) answer

-- ---- access to the archive

-- the answer is a fault of the input, or out of memory
abbrev pub IsUnread : (Fault → Type 0) → Answer → Type 0
IsUnread IsFaulty (Ok told) = ⊥
IsUnread IsFaulty (Err f) = IsFaulty f ⊎ (f ≡ fault.Memory)

-- what an archive may answer for a valid input: a text, its own fault, or out of memory, but no fault of the input or of a device; a forecast
-- may also be out of range
abbrev pub IsOfArchive : Bool → Answer → Type 0
IsOfArchive forecast (Ok told) = Unit {0}
IsOfArchive forecast (Err fault.Memory) = Unit {0}
IsOfArchive forecast (Err (fault.Store (store.Card f))) = ⊥
IsOfArchive forecast (Err (fault.Store f)) = Unit {0}
IsOfArchive true (Err (fault.Time time.OutOfRange)) = Unit {0}
IsOfArchive forecast (Err f) = ⊥

-- either the input is valid, and the archive answers; or the archive was not accessed, and the answer is a fault of the input, or out of
-- memory
abbrev pub AsksOnly : {K : Type 0} → K → K → Bool → Type 0 → (Fault → Type 0) → Answer → Type 0
AsksOnly old new forecast IsSound IsFaulty answer = (IsSound × IsOfArchive forecast answer) ⊎ ((new ≡ old) × IsUnread IsFaulty answer)

-- Trusted: What a call does to an archive, in terms of states.
use Rattle.std.specs.Prelude.{◌≡◌, ℕ, List, [], ◌∷◌, Option, None, Some, Result, Ok, Err, OnOk, OnErr}
use Rattle.tacho_state.specs.declared.fault.StoreFault.{StoreFault}
use Rattle.tacho_state.specs.declared.fault.StoreFault.TheVariants.{Memory, Store, Card}
use Rattle.tacho_state.specs.declared.caller.Caller.{Caller}
use Rattle.tacho_state.specs.declared.caller.Caller.TheVariants.{Office, Driver}
use Rattle.tacho_state.specs.State.{State, driver_of}
use Rattle.tacho_state.specs.Steps.{Turn}

-- the number of a driver who calls; none for the office
abbrev pub caller_number : Caller → Option ℕ
caller_number Office = None
caller_number (Driver n) = Some n

-- the call's result is the step's answer, or the call gave up: it ran out of memory, or the store failed
abbrev pub Answers : {A B : Type 0} → (A → B) → Result A StoreFault → Result B StoreFault → Type 0
Answers view (Ok x) told = told ≡ Ok (view x)
Answers view (Err Memory) told = Unit {0}
Answers view (Err Store) told = Unit {0}
Answers view (Err fault) told = told ≡ Err fault

-- the archive was accessed and it answered: the call did not give up, and its card file had no fault
abbrev pub IsAnswered : {A : Type 0} → Result A StoreFault → Type 0
IsAnswered (Ok x) = Unit {0}
IsAnswered (Err Memory) = ⊥
IsAnswered (Err Store) = ⊥
IsAnswered (Err (Card fault)) = ⊥
IsAnswered (Err fault) = Unit {0}

-- the archive answered with a refusal
abbrev pub IsRefused : {A : Type 0} → Result A StoreFault → Type 0
IsRefused (Ok x) = ⊥
IsRefused (Err fault) = IsAnswered {A = Unit {0}} (Err fault)

-- the result is not a fault of a card file
abbrev pub IsOfNoFile : {A : Type 0} → Result A StoreFault → Type 0
IsOfNoFile (Err (Card fault)) = ⊥
IsOfNoFile answer = Unit {0}

-- the state after a call: the one before it if the call gave up or was refused
abbrev pub state_left_by : {A : Type 0} → Result A StoreFault → State → State → State
state_left_by (Ok x) before after = after
state_left_by (Err fault) before after = before

-- A call that changes the archive by a step. It answers as the step does and leaves the step's state, or it gives up and leaves the state
-- before. A call that returns an error changes no row. At each moment a crash may leave one of the states that it could leave before, or
-- the step's state; after an Ok, only the step's state. Only an open archive answers, and it is open after every answer, including a
-- refusal. A refusal, and a call on an archive that isn't open, don't change the states that a crash may leave. If the step doesn't change
-- a driver, the driver's rows stay the same.
pub record Acts {K A B : Type 0} (stands : K → State → Type 0) (is_clean is_live : K → Type 0) (leaves : K → List State → Type 0)
    (is_same : K → K → Type 0) (is_same_of : ℕ → K → K → Type 0) (view : A → B) (old new : K) (result : Result A StoreFault)
    (step : State → Turn B) : Type 0 where
  pub clean : is_clean new → is_clean old
  pub answer : is_clean new → (s : State) → stands old s → Answers view result (step s).answer
  pub state : is_clean new → (s : State) → stands old s → stands new (state_left_by result s (step s).after)
  pub same : is_clean new → (s : State) → stands old s → OnErr result (is_same old new)
  pub others : is_clean new → (s : State) → stands old s → (n : ℕ) → driver_of n (step s).after ≡ driver_of n s → is_same_of n old new
  pub answered : is_clean new → IsAnswered result → is_live old
  pub was_live : is_clean new → is_live new → is_live old
  pub live : is_clean new → IsAnswered result → is_live new
  pub crash : is_clean new → (s : State) (past : List State) → stands old s → leaves old past → leaves new ((step s).after ∷ past)
  pub shut : is_clean new → ¬ is_live old → (past : List State) → leaves old past → leaves new past
  pub refused : is_clean new → IsRefused result → (past : List State) → leaves old past → leaves new past
  pub kept : is_clean new → (s : State) → stands old s → OnOk result (leaves new ((step s).after ∷ []))

-- A call that reads the archive. It answers from the state or gives up, and changes nothing. An archive that answered is open, also after a
-- refusal. A reading never fails with the fault of a card file.
pub record Reads {K A B : Type 0} (stands : K → State → Type 0) (is_clean is_live : K → Type 0) (leaves : K → List State → Type 0)
    (is_same : K → K → Type 0) (view : A → B) (old new : K) (result : Result A StoreFault) (told : State → Result B StoreFault) : Type 0 where
  pub clean : is_clean new → is_clean old
  pub answer : is_clean new → (s : State) → stands old s → Answers view result (told s)
  pub state : is_clean new → (s : State) → stands old s → stands new s
  pub same : is_clean new → (s : State) → stands old s → is_same old new
  pub answered : is_clean new → IsAnswered result → is_live old
  pub was_live : is_clean new → is_live new → is_live old
  pub live : is_clean new → IsAnswered result → is_live new
  pub crash : is_clean new → (past : List State) → leaves old past → leaves new past
  pub of_no_file : IsOfNoFile result

-- Calls that only read the archive, one after the other. They changed nothing.
pub record OnlyRead {K : Type 0} (stands : K → State → Type 0) (is_clean : K → Type 0) (leaves : K → List State → Type 0)
    (is_same : K → K → Type 0) (old new : K) : Type 0 where
  pub clean : is_clean new → is_clean old
  pub state : is_clean new → (s : State) → stands old s → stands new s
  pub same : is_clean new → (s : State) → stands old s → is_same old new
  pub crash : is_clean new → (past : List State) → leaves old past → leaves new past

-- Trusted: Consecutive calls on an archive, and the states that a crash after them may leave.
use Rattle.std.specs.Prelude.{◌≡◌, List, [], ◌∷◌, Result, Ok, Err}
use Rattle.tacho_state.specs.declared.fault.StoreFault.{StoreFault}
use Rattle.tacho_state.specs.declared.fault.StoreFault.TheVariants.{Card}
use Rattle.tacho_state.specs.State.{State}
use Rattle.tacho_state.specs.Acts.{IsAnswered, state_left_by}

-- A call: its result without the value, and the state after its step. The step of a reading, or of a file with a fault, doesn't change the
-- state.
pub record Call : Type 0 where
  pub answer : Result (Unit {0}) StoreFault
  pub after : State → State

-- a call's result without its value
abbrev pub without_value : {A : Type 0} → Result A StoreFault → Result (Unit {0}) StoreFault
without_value (Ok x) = Ok tt
without_value (Err fault) = Err fault

-- the state after consecutive calls
abbrev pub state_after : List Call → State → State
state_after [] s = s
state_after (c ∷ calls) s = state_after calls (state_left_by c.answer s (c.after s))

-- the call did not give up: the archive answered, or the card file has a fault
abbrev pub IsDecided : Result (Unit {0}) StoreFault → Type 0
IsDecided (Err (Card fault)) = Unit {0}
IsDecided answer = IsAnswered answer

-- no call gave up
abbrev pub AreAnswered : List Call → Type 0
AreAnswered [] = Unit {0}
AreAnswered (c ∷ calls) = IsDecided c.answer × AreAnswered calls

module _ {K : Type 0} (stands : K → State → Type 0) (is_clean : K → Type 0) (leaves : K → List State → Type 0) where
  -- what the contract of a call says, as far as a run of calls needs it
  pub record IsCall (old new : K) (c : Call) : Type 0 where
    pub clean : is_clean new → is_clean old
    pub state : is_clean new → (s : State) → stands old s → stands new (state_left_by c.answer s (c.after s))
    pub kept : is_clean new → (s : State) → stands old s → IsDecided c.answer → leaves old (s ∷ [])
        → leaves new (state_left_by c.answer s (c.after s) ∷ [])
    pub crash : is_clean new → (s : State) (past : List State) → stands old s → leaves old past → leaves new (c.after s ∷ past)

  -- consecutive calls that lead from one value of the archive to another
  abbrev pub IsRun : List Call → K → K → Type 0
  IsRun [] old new = new ≡ old
  IsRun (c ∷ calls) old new = (mid : K) × IsCall old mid c × IsRun calls mid new

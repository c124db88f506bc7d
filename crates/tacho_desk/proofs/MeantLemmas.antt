-- If a call does one thing, it does each thing that this implies; and calls that do nothing but answer a fault.
use Rattle.std.proofs.Common.{◌≡◌, ◌⊎◌, Bool, List, Result, Ok, Err, ap, rules}
use Rattle.std.specs.Prelude.{IsErrAnd}
use Rattle.tacho_state.specs.State.{State}
use Rattle.tacho_state.proofs.ReadLemmas.{IsSameAsItself}
use Rattle.tacho_desk.specs.Doing.{Doing, CarriesOut}
use Rattle.tacho_sheet.specs.Fault.{IsFailure}
use Rattle.tacho_desk.specs.Told.{Answer, answer_of}
use Rattle.tacho_sheet.specs.declared.fault.Fault.{Fault}
use Rattle.tacho_desk.specs.declared.text.Text.{Text}

-- a result with a fault answers this fault
pub faulty : (result : Result Text Fault) (f : Fault) → IsErrAnd result (λ e. e ≡ f) → answer_of result ≡ Err f
faulty (Err e) f h = ap Err h
faulty (Ok text) f h = absurd h

module _ {K : Type 0} (stands : K → State → Type 0) (is_clean is_live : K → Type 0) (leaves : K → List State → Type 0)
    (is_same : K → K → Type 0) where
  -- if one meaning implies another, a call that does the first does the second
  pub served_as : (old new : K) (command : Bool) (answer : Answer) (A B : State → Doing)
      → ((s : State) (answer : Answer) (after : State) → A s answer after → B s answer after)
      → CarriesOut stands is_clean is_live leaves is_same old new command answer A → CarriesOut stands is_clean is_live leaves is_same old new command answer B
  served_as old new command (Ok told) A B h d = search rules
  served_as old new command (Err f) A B h d = search rules

  -- nothing was done: the task answers this fault, or memory ran out, or the store failed
  pub nothing : IsSameAsItself is_same → (keeper : K) (command : Bool) (f : Fault) (Does : State → Doing) → ((s : State) → Does s (Err f) s ⊎ IsFailure f)
      → CarriesOut stands is_clean is_live leaves is_same keeper keeper command (Err f) Does
  nothing same_self keeper command f Does h = (let same = same_self keeper in search rules)

-- What the functions for tasks do, derived from what their parts did.
use Rattle.std.proofs.Common.{◌≡◌, ◌⊎◌, inl, inr, ℕ, false, true, List, Result, Ok, Err, arith, rules}
use Rattle.std.specs.Prelude.{IsErrAnd}
use Rattle.tacho_card.specs.declared.fault.CardFault.{CardFault}
use Rattle.tacho_state.specs.Acts.{Acts, IsOfNoFile}
use Rattle.tacho_state.specs.State.{State}
use Rattle.tacho_state.specs.Steps.{Content, Turn}
use Rattle.tacho_state.specs.declared.fault.StoreFault.{StoreFault}
use Rattle.tacho_state.specs.declared.fault.StoreFault.TheVariants as store
use Rattle.tacho_desk.specs.Doing.{AsksOnly, Doing, CarriesOut, Steps, in_words}
use Rattle.tacho_sheet.specs.Fault.{IsFailure, card_fault, fault_of_store, sheet_fault}
use Rattle.tacho_sheet.specs.declared.fault.SheetFault.{SheetFault}
use Rattle.tacho_desk.specs.Tasks.{OrCsv}
use Rattle.tacho_desk.specs.Told.{Answer, Told, answer_of}
use Rattle.tacho_sheet.specs.declared.fault.Fault.{Fault}
use Rattle.tacho_desk.specs.declared.text.Text.{Text}
use Rattle.tacho_desk.proofs.MeantLemmas.{served_as}

module _ {K : Type 0} {stands : K → State → Type 0} {is_clean is_live : K → Type 0} {leaves : K → List State → Type 0}
    {is_same : K → K → Type 0} {old new : K} where
  -- what an input is read as decides what the task does
  pub read_as : {X : Type 0} {answer : Answer} {Is : X → Type 0} {Does : State → X → Doing} (x : X) → Is x
      → CarriesOut stands is_clean is_live leaves is_same old new true answer (λ s. Does s x)
      → CarriesOut stands is_clean is_live leaves is_same old new true answer (λ s answer after. (x : X) × Is x × Does s x answer after)
  read_as {X = X} {answer = answer} {Is = Is} {Does = Does} x is =
      served_as stands is_clean is_live leaves is_same old new true answer (λ s. Does s x)
      (λ s answer after. (x : X) × Is x × Does s x answer after) (λ s answer after does. (x, is, does))

  -- a step that was refused
  pub refused : {A B : Type 0} {is_same_of : ℕ → K → K → Type 0} {view : A → B} {f : StoreFault} {step : State → Turn B}
      (words : B → Told) (result : Result Text Fault) → IsErrAnd result (λ e. e ≡ fault_of_store f)
      → ((s : State) (g : StoreFault) → (step s).answer ≡ Err g → (step s).after ≡ s) → IsOfNoFile {A = A} (Err f) ⊎ (new ≡ old)
      → Acts stands is_clean is_live leaves is_same is_same_of view old new (Err f) step
      → CarriesOut stands is_clean is_live leaves is_same old new true (answer_of result) (λ s. Steps words (step s))
  refused words result is keeps of_file acts = search rules

-- a text of CSV that was not read: its first fault, or E8; or memory ran out
pub unread : {K A : Type 0} {stands : K → State → Type 0} {is_clean is_live : K → Type 0} {leaves : K → List State → Type 0}
    {is_same : K → K → Type 0} {keeper : K} {Is : Result A SheetFault → Type 0} {Does : State → Result A SheetFault → Doing}
    (f : SheetFault) (result : Result Text Fault) → IsErrAnd result (λ e. e ≡ sheet_fault f) → is_same keeper keeper
    → ((s : State) → Does s (Err f) (Err (sheet_fault f)) s) → OrCsv Is (Err f) ⊎ IsFailure (sheet_fault f)
    → CarriesOut stands is_clean is_live leaves is_same keeper keeper true (answer_of result)
    (λ s answer after. (read : Result A SheetFault) × OrCsv Is read × Does s read answer after)
unread f result is same refuses (inl read) = read_as (Err f) read (search rules)
unread f result is same refuses (inr up) = search rules

-- a result is the fault of a file, or it isn't
of_file : {A : Type 0} (result : Result A StoreFault) → IsOfNoFile result ⊎ ((g : CardFault) × (result ≡ Err (store.Card g)))
of_file result = grind arith

-- how an import answers, by what its file tells
module _ {K A : Type 0} {old new : K} {result : Result A StoreFault} (Is : Result Content CardFault → Type 0)
    (unreadable : (g : CardFault) → Is (Err g) → ((result ≡ Err store.Memory) ⊎ (result ≡ Err (store.Card g))) × (new ≡ old))
    (readable : (g : CardFault) → result ≡ Err (store.Card g) → Is (Err g)) where
  -- if it answers the fault of a file, the archive was not accessed
  pub import_of_file : IsOfNoFile result ⊎ (new ≡ old)
  import_of_file = by (of_file result)
    where
      by : IsOfNoFile result ⊎ ((g : CardFault) × (result ≡ Err (store.Card g))) → IsOfNoFile result ⊎ (new ≡ old)
      by (inl none) = inl none
      by (inr (g, is)) = inr (unreadable g (readable g is)).1

  -- a card file with a fault doesn't access the archive, and only such a file is answered with a file's fault
  abbrev pub AsksFile : Answer → Type 0
  AsksFile =
      AsksOnly old new false ((content : Content) × Is (Ok content)) (λ f. (g : CardFault) × Is (Err g) × (f ≡ card_fault g))

  pub import_asks : (words : A → Told) (answer : Answer) (content : Result Content CardFault) → Is content → answer ≡ in_words words result
      → AsksFile answer
  import_asks words answer content is e = by content is (of_file result)
    where
      faulty : (g : CardFault) → Is (Err g) → AsksFile answer
      faulty g is = (let un = unreadable g is in search rules)

      by : (content : Result Content CardFault) → Is content → IsOfNoFile result ⊎ ((g : CardFault) × (result ≡ Err (store.Card g)))
          → AsksFile answer
      by (Ok content) is (inl none) = search rules
      by (Ok content) is (inr (g, at)) = faulty g (readable g at)
      by (Err g) is any = faulty g is

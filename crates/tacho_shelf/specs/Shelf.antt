-- Private to tacho_shelf: What the functions of a shelf do to its drivers.
use Rattle.std.specs.Prelude.{◌≡◌, ℕ, zero, suc, ◌<◌, ◌≤◌, false, List, [], ◌∷◌, ◌++◌, length, Option, None, Some, Result, Ok, Err, MatchResult, OnErr, slice_get}
use Rattle.tacho_time.specs.OrMemory.{OrMemory}
use Rattle.tacho_time.specs.declared.span.Span.{Span}
use Rattle.tacho_time.specs.Spans.{Gives, Conflicts}
use Rattle.tacho_card.specs.declared.fault.CardFault.{CardFault}
use Rattle.tacho_card.specs.declared.file.Part.{Part}
use Rattle.tacho_state.specs.declared.fault.StoreFault.{StoreFault}
use Rattle.tacho_state.specs.declared.fault.StoreFault.TheVariants.{Memory, Contradiction, Card}
use Rattle.tacho_state.specs.Content.{FileTells}
use Rattle.tacho_state.specs.Registration.{Registration}
use Rattle.tacho_state.specs.State.{Download, Entry, Driver, State, entry_from, given_spans, entered_spans}
use Rattle.tacho_state.specs.Distinct.{HasNot}
use Rattle.tacho_state.specs.Steps.{Own, most_records, refusal_turn, turn_of, import_own, import_step}
use Rattle.tacho_state.specs.Acts.{IsOfNoFile}

-- no two drivers have the same number
abbrev pub AreNumbered : State → Type 0
AreNumbered [] = Unit {0}
AreNumbered (d ∷ s) = HasNot d.number s × AreNumbered s

-- a driver's downloads and entries give no minute two marks, and there are at most `most_records` of each
pub record AreKept (downloads : List Download) (entries : List Entry) : Type 0 where
  pub agreed : (m : ℕ) → ¬ (Conflicts (Gives (given_spans downloads ++ entered_spans entries)) m)
  pub few_downloads : length downloads ≤ most_records
  pub few : length entries ≤ most_records

-- the place of the driver who was looked for, or none if there is no such driver
abbrev pub IsIndexOf : State → Option Driver → Option ℕ → Type 0
IsIndexOf s sought (Some i) = (i < length s) × (slice_get s i ≡ sought)
IsIndexOf s sought None = sought ≡ None

-- the fault is out of memory, or the step's answer
abbrev pub IsStepFault : {A : Type 0} → Result A StoreFault → StoreFault → Type 0
IsStepFault told fault = OrMemory Memory fault (told ≡ Err fault)

-- the call does to the driver what a command on one driver does, or it gives up and changes nothing; the number stays
pub record IsOwnStep {A B : Type 0} (view : A → B) (own : Own B) (old new : Driver) (result : Result A StoreFault) : Type 0 where
  pub told : MatchResult result (λ done. own old ≡ Ok (view done, new)) (IsStepFault (own old))
  pub left : OnErr result (new ≡ old)
  pub number : new.number ≡ old.number
  pub of_no_file : IsOfNoFile result

-- the fault is out of memory, or the least minute that is contradicted
abbrev pub IsLeast : Option ℕ → StoreFault → Type 0
IsLeast least fault = OrMemory Memory fault ((m : ℕ) × (fault ≡ Contradiction m) × (least ≡ Some m))

-- the record with this number, of which the first has number 1
abbrev pub numbered : {A : Type 0} → ℕ → List A → Option A
numbered zero records = None
numbered (suc i) records = slice_get records i

-- there is an entry with this number, which isn't withdrawn
abbrev pub IsEntered : List Entry → ℕ → Type 0
IsEntered entries number = (e : Entry) × (entry_from 1 number entries ≡ Some e) × (e.withdrawn ≡ false)

-- the fault is out of memory, or the first fault of the card file for this part
abbrev pub IsCardFault : Part → List ℕ → StoreFault → Type 0
IsCardFault part bytes fault = OrMemory Memory fault ((f : CardFault) × (fault ≡ Card f) × FileTells part bytes (Err f))

-- for this caller (no number for the office), the card with this holder is that of the driver at this place: S4, S5
abbrev pub IsOwnerAt : State → Option ℕ → List ℕ → ℕ → Type 0
IsOwnerAt s caller holder i =
    (d : Driver) × (slice_get s i ≡ Some d) × ((part : ℕ) (file : List ℕ) (spans : List Span)
    → import_step caller part file (Ok (record { holder = holder; spans = spans })) s ≡ turn_of s (import_own part file spans d))

-- the import of a card with this holder is refused with this fault
abbrev pub IsOwnerFault : State → Option ℕ → List ℕ → StoreFault → Type 0
IsOwnerFault s caller holder fault =
    (part : ℕ) (file : List ℕ) (spans : List Span)
    → import_step caller part file (Ok (record { holder = holder; spans = spans })) s ≡ refusal_turn fault s

-- a driver who was just registered
abbrev pub new_driver : Registration → Driver
new_driver r = record { number = r.number; holder = r.holder; key = r.key; base = r.base; name = r.name; downloads = []; entries = [] }

-- What docs/FORMATS.md says of tasks is what the definitions say: with another value here, this file isn't accepted.
use Rattle.std.proofs.Common.{◌≡◌, List, [], ◌∷◌, Ok, Err, Some, codes, map, true, false, refl}
use Rattle.tacho_card.specs.declared.fault.CardFault.TheVariants as card
use Rattle.tacho_card.specs.declared.file.Part.TheVariants as part
use Rattle.tacho_state.specs.declared.caller.Caller.TheVariants as caller
use Rattle.tacho_state.specs.declared.fault.StoreFault.TheVariants as store
use Rattle.tacho_sheet.specs.Fault.{fault_of_store}
use Rattle.tacho_desk.specs.Wants.{is_command, is_own, takes_input}
use Rattle.tacho_desk.specs.Words.{by_part, minute_text_of, part_of}
use Rattle.tacho_sheet.specs.declared.fault.Fault.TheVariants as fault
use Rattle.tacho_desk.specs.declared.task.Task.TheVariants as task
use Rattle.tacho_desk.specs.declared.want.MonthReading.TheVariants as month
use Rattle.tacho_desk.specs.declared.want.Reading.TheVariants as reading
use Rattle.tacho_desk.specs.declared.want.Want.{Want}
use Rattle.tacho_desk.specs.declared.want.Want.TheVariants.{Ahead, Base, Drivers, Enter, File, Forecast, Form, Handover, Import, Key, MonthReading, Name, Reading, Register, Withdraw}

-- ---- all kinds of tasks

abbrev all_wants : List Want
all_wants = Register ∷ Import ∷ Enter ∷ Withdraw ∷ Base ∷ Key ∷ Name ∷ Form ∷ (Reading reading.Breaches) ∷ (Reading reading.Owed) ∷ (Reading reading.Entries)
    ∷ (MonthReading month.Spans) ∷ (MonthReading month.Gaps) ∷ (MonthReading month.Sheet) ∷ File ∷ Handover ∷ Drivers ∷ Ahead ∷ Forecast ∷ []

-- whether each has an input
pub inputs : map takes_input all_wants
    ≡ true ∷ true ∷ true ∷ false ∷ false ∷ true ∷ true ∷ false ∷ false ∷ false ∷ false ∷ false ∷ false ∷ false ∷ false ∷ false ∷ false ∷ false ∷ false ∷ []
inputs = refl

-- whether each changes the archive
pub commands : map is_command all_wants
    ≡ true ∷ true ∷ true ∷ true ∷ true ∷ true ∷ true ∷ false ∷ false ∷ false ∷ false ∷ false ∷ false ∷ false ∷ false ∷ false ∷ false ∷ false ∷ false ∷ []
commands = refl

-- whether each is a driver's own
pub own : map is_own all_wants
    ≡ false ∷ true ∷ false ∷ false ∷ false ∷ false ∷ false ∷ true ∷ true ∷ true ∷ true ∷ true ∷ true ∷ true ∷ true ∷ true ∷ true ∷ true ∷ false ∷ []
own = refl

-- ---- arguments

pub both : by_part (part_of (codes "both")) (λ p. task.Import caller.Office p) ≡ Ok (task.Import caller.Office part.Both)
both = refl

pub first : part_of (codes "first") ≡ Some part.First
first = refl

pub second : part_of (codes "second") ≡ Some part.Second
second = refl

pub capital : by_part (part_of (codes "Both")) (λ p. task.Import (caller.Driver 17) p) ≡ Err fault.Part
capital = refl

-- a day and a time are read as one text
pub day_and_time : minute_text_of (codes "2024-03-04") (codes "12:00") ≡ codes "2024-03-04 12:00"
day_and_time = refl

-- ---- faults

pub memory : map fault_of_store (store.Memory ∷ store.Card card.Memory ∷ []) ≡ fault.Memory ∷ fault.Memory ∷ []
memory = refl

pub store_failed : fault_of_store store.Store ≡ fault.Store store.Store
store_failed = refl

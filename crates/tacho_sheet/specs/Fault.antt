-- Trusted: Why something was not done, by what a library reports.
use Rattle.tacho_card.specs.declared.fault.CardFault.{CardFault}
use Rattle.tacho_card.specs.declared.fault.CardFault.TheVariants as card
use Rattle.tacho_time.specs.declared.fault.TimeFault.{TimeFault}
use Rattle.tacho_time.specs.declared.whole.ReadFault.{ReadFault}
use Rattle.tacho_time.specs.declared.whole.ReadFault.TheVariants as read
use Rattle.tacho_state.specs.declared.fault.StoreFault.{StoreFault}
use Rattle.tacho_state.specs.declared.fault.StoreFault.TheVariants as store
use Rattle.tacho_sheet.specs.declared.fault.SheetFault.{SheetFault}
use Rattle.tacho_sheet.specs.declared.fault.SheetFault.TheVariants as sheet
use Rattle.tacho_sheet.specs.declared.fault.Fault.{Fault}
use Rattle.tacho_sheet.specs.declared.fault.Fault.TheVariants as fault

-- the fault of an input that was not read
abbrev pub read_fault : ReadFault → Fault
read_fault read.TooLarge = fault.TooLarge
read_fault read.Failed = fault.Device
read_fault read.Memory = fault.Memory

-- that of a card; below, of an archive, of a text of CSV, and of a date. A fault has one value, whichever library reports it: if one of them
-- ran out of memory, it is Memory, and that of a card file is Card.
abbrev pub card_fault : CardFault → Fault
card_fault card.Memory = fault.Memory
card_fault f = fault.Card f

abbrev pub fault_of_store : StoreFault → Fault
fault_of_store store.Memory = fault.Memory
fault_of_store (store.Card f) = card_fault f
fault_of_store f = fault.Store f

abbrev pub sheet_fault : SheetFault → Fault
sheet_fault sheet.Memory = fault.Memory
sheet_fault f = fault.Sheet f

abbrev pub time_fault : TimeFault → Fault
time_fault f = fault.Time f

-- out of memory, or the store failed
abbrev pub IsFailure : Fault → Type 0
IsFailure fault.Memory = Unit {0}
IsFailure (fault.Store store.Store) = Unit {0}
IsFailure f = ⊥

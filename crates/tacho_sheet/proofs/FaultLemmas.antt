-- A fault has one value: a fault that a library reports is never converted to one in which that library's, or a lower one's, out of memory
-- is left.
use Rattle.std.proofs.Common.{◌≡◌, Bool, true, false, arith}
use Rattle.tacho_card.specs.declared.fault.CardFault.{CardFault}
use Rattle.tacho_card.specs.declared.fault.CardFault.TheVariants as card
use Rattle.tacho_state.specs.declared.fault.StoreFault.{StoreFault}
use Rattle.tacho_state.specs.declared.fault.StoreFault.TheVariants as store
use Rattle.tacho_sheet.specs.Fault.{card_fault, fault_of_store, sheet_fault}
use Rattle.tacho_sheet.specs.declared.fault.SheetFault.{SheetFault}
use Rattle.tacho_sheet.specs.declared.fault.SheetFault.TheVariants as sheet
use Rattle.tacho_sheet.specs.declared.fault.Fault.{Fault}
use Rattle.tacho_sheet.specs.declared.fault.Fault.TheVariants as fault

-- a second value of M1, or of a fault of a card file
abbrev is_second : Fault → Bool
is_second (fault.Card card.Memory) = true
is_second (fault.Sheet sheet.Memory) = true
is_second (fault.Store store.Memory) = true
is_second (fault.Store (store.Card f)) = true
is_second f = false

of_card : (f : CardFault) → is_second (card_fault f) ≡ false
of_card f = grind arith

of_store : (f : StoreFault) → is_second (fault_of_store f) ≡ false
of_store f = grind arith

of_sheet : (f : SheetFault) → is_second (sheet_fault f) ≡ false
of_sheet f = grind arith

-- Values in the documents, computed: what each subcommand does, and the status and line of a fault.
use Rattle.std.proofs.Common.{◌≡◌, ◌∷◌, ◌++◌, List, [], Some, None, codes, map, refl}
use Rattle.std.specs.Prelude.{replicate}
use Rattle.tacho_time.specs.declared.fault.TimeFault.TheVariants as time
use Rattle.tacho_card.specs.declared.fault.CardFault.{CardFault}
use Rattle.tacho_card.specs.declared.fault.CardFault.TheVariants as card
use Rattle.tacho_state.specs.declared.driver.Column.TheVariants as column
use Rattle.tacho_state.specs.declared.fault.StoreFault.TheVariants as store
use Rattle.tacho_sheet.specs.declared.fault.LeftOut.TheVariants as left_out
use Rattle.tacho_sheet.specs.declared.fault.SheetFault.TheVariants as sheet
use Rattle.tacho_sheet.specs.declared.fault.Fault.{Fault}
use Rattle.tacho_sheet.specs.declared.fault.Fault.TheVariants as fault
use Rattle.tacho_sheet.specs.Fault.{card_fault, fault_of_store, sheet_fault}
use Rattle.tacho_sheet.specs.Lines.{fault_line}
use Rattle.tacho_cli.specs.Fault.{exit_status}
use Rattle.tacho_cli.specs.Words.{act_named}
use Rattle.tacho_desk.specs.Commands.{all_commands}

-- ---- subcommands

-- what each does
each_named : map (λ row. act_named row.name all_commands) all_commands ≡ map (λ row. Some row.act) all_commands
each_named = refl

-- another name is no subcommand
other_name : act_named (codes "holders") all_commands ≡ None
other_name = refl

-- ---- faults

-- status 1 after a refusal: of a date, of an input, of a number, of a period, of a part
refused : map exit_status
    (map (λ f. fault.Time f) (time.Shape ∷ time.NoSuchDate ∷ time.OutOfRange ∷ [])
    ++ fault.TooLarge ∷ fault.Number ∷ fault.Order ∷ fault.Period ∷ fault.Part ∷ [])
    ≡ replicate 8 1
refused = refl

-- of a card or a card file
abbrev card_faults : List CardFault
card_faults =
    card.Truncated 40 ∷ card.Twice 1284 0 ∷ card.NoIdentification ∷ card.ShortIdentification ∷ card.TwoCards ∷ card.NoActivity
    ∷ card.ShortActivity ∷ card.Pointer ∷ card.RecordLength 12 ∷ card.Chain 12 ∷ card.DayRange 12 ∷ card.WordMinute 24 ∷ card.WordOrder 26
    ∷ card.SelfContradiction 28491840 ∷ []

bad_cards : map (λ f. exit_status (fault.Card f)) card_faults ≡ replicate 14 1
bad_cards = refl

bad_files : map (λ f. exit_status (fault_of_store (store.Card f))) card_faults ≡ replicate 14 1
bad_files = refl

-- of the archive
refused_by_archive : map (λ f. exit_status (fault.Store f))
    (store.DriverTaken ∷ store.KeyTaken ∷ store.HolderTaken ∷ store.UnknownDriver ∷ store.NotYourCard ∷ store.Contradiction 28491840
    ∷ store.UnknownEntry ∷ store.AlreadyWithdrawn ∷ store.NotMonday ∷ store.UnknownDownload ∷ store.OldSchema ∷ store.Full ∷ [])
    ≡ replicate 12 1
refused_by_archive = refl

-- of a text of CSV
bad_texts : map (λ f. exit_status (fault.Sheet f))
    (sheet.Head ∷ sheet.Fields 2 ∷ sheet.Time 2 ∷ sheet.Order 2 ∷ sheet.LeftOut 2 left_out.Ferry ∷ sheet.Activity 2 ∷ sheet.TooLong 2
    ∷ sheet.Csv ∷ sheet.Column column.Key ∷ sheet.Text 2 column.Author ∷ sheet.Text 2 column.Note ∷ [])
    ≡ replicate 11 1
bad_texts = refl

-- if memory ran out, the store failed, or a device failed: status 3, and the line
abbrev failures : List Fault
failures = fault.Memory ∷ fault.Store store.Store ∷ fault.Device ∷ []

failed : map exit_status failures ≡ replicate 3 3
failed = refl

-- also if a library below ran out of memory
failed_below : map exit_status (card_fault card.Memory ∷ sheet_fault sheet.Memory ∷ fault_of_store store.Memory
    ∷ fault_of_store (store.Card card.Memory) ∷ []) ≡ replicate 4 3
failed_below = refl

failure_lines : map fault_line failures ≡ map codes ("M1 no memory\n" ∷ "S12 store failed\n" ∷ "X2 device failed\n" ∷ [])
failure_lines = refl

-- Trusted: The lines of faults.
use Rattle.std.specs.Prelude.{ℕ, ◌+◌, ◌/◌, ◌%◌, nat_lt, List, [], ◌∷◌, ◌++◌, codes, decimal, if◌then◌else◌}
use Rattle.tacho_time.specs.Text.{minute_text}
use Rattle.tacho_time.specs.declared.fault.TimeFault.{TimeFault}
use Rattle.tacho_time.specs.declared.fault.TimeFault.TheVariants as time
use Rattle.tacho_card.specs.declared.fault.CardFault.{CardFault}
use Rattle.tacho_card.specs.declared.fault.CardFault.TheVariants as card
use Rattle.tacho_state.specs.declared.driver.Column.{Column}
use Rattle.tacho_state.specs.declared.driver.Column.TheVariants as column
use Rattle.tacho_state.specs.declared.fault.StoreFault.{StoreFault}
use Rattle.tacho_state.specs.declared.fault.StoreFault.TheVariants as store
use Rattle.tacho_sheet.specs.declared.fault.LeftOut.{LeftOut}
use Rattle.tacho_sheet.specs.declared.fault.LeftOut.TheVariants as left_out
use Rattle.tacho_sheet.specs.declared.fault.SheetFault.{SheetFault}
use Rattle.tacho_sheet.specs.declared.fault.SheetFault.TheVariants as sheet
use Rattle.tacho_sheet.specs.declared.fault.Fault.{Fault}
use Rattle.tacho_sheet.specs.declared.fault.Fault.TheVariants as fault

-- the line of M1, out of memory
abbrev pub no_memory_line : List ℕ
no_memory_line = codes "M1 no memory\n"

-- a line that ends with a number, and a line that ends with a minute
abbrev pub line_at : List ℕ → ℕ → List ℕ
line_at words n = words ++ (decimal n ++ codes "\n")

abbrev pub line_at_minute : List ℕ → ℕ → List ℕ
line_at_minute words m = words ++ (minute_text m ++ codes "\n")

abbrev pub time_line : TimeFault → List ℕ
time_line time.Shape = codes "Z1 not of the shape\n"
time_line time.NoSuchDate = codes "Z2 no such date\n"
time_line time.OutOfRange = codes "Z3 out of range\n"

-- a number below sixteen as a lower-case hexadecimal digit
abbrev pub hexadecimal_digit : ℕ → ℕ
hexadecimal_digit n = if nat_lt n 10 then 48 + n else 87 + n

-- a byte in two digits, and a number of two bytes in four
abbrev pub byte_digits : ℕ → List ℕ
byte_digits byte = hexadecimal_digit (byte / 16) ∷ hexadecimal_digit (byte % 16) ∷ []

abbrev pub identifier_digits : ℕ → List ℕ
identifier_digits n = byte_digits (n / 256) ++ byte_digits (n % 256)

abbrev pub card_line : CardFault → List ℕ
card_line (card.Truncated offset) = line_at (codes "C1 truncated block at ") offset
card_line (card.Twice identifier kind) = codes "C2 block " ++ identifier_digits identifier ++ codes " " ++ byte_digits kind ++ codes " twice\n"
card_line card.NoIdentification = codes "C3 no identification\n"
card_line card.ShortIdentification = codes "C4 identification too short\n"
card_line card.TwoCards = codes "C5 two cards\n"
card_line card.NoActivity = codes "C6 no activity data\n"
card_line card.ShortActivity = codes "C7 activity data too short\n"
card_line card.Pointer = codes "C8 pointer out of the buffer\n"
card_line (card.RecordLength place) = line_at (codes "C9 record length at ") place
card_line (card.Chain place) = line_at (codes "C10 chain broken at ") place
card_line (card.DayRange place) = line_at (codes "C11 day out of range at ") place
card_line (card.WordMinute place) = line_at (codes "C12 word minute at ") place
card_line (card.WordOrder place) = line_at (codes "C13 word order at ") place
card_line (card.SelfContradiction minute) = line_at_minute (codes "C14 file contradicts itself at ") minute
card_line card.Memory = no_memory_line

abbrev pub store_line : StoreFault → List ℕ
store_line store.DriverTaken = codes "S1 driver taken\n"
store_line store.KeyTaken = codes "S2 key taken\n"
store_line store.HolderTaken = codes "S3 holder taken\n"
store_line store.UnknownDriver = codes "S4 unknown driver\n"
store_line store.NotYourCard = codes "S5 not your card\n"
store_line (store.Contradiction minute) = line_at_minute (codes "S6 contradiction at ") minute
store_line store.UnknownEntry = codes "S7 unknown entry\n"
store_line store.AlreadyWithdrawn = codes "S8 already withdrawn\n"
store_line store.NotMonday = codes "S9 not a Monday\n"
store_line store.UnknownDownload = codes "S10 unknown download\n"
store_line (store.Card f) = card_line f
store_line store.Store = codes "S12 store failed\n"
store_line store.OldSchema = codes "S13 old archive\n"
store_line store.Full = codes "S14 full\n"
store_line store.Memory = no_memory_line

abbrev pub left_out_word : LeftOut → List ℕ
left_out_word left_out.Crew = codes "crew"
left_out_word left_out.Ferry = codes "ferry"
left_out_word left_out.Out = codes "out"
left_out_word left_out.Derogation = codes "derogation"

abbrev pub column_name : Column → List ℕ
column_name column.Driver = codes "driver"
column_name column.Holder = codes "holder"
column_name column.Key = codes "key"
column_name column.Base = codes "base"
column_name column.Name = codes "name"
column_name column.Author = codes "author"
column_name column.Note = codes "note"

abbrev pub sheet_line : SheetFault → List ℕ
sheet_line sheet.Head = codes "E1 wrong head\n"
sheet_line (sheet.Fields row) = line_at (codes "E2 wrong fields in row ") row
sheet_line (sheet.Time row) = line_at (codes "E3 bad time in row ") row
sheet_line (sheet.Order row) = line_at (codes "E4 wrong order in row ") row
sheet_line (sheet.LeftOut row word) = codes "E5 left out in row " ++ (decimal row ++ (codes ": " ++ (left_out_word word ++ codes "\n")))
sheet_line (sheet.Activity row) = line_at (codes "E6 no such activity in row ") row
sheet_line (sheet.TooLong row) = line_at (codes "E7 too long in row ") row
sheet_line sheet.Csv = codes "E8 csv refused\n"
sheet_line (sheet.Column c) = codes "E9 bad value for " ++ (column_name c ++ codes "\n")
sheet_line (sheet.Text row c) = codes "E10 bad " ++ (column_name c ++ (codes " in row " ++ (decimal row ++ codes "\n")))
sheet_line sheet.Memory = no_memory_line

abbrev pub fault_line : Fault → List ℕ
fault_line (fault.Time f) = time_line f
fault_line (fault.Card f) = card_line f
fault_line (fault.Store f) = store_line f
fault_line (fault.Sheet f) = sheet_line f
fault_line fault.Number = codes "N1 bad number\n"
fault_line fault.Order = codes "N2 wrong order\n"
fault_line fault.Period = codes "Z4 period\n"
fault_line fault.Part = codes "P1 bad part\n"
fault_line fault.TooLarge = codes "X1 too large\n"
fault_line fault.Device = codes "X2 device failed\n"
fault_line fault.Memory = no_memory_line

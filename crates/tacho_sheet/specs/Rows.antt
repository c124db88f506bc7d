-- Trusted in part: The rows of a text of CSV: the records that csv reads with its default settings, with any number of fields, including
-- the head, after one byte order mark is removed.
use Rattle.std.specs.Prelude.{◌≡◌, ℕ, false, true, List, [], ◌∷◌, Option, Some, None}
use Rattle.std.specs.Borrow.{Bor}
use Rattle.csv.specs.Machine.{ends_at_end}
use Rattle.csv.specs.Reading.{AreRecords, Ready, default_config, is_flexible, reader_config, reader_state, reader_trim, source_of, strip_bom}
use Rattle.csv.specs.declared.reader.Reader.{Reader}
use Rattle.csv.specs.declared.reader.Trim.TheVariants as trim
use Rattle.csv.specs.declared.parser.State.TheVariants as st
use Rattle.csv.specs.declared.error.ErrorKind.{ErrorKind}
use Rattle.csv.specs.declared.error.ErrorKind.TheVariants as kind
use Rattle.tacho_sheet.specs.declared.fault.SheetFault.{SheetFault}
use Rattle.tacho_sheet.specs.declared.fault.SheetFault.TheVariants as fault

-- a row is a list of fields, and a field is a list of bytes
abbrev pub Row : Type 0
Row = List (List ℕ)

abbrev pub AreRows : List ℕ → List Row → Type 0
AreRows text rows = AreRecords default_config st.StartRecord (strip_bom text) rows

-- a reader of bytes that has yet to read a text, is between two records, and accepts rows with any number of fields
pub record HasLeft (reader : Reader (Bor (List ℕ))) (text : List ℕ) : Type 0 where
  pub trims : reader_trim reader ≡ trim.None
  pub ready : Ready reader
  pub config : reader_config reader ≡ default_config
  pub source : source_of (λ s. Some s.now) reader ≡ Some text
  pub between : ends_at_end (reader_state reader) ≡ false
  pub flexible : is_flexible reader ≡ true

-- the rows that a reader has yet to read
abbrev pub AreLeft : Reader (Bor (List ℕ)) → List Row → Type 0
AreLeft reader rows = (text : List ℕ) × (source_of (λ s. Some s.now) reader ≡ Some text) × AreRecords default_config (reader_state reader) text rows

-- the three fields of a row that has exactly three
abbrev pub Three : Type 0
Three = List ℕ × List ℕ × List ℕ

abbrev pub three_of : Row → Option Three
three_of (a ∷ b ∷ c ∷ []) = Some (a, b, c)
three_of _ = None

-- the five fields of a row that has exactly five
abbrev pub Five : Type 0
Five = List ℕ × List ℕ × List ℕ × List ℕ × List ℕ

abbrev pub five_of : Row → Option Five
five_of (a ∷ b ∷ c ∷ d ∷ e ∷ []) = Some (a, b, c, d, e)
five_of _ = None

-- out of memory, or E8
abbrev pub IsReaderFault : SheetFault → Type 0
IsReaderFault fault.Memory = Unit {0}
IsReaderFault fault.Csv = Unit {0}
IsReaderFault _ = ⊥

-- the fault that reports an error of the reader of CSV
abbrev pub reader_fault : ErrorKind → SheetFault
reader_fault kind.OutOfMemory = fault.Memory
reader_fault _ = fault.Csv

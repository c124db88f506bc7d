-- Private to tacho_check: Typed rows by what is shown of them, and what stands for them once they are read.
use Rattle.std.specs.Prelude.{◌≡◌, ℕ, ◌≤◌, pos, List, true, if◌then◌else◌, None}
use Rattle.std.specs.List.{AllByRecursion}
use Rattle.sqlite.specs.declared.types.Value.TheVariants.{Int, Text, Blob}
use Rattle.sqlite.specs.Order.{Row, column}
use Rattle.sqlite_schema.specs.declared.schema.Column.{Column}
use Rattle.sqlite_schema.specs.Rules.{are_typed}
use Rattle.tacho_time.specs.Limits.{greatest_minute}
use Rattle.tacho_time.specs.declared.span.Span.{Span}
use Rattle.tacho_state.specs.Numbers.{activity_number, mark_number}
use Rattle.tacho_state.specs.State.{Entry}
use Rattle.tacho_state.specs.Within.{IsEntry}
use Rattle.tacho_tables.specs.Ask.{Show}
use Rattle.tacho_check.specs.declared.files.FileRow.{FileRow}
use Rattle.tacho_check.specs.declared.hours.HoursRow.{HoursRow}

-- ---- stored rows

-- what is known of a driver's stored row, without its hidden number
pub record IsOwnRow (n : ℕ) (columns : List Column) (w : Row) : Type 0 where
  pub driver : column w 0 ≡ Int (pos n)
  pub typed : are_typed None 0 columns w ≡ true

-- the rows that were read show the stored rows of a driver in a table
pub record AreShown (n : ℕ) (columns : List Column) (shown : Row → Row) (own found : List Row) : Type 0 where
  pub same : Show shown own found
  pub each : AllByRecursion (IsOwnRow n columns) own

-- ---- spans

-- the span's numbers are minutes
pub record IsInCalendar (s : Span) : Type 0 where
  pub start : s.start ≤ greatest_minute
  pub past : s.past ≤ greatest_minute

pub record ShowsSpan (row : Row) (s : Span) : Type 0 where
  pub start : column row 0 ≡ Int (pos s.start)
  pub past : column row 1 ≡ Int (pos s.past)
  pub mark : column row 2 ≡ Int (pos (mark_number s.mark))
  pub within : IsInCalendar s

abbrev pub IsSpan : Span → Span → Type 0
IsSpan s t = s ≡ t

-- ---- card files

-- a card file with its number among the driver's downloads, and the part that was read
pub record NumberedFile : Type 0 where
  pub number : ℕ
  pub part : ℕ
  pub file : List ℕ

pub record ShowsFile (row : Row) (x : NumberedFile) : Type 0 where
  pub number : column row 0 ≡ Int (pos x.number)
  pub part : column row 1 ≡ Int (pos x.part)
  pub file : column row 2 ≡ Blob x.file

pub record IsFile (f : FileRow) (x : NumberedFile) : Type 0 where
  pub number : f.number ≡ x.number
  pub part : f.part ≡ x.part
  pub file : f.file.items ≡ x.file

-- ---- entries

-- an entry with its number among the driver's
pub record NumberedEntry : Type 0 where
  pub number : ℕ
  pub entry : Entry

-- the row shows an entry within its limits
pub record ShowsEntry (row : Row) (x : NumberedEntry) : Type 0 where
  pub number : column row 0 ≡ Int (pos x.number)
  pub start : column row 1 ≡ Int (pos x.entry.start)
  pub past : column row 2 ≡ Int (pos x.entry.past)
  pub mark : column row 3 ≡ Int (pos (activity_number x.entry.activity))
  pub withdrawn : column row 4 ≡ Int (pos (if x.entry.withdrawn then 1 else 0))
  pub author : column row 5 ≡ Text x.entry.author
  pub note : column row 6 ≡ Text x.entry.note
  pub within : IsEntry x.entry

-- its hours
abbrev pub hours_of : NumberedEntry → HoursRow
hours_of x = record {
  number = x.number;
  start = x.entry.start;
  past = x.entry.past;
  activity = x.entry.activity;
  withdrawn = x.entry.withdrawn;
}

abbrev pub AreHours : HoursRow → NumberedEntry → Type 0
AreHours h x = h ≡ hours_of x

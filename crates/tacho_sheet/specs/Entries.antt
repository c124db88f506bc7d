-- Trusted: The hours that the rows of a text enter, or the first fault: row by row, and within a row E2 to E7, then E10.
use Rattle.std.specs.Prelude.{◌≡◌, ◌+◌, ◌-◌, ◌||◌, ◌&&◌, ◌++◌, if◌then◌else◌, ℕ, Bool, false, List, [], ◌∷◌, length, Option, Some, None, Result, Ok, Err, nat_lt, nat_le, nat_eq, not, bytes_eq, codes, Vec}
use Rattle.std.specs.List.{list_all}
use Rattle.std.specs.Str.{is_utf8}
use Rattle.std.specs.declared.alloc.Global.{Global}
use Rattle.tacho_time.specs.Reading.{minute_at}
use Rattle.tacho_time.specs.declared.span.Activity.{Activity}
use Rattle.tacho_time.specs.declared.fault.TimeFault.{TimeFault}
use Rattle.tacho_state.specs.Batch.{Hours}
use Rattle.tacho_state.specs.declared.driver.Column.TheVariants as column
use Rattle.tacho_state.specs.declared.entry.EntryLine.{EntryLine}
use Rattle.tacho_sheet.specs.Words.{activity_of_text, left_out_of}
use Rattle.tacho_sheet.specs.Rows.{Row, AreRows}
use Rattle.tacho_sheet.specs.declared.entries.Head.{Head}
use Rattle.tacho_sheet.specs.declared.entries.Head.TheVariants.{Three, Five}
use Rattle.tacho_sheet.specs.declared.fault.LeftOut.{LeftOut}
use Rattle.tacho_sheet.specs.declared.fault.SheetFault.{SheetFault}
use Rattle.tacho_sheet.specs.declared.fault.SheetFault.TheVariants as fault

-- ---- a row

-- the texts of a row
pub record Texts : Type 0 where
  pub start : List ℕ
  pub past : List ℕ
  pub activity : List ℕ
  pub author : List ℕ
  pub note : List ℕ

-- the texts of a row; in a row of three columns the author is the office and the note is empty
abbrev pub texts_of : Head → Row → Option Texts
texts_of Three (a ∷ b ∷ c ∷ []) = Some (record { start = a; past = b; activity = c; author = codes "office"; note = [] })
texts_of Five (a ∷ b ∷ c ∷ d ∷ e ∷ []) = Some (record { start = a; past = b; activity = c; author = d; note = e })
texts_of _ _ = None

-- what a row gives before its author and its note: start, past and activity
abbrev pub Worked : Type 0
Worked = Result (ℕ × ℕ × Activity) SheetFault

-- E7 if the row is too long
abbrev pub check_length : ℕ → ℕ → ℕ → Activity → Worked
check_length row start past activity = if nat_lt 527040 (past - start) then Err (fault.TooLong row) else Ok (start, past, activity)

-- E5 or E6
abbrev pub active : ℕ → ℕ → ℕ → Option LeftOut → Option Activity → Worked
active row start past (Some left_out) activity = Err (fault.LeftOut row left_out)
active row start past None None = Err (fault.Activity row)
active row start past None (Some activity) = check_length row start past activity

-- E3; E4 compares with the end of the row before
abbrev pub check_times : ℕ → ℕ → List ℕ → Result ℕ TimeFault → Result ℕ TimeFault → Worked
check_times row before word (Err e) past = Err (fault.Time row)
check_times row before word (Ok start) (Err e) = Err (fault.Time row)
check_times row before word (Ok start) (Ok past) =
    if nat_le past start || nat_lt start before then Err (fault.Order row)
    else active row start past (left_out_of word) (activity_of_text word)

-- a byte of a name: no control, no comma and no double quote
abbrev pub is_name_byte : ℕ → Bool
is_name_byte c = nat_le 32 c && (not (nat_eq c 127) && (not (nat_eq c 44) && not (nat_eq c 34)))

-- the text is UTF-8 and consists of such bytes
abbrev pub is_plain_text : List ℕ → Bool
is_plain_text text = is_utf8 text && list_all is_name_byte text

-- an author has 1 to 64 bytes, and a note at most 200
abbrev pub is_author : List ℕ → Bool
is_author text = is_plain_text text && (nat_le 1 (length text) && nat_le (length text) 64)

abbrev pub is_note : List ℕ → Bool
is_note text = is_plain_text text && nat_le (length text) 200

abbrev pub RowAnswer : Type 0
RowAnswer = Result Hours SheetFault

-- E10 if the author or the note is out of its limits
abbrev pub check_author : ℕ → List ℕ → List ℕ → Worked → RowAnswer
check_author row author note (Err e) = Err e
check_author row author note (Ok worked) =
    if not (is_author author) then Err (fault.Text row column.Author)
    else (if not (is_note note) then Err (fault.Text row column.Note)
    else Ok (record { start = worked.0; past = worked.1; activity = worked.2; author = author; note = note }))

-- E2 if the number of fields is wrong
abbrev pub line_of_texts : ℕ → ℕ → Option Texts → RowAnswer
line_of_texts row before (Some t) = check_author row t.author t.note (check_times row before t.activity (minute_at t.start) (minute_at t.past))
line_of_texts row before None = Err (fault.Fields row)

-- the line of a row that comes after a row that ends at `before`, or the row's first fault
abbrev pub row_answer : Head → ℕ → ℕ → Row → RowAnswer
row_answer head row before fields = line_of_texts row before (texts_of head fields)

-- ---- rows

abbrev pub Lines : Type 0
Lines = Result (List Hours) SheetFault

abbrev pub with_line : RowAnswer → (Hours → Lines) → Lines
with_line (Err e) more = Err e
with_line (Ok line) more = more line

abbrev pub put_first : List Hours → Lines → Lines
put_first front (Ok rest) = Ok (front ++ rest)
put_first front (Err e) = Err e

-- the lines of the rows, numbered from `row`, or the first fault
unfoldable pub lines_from : Head → ℕ → ℕ → List Row → Lines
lines_from head row before [] = Ok []
lines_from head row before (fields ∷ rest) =
    with_line (row_answer head row before fields) (λ line. put_first (line ∷ []) (lines_from head (row + 1) line.past rest))

-- ---- the head

-- the texts are the names of the columns: `start,past,activity`, and then `author,note`
abbrev pub are_three_names : Option Texts → Bool
are_three_names (Some h) = bytes_eq h.start (codes "start") && (bytes_eq h.past (codes "past") && bytes_eq h.activity (codes "activity"))
are_three_names None = false

abbrev pub are_five_names : Option Texts → Bool
are_five_names (Some h) = are_three_names (Some h) && (bytes_eq h.author (codes "author") && bytes_eq h.note (codes "note"))
are_five_names None = false

-- the head that a row is, if it is one
abbrev pub head_of : Row → Option Head
head_of fields =
    if are_three_names (texts_of Three fields) then Some Three
    else (if are_five_names (texts_of Five fields) then Some Five else None)

-- E1 without a head; the head is row 1
abbrev pub lines_under : Option Head → List Row → Lines
lines_under None rows = Err fault.Head
lines_under (Some head) rows = lines_from head 2 0 rows

abbrev pub file_answer : List Row → Lines
file_answer [] = Err fault.Head
file_answer (head ∷ rows) = lines_under (head_of head) rows

-- an answer, with the list of its lines
abbrev pub lines_told : Result (Vec EntryLine Global) SheetFault → Lines
lines_told (Ok lines) = Ok lines.items
lines_told (Err e) = Err e

-- the answer for a text, if neither memory nor the reader of CSV fails
abbrev pub IsRead : List ℕ → Lines → Type 0
IsRead text answer = (rows : List Row) × AreRows text rows × (answer ≡ file_answer rows)

use Rattle.std.proofs.Common.{◌≡◌, ◌<◌, ◌+◌, ◌^◌, ℕ, List, Some, [], length, unwrap_or}
use Rattle.csv.specs.Reading.{source_of}
use Rattle.tacho_sheet.specs.Rows.{AreLeft, HasLeft, Row}
use Rattle.tacho_sheet.specs.Entries.{lines_from, put_first}
use Rattle.tacho_sheet.proofs.entries.lines_of_rows.Given as goal

-- for any rows that the reader has yet to read, the lines so far and those of these rows are the lines of the rows it had at the start
abbrev pub invariant-loop-lines : goal.invariant-loop-lines
invariant-loop-lines l =
    (text : List ℕ) × HasLeft l.reader text × (l.row + length text < 2 ^ 63 + 2)
    × ((rows : List Row) → AreLeft l.reader rows
    → (all : List Row) × AreLeft l.fn.reader all
    × (lines_from l.head 2 0 all ≡ put_first l.lines.items (lines_from l.head l.row l.before rows)))

-- the number of bytes that the reader has yet to read
abbrev pub decreases-loop-lines : goal.decreases-loop-lines
decreases-loop-lines l = length (unwrap_or (source_of (λ s. Some s.now) l.reader) [])

-- Trusted: A batch of hours, as they are entered by hand.
use Rattle.std.specs.Prelude.{◌+◌, ◌≤◌, ◌<◌, ℕ, false, List, [], ◌∷◌, map, All}
use Rattle.tacho_time.specs.declared.span.Activity.{Activity}
use Rattle.tacho_state.specs.declared.driver.Column.{Column}
use Rattle.tacho_state.specs.declared.driver.Column.TheVariants as column
use Rattle.tacho_state.specs.Limits.{IsName, IsNote}
use Rattle.tacho_state.specs.State.{Entry}

-- hours of one activity: minutes from start to before past, their author and note
pub record Hours : Type 0 where
  pub start : ℕ
  pub past : ℕ
  pub activity : Activity
  pub author : List ℕ
  pub note : List ℕ

-- this column is out of its limits; if it is the note, the author is within its limits
abbrev pub IsFirstBadText : Hours → Column → Type 0
IsFirstBadText line column.Author = ¬ (IsName line.author)
IsFirstBadText line column.Note = IsName line.author × ¬ (IsNote line.note)
IsFirstBadText line _ = ⊥

-- a line within 2000-01-03 to the end of 2099: it isn't empty, and has at most 366 days
pub record IsEntryLine (line : Hours) : Type 0 where
  pub first : 15780960 ≤ line.start
  pub full : line.start < line.past
  pub short : line.past ≤ line.start + 527040
  pub last : line.past ≤ 68374080

-- each line begins where the one before it ends, or later
abbrev pub AreHoursInOrder : List Hours → Type 0
AreHoursInOrder [] = Unit {0}
AreHoursInOrder (line ∷ []) = Unit {0}
AreHoursInOrder (line ∷ next ∷ lines) = (line.past ≤ next.start) × AreHoursInOrder (next ∷ lines)

pub record IsBatch (lines : List Hours) : Type 0 where
  pub each : All IsEntryLine lines
  pub order : AreHoursInOrder lines

-- the entry of a line of a batch
abbrev pub entry_of : Hours → Entry
entry_of line =
    record { start = line.start; past = line.past; activity = line.activity; author = line.author; note = line.note; withdrawn = false }

abbrev pub batch_of : List Hours → List Entry
batch_of lines = map entry_of lines

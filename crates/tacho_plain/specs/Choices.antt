-- Private to tacho_plain: The weeks for which all choices of a week for each weekly rest are tried (Regulation (EC) No 561/2006, Articles
-- 8(6), first subparagraph, and 8(9)).
use Rattle.std.specs.Prelude.{ℕ, ◌+◌, ◌<◌, ◌≤◌, List, length, slice_index_or}
use Rattle.tacho_law.specs.Line.{Line}
use Rattle.tacho_law.specs.Weeks.{IsWeeklyRest}
use Rattle.tacho_choice.specs.declared.week.WeekOfRests.{WeekOfRests}
use Rattle.tacho_choice.specs.Weeks.{IsWeekOfRests, week_none}
use Rattle.tacho_time.specs.Limits.{greatest_week}

-- the weeks of a line from a number on, each built from the weekly rests that touch it, up to the last numbered week
pub record AreWeeksOf (line : Line) (start : ℕ) (weeks : List WeekOfRests) : Type 0 where
  pub each : (i : ℕ) → i < length weeks
      → IsWeekOfRests (IsWeeklyRest line) (start + i) (slice_index_or weeks i week_none)
  pub early : start + length weeks ≤ greatest_week

use Rattle.std.proofs.Common.{◌≡◌, ◌+◌, length}
use Rattle.tacho_law.specs.Line.{Line}
use Rattle.tacho_law.specs.Runs.{AreRestsOf}
use Rattle.tacho_choice.specs.Weeks.{IsInWeeks}
use Rattle.tacho_plain.specs.Choices.{AreWeeksOf}
use Rattle.tacho_plain.proofs.choices.weeks_of_rests.Given as goal

abbrev pub invariant-loop-number : goal.invariant-loop-number
invariant-loop-number l = record {
  count : l.first + length l.weeks.items ≡ l.number;
  each : (line : Line) → AreRestsOf line 1440 l.weekly → IsInWeeks line → AreWeeksOf line l.first l.weeks.items;
}

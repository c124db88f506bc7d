use Rattle.std.proofs.Common.{◌+◌, ◌-◌, ◌<◌}
use Rattle.tacho_law.specs.Line.{Line}
use Rattle.tacho_law.specs.Runs.{AreRestsOf}
use Rattle.tacho_choice.specs.Weeks.{IsInWeeks}
use Rattle.tacho_plain.proofs.ServedLemmas.{AreJudged}
use Rattle.tacho_plain.proofs.rest_breaches.lacking_weeks.Given as goal

abbrev pub invariant-loop-at : goal.invariant-loop-at
invariant-loop-at l = record {
  before : l.start < l.at;
  judged : (line : Line) → AreRestsOf line 1440 l.weekly → IsInWeeks line
      → AreJudged line l.fn.horizon l.first (l.first + l.start) (l.first + (l.at - 1)) l.found.items;
}

use Rattle.std.proofs.Common.{◌≤◌, ◌<◌}
use Rattle.tacho_law.specs.Driving.{driving}
use Rattle.tacho_law.specs.Line.{line_of}
use Rattle.tacho_ahead.proofs.UsedLemmas.{Counted}
use Rattle.tacho_ahead.proofs.used.extended_before.Given as goal

abbrev pub invariant-loop-day : goal.invariant-loop-day
invariant-loop-day l = record {
  few : l.count ≤ l.day-index;
  seen :
      Counted (λ day. (l.start ≤ day.start) × (day.start < l.today) × (540 < driving (line_of l.examined.spans.now) day.start day.past))
      l.days l.day-index l.count;
}

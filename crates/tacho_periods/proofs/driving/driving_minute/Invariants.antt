use Rattle.std.proofs.Common.{◌<◌, ◌≤◌, ◌-◌, drop}
use Rattle.tacho_periods.proofs.DrivingLemmas.{Counted}
use Rattle.tacho_periods.proofs.driving.driving_minute.Given as goal

abbrev pub invariant-loop-span : goal.invariant-loop-span
invariant-loop-span l = record {
  some : 0 < l.left;
  within : l.left ≤ l.k;
  counted : Counted l.examined.spans.now (drop l.span-index l.later) l.examined.past l.from l.to (l.k - l.left);
}

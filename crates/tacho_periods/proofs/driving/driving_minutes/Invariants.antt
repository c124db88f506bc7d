use Rattle.std.proofs.Common.{drop}
use Rattle.tacho_periods.proofs.DrivingLemmas.{Counted}
use Rattle.tacho_periods.proofs.driving.driving_minutes.Given as goal

abbrev pub invariant-loop-span : goal.invariant-loop-span
invariant-loop-span l = Counted l.examined.spans.now (drop l.span-index l.later) l.examined.past l.from l.to l.count

use Rattle.std.proofs.Common.{◌≤◌}
use Rattle.tacho_ahead.proofs.UsedLemmas.{Counted, ReducedSince}
use Rattle.tacho_ahead.proofs.used.reduced_since.Given as goal

abbrev pub invariant-loop-day : goal.invariant-loop-day
invariant-loop-day l = record {
  few : l.count ≤ l.day-index;
  seen : Counted (ReducedSince l.parts l.weekly) l.days l.day-index l.count;
}

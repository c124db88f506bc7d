use Rattle.tacho_law.specs.SoFar.{AreCollected}
use Rattle.tacho_plain.proofs.LateRestLemmas.{LateBelow}
use Rattle.tacho_plain.proofs.rest_breaches.late_rests.Given as goal

abbrev pub invariant-loop-i : goal.invariant-loop-i
invariant-loop-i l = AreCollected (LateBelow l.weekly l.i) l.found.items

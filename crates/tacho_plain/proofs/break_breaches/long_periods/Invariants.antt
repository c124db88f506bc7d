use Rattle.tacho_law.specs.Line.{line_of}
use Rattle.tacho_plain.proofs.BreakBreachesLemmas.{Found}
use Rattle.tacho_plain.proofs.break_breaches.long_periods.Given as goal

abbrev pub invariant-loop-i : goal.invariant-loop-i
invariant-loop-i l = Found (line_of l.examined.spans.now) l.breaks l.i l.found.items

use Rattle.tacho_law.specs.Line.{line_of}
use Rattle.tacho_plain.specs.WeekBreaches.{AreOfWeeks}
use Rattle.tacho_plain.proofs.week_breaches.breaches_of_weeks.Given as goal

abbrev pub invariant-loop-number : goal.invariant-loop-number
invariant-loop-number l = AreOfWeeks (line_of l.examined.spans.now) l.first l.number l.found.items

use Rattle.tacho_law.specs.Line.{Line}
use Rattle.tacho_law.specs.Runs.{AreRestsOf}
use Rattle.tacho_evidence.proofs.ChosenLemmas.{HasWeeks}
use Rattle.tacho_evidence.proofs.choice.append_weeks.Given as goal

abbrev pub invariant-loop-number : goal.invariant-loop-number
invariant-loop-number l = (line : Line) → AreRestsOf line 1440 l.weekly
    → HasWeeks line l.first l.number l.initial.lines.items l.lines.items

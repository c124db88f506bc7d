use Rattle.std.proofs.Common.{take}
use Rattle.tacho_law.specs.Line.{Line}
use Rattle.tacho_law.specs.Debts.{AreDebts}
use Rattle.tacho_law.proofs.OverdueLemmas.{OverdueFound}
use Rattle.tacho_plain.proofs.compensation.overdue.Given as goal

abbrev pub invariant-loop-debt : goal.invariant-loop-debt
invariant-loop-debt l =
    (line : Line) → AreDebts line l.horizon l.debts → OverdueFound l.horizon (take l.debt-index l.debts) l.found.items

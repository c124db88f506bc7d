use Rattle.std.proofs.Common.{take}
use Rattle.std.specs.List.{All}
use Rattle.tacho_law.specs.declared.run.Run.{Run}
use Rattle.tacho_law.specs.Debts.{IsMainRest}
use Rattle.tacho_law.specs.Line.{Line}
use Rattle.tacho_law.specs.Runs.{AreRestsOf}
use Rattle.tacho_evidence.proofs.debts.main_of.Given as goal

abbrev pub invariant-loop-rest : goal.invariant-loop-rest
invariant-loop-rest l = (line : Line) → AreRestsOf line 1440 l.weekly
    → All (λ (run : Run). IsMainRest line l.horizon l.fn.week run → ⊥) (take l.rest-index l.rest-items)

use Rattle.std.proofs.Common.{take}
use Rattle.std.specs.List.{Contains}
use Rattle.tacho_law.specs.declared.run.Run.{Run}
use Rattle.tacho_law.specs.Line.{Line}
use Rattle.tacho_law.specs.Runs.{AreRestsOf, IsRestRun}
use Rattle.tacho_evidence.proofs.DebtLinesLemmas.{HaveLines}
use Rattle.tacho_evidence.proofs.debts.append_rooms.Given as goal

abbrev pub invariant-loop-rest : goal.invariant-loop-rest
invariant-loop-rest l = (line : Line) → AreRestsOf line 1440 l.weekly
    → ((run : Run) → Contains l.rests run → IsRestRun line run)
    → HaveLines line l.horizon l.older l.deadline (take l.rest-index l.rests) l.fn.lines.items l.lines.items

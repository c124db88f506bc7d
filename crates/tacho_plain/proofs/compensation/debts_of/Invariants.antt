use Rattle.std.proofs.Common.{take}
use Rattle.tacho_law.specs.Line.{Line}
use Rattle.tacho_law.specs.Runs.{AreRestsOf}
use Rattle.tacho_plain.specs.RestBreaches.{IsLastRun}
use Rattle.tacho_plain.proofs.CompensationLemmas.{AreSettled}
use Rattle.tacho_plain.proofs.compensation.debts_of.Given as goal

abbrev pub invariant-loop-main : goal.invariant-loop-main
invariant-loop-main l =
    (line : Line) → AreRestsOf line 540 l.daily → AreRestsOf line 1440 l.weekly → IsLastRun line l.last
    → AreSettled line l.horizon (take l.main-index l.weekly) l.debts.items

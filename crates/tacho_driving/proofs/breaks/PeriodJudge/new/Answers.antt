use Rattle.std.proofs.Common.{◌≤◌, arith}
use Rattle.tacho_driving.proofs.PeriodsLemmas.{periods_none}
use Rattle.tacho_driving.proofs.breaks.PeriodJudge.new.Goals as goal

pub returns-clause-none : goal.returns-clause-none
returns-clause-none c =
    let late : 15780960 ≤ c.args._base = c.requires.monday.from in
    rw c.none.ensures (periods_none c.args._base (omega arith))

use Rattle.std.proofs.Common.{◌≤◌, arith}
use Rattle.tacho_days.proofs.DailyDrivingLemmas.{driven_none}
use Rattle.tacho_days.proofs.daily_driving.DutyDrivingJudge.new.Goals as goal

pub returns-clause-none : goal.returns-clause-none
returns-clause-none c =
    let late : 15780960 ≤ c.args.base = c.requires.monday.from in
    rw c.none.ensures (driven_none c.args.base (omega arith))

use Rattle.std.proofs.Common.{◌≤◌, arith}
use Rattle.tacho_days.proofs.DailyRestsStandingLemmas.{rests_none}
use Rattle.tacho_days.proofs.daily_rest.RestingDayJudge.new.Goals as goal

pub returns-clause-none : goal.returns-clause-none
returns-clause-none c =
    let late : 15780960 ≤ c.args._base = c.requires.monday.from in
    rw c.none.ensures (rests_none c.args._base (omega arith))

use Rattle.std.proofs.Common.{◌+◌, arith}
use Rattle.tacho_time.proofs.MonthLemmas.{starts_rise}
use Rattle.tacho_time.proofs.month.month_range.Goals as goal

pub returns-clause-order : goal.returns-clause-order
returns-clause-order c =
    let number = c.month.inside.number in
    let rise = starts_rise number (number + 1) c.first_day.result c.first_day-2.result (omega arith) (omega (arith, c.month.invariant)) c.first_day.ensures c.first_day-2.ensures in
    omega arith

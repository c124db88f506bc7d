use Rattle.std.proofs.Common.{sym, arith}
use Rattle.tacho_time.proofs.MonthLemmas.{is_first}
use Rattle.tacho_time.proofs.month.first_day.Goals as goal

pub overflow_cast-to_unix_epoch_day : goal.overflow_cast-to_unix_epoch_day
overflow_cast-to_unix_epoch_day c =
    let first = is_first c.args.number c.to_unix_epoch_day.result c.requires.low c.requires.high c.to_unix_epoch_day.ensures.value in
    rw first.cast (tt, omega (arith, first.within))

pub new-requires : goal.new-requires
new-requires c =
    let first = is_first c.args.number c.to_unix_epoch_day.result c.requires.low c.requires.high c.to_unix_epoch_day.ensures.value in
    rw first.cast (omega (arith, first.within))

pub returns : goal.returns
returns c =
    let first = is_first c.args.number c.to_unix_epoch_day.result c.requires.low c.requires.high c.to_unix_epoch_day.ensures.value in
    rw (c.new.ensures, first.cast) (sym first.start)

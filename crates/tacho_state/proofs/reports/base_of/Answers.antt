use Rattle.std.proofs.Common.{arith, ◌+◌, ◌-◌, ◌/◌}
use Rattle.tacho_state.proofs.reports.base_of.Goals as goal

pub returns-clause-some : goal.returns-clause-some
returns-clause-some c =
    let value = c.new.ensures in
    let low = c.if-day-lt-FIRST_DAY.false in
    let high = c.if-day-gt-LAST_DAY.false in
    let monday = c.if-day-ne0.false in (
      omega (arith, value),
      record {
        week = (c.args.day + 3) / 7 - 1;
        monday = omega (arith, value, low, monday);
        from = omega (arith, value, low);
      },
      omega (arith, value, high),
    )

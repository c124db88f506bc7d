use Rattle.std.proofs.Common.{refl}
use Rattle.jiff_core.specs.Date.{epoch_day}
use Rattle.tacho_time.proofs.CivilLemmas.{civil_parts, since_first}
use Rattle.tacho_time.proofs.lines.MinuteText.of.Goals as goal

pub invariant_of-result : goal.invariant_of-result
invariant_of-result c =
    let date = c.from_days_since_min-date.result in
    let n = c.number.result in
    let parts = civil_parts n date c.number.ensures.bound (since_first n (epoch_day date) c.from_days_since_min-date.ensures) in
    record {
      on = c.day-day.ensures;
      is = rw (
        c.two-century.ensures,
        c.two-of_century.ensures,
        c.two-month.ensures,
        c.two-of_month.ensures,
        c.two-hour.ensures,
        c.two-of_hour.ensures,
        c.of_day.ensures,
        c.number-2.ensures.value,
        ← c.day-day.ensures,
        ← c.number.ensures.value,
        c.unsigned_abs-year.ensures.value,
        parts.year,
        parts.month,
        parts.day,
      ) refl;
    }

use Rattle.std.proofs.Common.{append_assoc}
use Rattle.jiff_core.specs.Date.{epoch_day}
use Rattle.tacho_time.proofs.CivilLemmas.{civil_parts, since_first}
use Rattle.tacho_time.proofs.text.push_day.Goals as goal

pub returns-clause-text : goal.returns-clause-text
returns-clause-text c =
    let date = c.from_days_since_min-date.result in
    let n = c.number.result in
    let parts = civil_parts n date c.number.ensures.bound (since_first n (epoch_day date) c.from_days_since_min-date.ensures) in
    rw (
      ← c.number.ensures.value,
      c.push_two_digits-4.ensures.text,
      c.push_str-2.ensures.bytes,
      c.push_two_digits-3.ensures.text,
      c.push_str.ensures.bytes,
      c.push_two_digits-2.ensures.text,
      c.push_two_digits.ensures.text,
      c.unsigned_abs-year.ensures.value,
      parts.year,
      parts.month,
      parts.day,
    ) (simp append_assoc)

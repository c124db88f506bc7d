use Rattle.std.proofs.Common.{append_assoc}
use Rattle.tacho_time.proofs.text.push_minute.Goals as goal

pub returns-clause-text : goal.returns-clause-text
returns-clause-text c =
    rw (
      c.push_two_digits-2.ensures.text,
      c.push_str-2.ensures.bytes,
      c.push_two_digits.ensures.text,
      c.push_str.ensures.bytes,
      c.push_day.ensures.text,
      c.number.ensures.value,
      c.of_day.ensures,
      c.day.ensures,
    ) (simp append_assoc)

use Rattle.std.proofs.Common.{append_assoc}
use Rattle.tacho_cli.proofs.tally.Tally.line.Goals as goal

pub returns : goal.returns
returns c files t =
    rw (
      ← t.added,
      ← t.repeated,
      ← t.refused,
      c.push_str-6.ensures.bytes,
      c.push_str-5.ensures.bytes,
      c.push_str-4.ensures.bytes,
      c.push_str-3.ensures.bytes,
      c.push_str-2.ensures.bytes,
      c.push_str.ensures.bytes,
      c.new-line.ensures,
      c.format.ensures.text,
      c.format-2.ensures.text,
      c.format-3.ensures.text,
    ) (simp append_assoc)

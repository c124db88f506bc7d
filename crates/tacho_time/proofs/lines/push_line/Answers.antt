use Rattle.std.proofs.Common.{append_assoc}
use Rattle.tacho_time.proofs.lines.push_line.Goals as goal

pub returns : goal.returns
returns c =
    rw (
      c.in_ok-push_mark.ensures,
      c.in_ok-extend_from_slice-2.ensures.items,
      c.in_ok-extend_from_slice.ensures.items,
      c.turn-2.new.self.is,
      c.turn.new.self.is,
      c.turn-2.ensures,
      c.turn.ensures,
    ) (simp append_assoc)

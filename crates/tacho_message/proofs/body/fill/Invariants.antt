use Rattle.std.proofs.Common.{◌≡◌, ◌≤◌, ◌-◌, false, length, take}
use Rattle.std.specs.Io.KnownBytes.{Consumes}
use Rattle.tacho_message.proofs.body.fill.Given as goal

-- the bytes so far were read, and no read has failed
abbrev pub invariant-loop-filled : goal.invariant-loop-filled
invariant-loop-filled g l =
    let source = g.R.Source in
    record {
      within : l.filled ≤ length l.buffer;
      fresh : source.has_failed l.reader ≡ false;
      read : Consumes (source.unread l.fn.reader) (source.unread l.reader) (take l.filled l.buffer);
    }

abbrev pub decreases-loop-filled : goal.decreases-loop-filled
decreases-loop-filled g l = length l.initial.buffer - l.filled

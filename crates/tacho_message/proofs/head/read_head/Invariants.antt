use Rattle.std.proofs.Common.{◌≡◌, ◌≤◌, ◌-◌, false, length, take}
use Rattle.std.specs.Io.KnownBytes.{Consumes}
use Rattle.tacho_message.proofs.head.read_head.Given as goal

-- the bytes so far were read, and no read has failed
abbrev pub invariant-loop-spans : goal.invariant-loop-spans
invariant-loop-spans g l =
    let source = g.R.Source in
    record {
      within : l.filled ≤ length l.buffer;
      room : length l.fields ≡ length l.fn.fields;
      fresh : source.has_failed l.reader ≡ false;
      read : Consumes (source.unread l.fn.reader) (source.unread l.reader) (take l.filled l.buffer);
    }

abbrev pub decreases-loop-spans : goal.decreases-loop-spans
decreases-loop-spans g l = length l.initial.buffer - l.filled

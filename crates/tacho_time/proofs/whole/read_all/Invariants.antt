use Rattle.std.proofs.Common.{◌≡◌, ◌+◌, ◌-◌, ◌≤◌, false, vec_len}
use Rattle.std.specs.Io.KnownBytes.{Consumes}
use Rattle.tacho_time.proofs.whole.read_all.Given as goal

-- the bytes taken so far, and no call has failed
abbrev pub invariant-loop-chunk : goal.invariant-loop-chunk
invariant-loop-chunk g l =
    let source = g.R.Source in
    record {
      taken : Consumes (source.unread l.fn.reader) (source.unread l.reader) l.bytes.items;
      within : vec_len l.bytes ≤ l.limit + 1;
      fresh : source.has_failed l.reader ≡ false;
    }

abbrev pub decreases-loop-chunk : goal.decreases-loop-chunk
decreases-loop-chunk g l = l.limit + 1 - vec_len l.bytes

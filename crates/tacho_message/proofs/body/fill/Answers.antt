use Rattle.std.proofs.Common.{rules, ◌≡◌, ◌<◌, ◌≤◌, [], length, arith}
use Rattle.std.specs.Io.KnownBytes.{Consumes, IsAtEnd}
use Rattle.tacho_message.proofs.ReadLemmas.{ended_short, two_reads, put_fits}
use Rattle.tacho_message.proofs.body.fill.Goals as goal

pub loop-filled-preserved : goal.loop-filled-preserved
loop-filled-preserved g c =
    let inv = c.loop-filled.invariant in
    let within : c.in_ok-count.count ≤ length c.take.new.buffer = omega (arith, c.in_ok-count.ensures.bound) in
    record {
      within = put_fits c.loop-filled.buffer c.take.new.buffer c.loop-filled.filled c.in_ok-count.count inv.within within;
      fresh = c.in_ok-count.ensures.failed;
      read = two_reads (g.R.Source.unread c.args.reader.now) (g.R.Source.unread c.loop-filled.reader) (g.R.Source.unread c.take.new.self) c.loop-filled.buffer
          c.take.new.buffer c.loop-filled.filled c.in_ok-count.count inv.within within inv.read c.in_ok-count.ensures.bytes.0;
    }

pub returns-then-count-eq0-clause-ended : goal.returns-then-count-eq0-clause-ended
returns-then-count-eq0-clause-ended g c = λ e.
    let inv = c.loop-filled.invariant in
    let source = g.R.Source in
    let room : c.loop-filled.filled < length c.loop-filled.buffer = omega arith in
    let none : Consumes (source.unread c.loop-filled.reader) (source.unread c.take.new.self) [] = search rules in
    let end : IsAtEnd (source.unread c.take.new.self) = search rules in
    let same : length c.loop-filled.buffer ≡ length c.args.buffer.now = search rules in
    let short = ended_short (source.unread c.args.reader.now) (source.unread c.loop-filled.reader) (source.unread c.take.new.self) c.loop-filled.buffer
    c.loop-filled.filled room inv.read none end in
    rw (← same) short

use Rattle.std.proofs.Common.{rules, ◌≡◌, ◌<◌, ◌≤◌, ◌-◌, [], length, take, arith}
use Rattle.std.specs.Io.KnownBytes.{Consumes, IsAtEnd}
use Rattle.std.proofs.lemmas.Grind.{common_steps}
use Rattle.tacho_message.proofs.HeadLemmas.{refuse_ended, refuse_many, refuse_never, refuse_full, refused_unread}
use Rattle.tacho_message.proofs.ReadLemmas.{two_reads, put_fits}
use Rattle.tacho_message.proofs.head.read_head.Goals as goal

pub returns-in-TooMany-clause-refused : goal.returns-in-TooMany-clause-refused
returns-in-TooMany-clause-refused g c =
    let inv = c.loop-spans.invariant in
    let short : length (take c.loop-spans.filled c.loop-spans.buffer) ≤ length c.args.buffer.now = grind (arith, common_steps) in
    refuse_many (length c.args.buffer.now) (length c.args.fields.now) (g.R.Source.unread c.args.reader.now) (g.R.Source.unread c.loop-spans.reader)
    (take c.loop-spans.filled c.loop-spans.buffer) short inv.read (rw inv.room at c.in-TooMany.ensures.0) (rw inv.room at c.in-TooMany.ensures.1)

pub returns-in-Never-clause-refused : goal.returns-in-Never-clause-refused
returns-in-Never-clause-refused g c =
    let inv = c.loop-spans.invariant in
    let short : length (take c.loop-spans.filled c.loop-spans.buffer) ≤ length c.args.buffer.now = grind (arith, common_steps) in
    refuse_never (length c.args.buffer.now) (length c.args.fields.now) (g.R.Source.unread c.args.reader.now) (g.R.Source.unread c.loop-spans.reader)
    (take c.loop-spans.filled c.loop-spans.buffer) short inv.read (rw inv.room at c.in-Never.ensures.0) c.in-Never.ensures.1

pub returns-then-filled-buffer-clause-refused : goal.returns-then-filled-buffer-clause-refused
returns-then-filled-buffer-clause-refused g c =
    let inv = c.loop-spans.invariant in
    let full : length (take c.loop-spans.filled c.loop-spans.buffer) ≡ length c.args.buffer.now = grind (arith, common_steps) in
    refuse_full (length c.args.buffer.now) (length c.args.fields.now) (g.R.Source.unread c.args.reader.now) (g.R.Source.unread c.loop-spans.reader)
    (take c.loop-spans.filled c.loop-spans.buffer) full inv.read c.in-More.ensures.0 c.in-More.ensures.1

pub loop-spans-preserved : goal.loop-spans-preserved
loop-spans-preserved g c =
    let inv = c.loop-spans.invariant in
    let n : length c.take.new.buffer ≡ length c.loop-spans.buffer - c.loop-spans.filled = search rules in
    let within : c.in_ok-count.count ≤ length c.take.new.buffer = omega (arith, c.in_ok-count.ensures.bound) in
    record {
      within = put_fits c.loop-spans.buffer c.take.new.buffer c.loop-spans.filled c.in_ok-count.count inv.within within;
      room = search rules;
      fresh = c.in_ok-count.ensures.failed;
      read = two_reads (g.R.Source.unread c.args.reader.now) (g.R.Source.unread c.loop-spans.reader) (g.R.Source.unread c.take.new.self) c.loop-spans.buffer
          c.take.new.buffer c.loop-spans.filled c.in_ok-count.count inv.within within inv.read c.in_ok-count.ensures.bytes.0;
    }

pub returns-in_err-count-clause-refused : goal.returns-in_err-count-clause-refused
returns-in_err-count-clause-refused g c =
    refused_unread (length c.args.buffer.now) (length c.args.fields.now) (g.R.Source.unread c.args.reader.now) c.from_residual.result c.from_residual.ensures.1

pub returns-then-count-eq0-clause-refused : goal.returns-then-count-eq0-clause-refused
returns-then-count-eq0-clause-refused g c =
    let inv = c.loop-spans.invariant in
    let source = g.R.Source in
    let short : length (take c.loop-spans.filled c.loop-spans.buffer) < length c.args.buffer.now = grind (arith, common_steps) in
    let none : Consumes (source.unread c.loop-spans.reader) (source.unread c.take.new.self) [] = search rules in
    let end : IsAtEnd (source.unread c.take.new.self) = search rules in
    refuse_ended (length c.args.buffer.now) (length c.args.fields.now) (source.unread c.args.reader.now) (source.unread c.loop-spans.reader)
    (source.unread c.take.new.self) (take c.loop-spans.filled c.loop-spans.buffer) short inv.read none end c.in-More.ensures.0 c.in-More.ensures.1

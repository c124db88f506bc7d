use Rattle.std.proofs.Common.{◌≡◌, ◌-◌, length, arith}
use Rattle.std.proofs.lemmas.Grind.{common_steps}
use Rattle.tacho_message.proofs.ReadLemmas.{body_of}
use Rattle.tacho_message.proofs.body.read_body.Goals as goal

pub returns-clause-body : goal.returns-clause-body
returns-clause-body g c =
    let long : length c.fill.new.buffer ≡ c.args.count - length c.args.after_head.now = grind (arith, common_steps) in
    body_of c.args.after_head.now c.args.count (g.R.Source.unread c.args.reader.now) (g.R.Source.unread c.fill.new.reader) c.fill.new.buffer _
    c.in_ok-fill.ensures.read long (grind (arith, common_steps))

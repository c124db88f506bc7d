use Rattle.std.proofs.Common.{refl}
use Rattle.tacho_message.specs.Reply.{head_bytes}
use Rattle.tacho_message.proofs.reply.head_of.Goals as goal

pub returns : goal.returns
unfolding head_bytes
returns c =
    rw (c.put-9.ensures.items, c.put-8.ensures.items, c.put-7.ensures.items, c.put-6.ensures.items, c.put-5.ensures.items, c.put-4.ensures.items, c.put-3.ensures.items, c.put-2.ensures.items, c.put.ensures.items, c.new-head.ensures, c.fields.ensures.text, c.as_bytes.ensures.value, c.format.ensures.text, c.name.ensures.text, c.line.ensures.text) refl

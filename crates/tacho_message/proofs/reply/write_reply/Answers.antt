use Rattle.std.proofs.Common.{length}
use Rattle.tacho_message.specs.Reply.{head_bytes}
use Rattle.tacho_message.proofs.ReplyLemmas.{begun_after}
use Rattle.tacho_message.proofs.reply.write_reply.Goals as goal

pub returns-clause-beginning : goal.returns-clause-beginning
returns-clause-beginning g c =
    begun_after _ _ _ (head_bytes c.args.status c.args.media (length c.args.body.now)) c.args.body.now
    (rw (c.as_slice.ensures.value, c.head_of-head.ensures) at c.in_ok-write_all.ensures.all) c.write_all-2.ensures.beginning

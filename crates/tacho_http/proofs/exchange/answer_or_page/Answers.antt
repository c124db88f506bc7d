use Rattle.std.proofs.Common.{refl}
use Rattle.tacho_message.specs.declared.reply.Status.TheVariants as status
use Rattle.tacho_http.specs.Reply.{reply_of, reply_of_status}
use Rattle.tacho_http.proofs.exchange.answer_or_page.Goals as goal

pub returns-in-Ok-write_reply-clause-exchanged : goal.returns-in-Ok-write_reply-clause-exchanged
returns-in-Ok-write_reply-clause-exchanged g c =
    let a = c.in-Ok.ensures.answered.answered in
    record {
      exchanged = record {
        input = a.input;
        told = a.told;
        command = a.command;
        posted = a.posted;
        is_posted = λ read. a.is_posted;
        reply = reply_of c.in-Ok.response;
        replied = (refl, rw c.bytes.ensures at c.in-Ok-write_reply.ensures.all);
        settled = a.answers;
        same = a.same;
        crash = a.crash;
      };
      does = λ read. c.in-Ok.ensures.answered.does;
    }

pub returns-clause-exchanged : goal.returns-clause-exchanged
returns-clause-exchanged g c =
    let a = c.in-Ok.ensures.answered.answered in
    record {
      exchanged = record {
        input = a.input;
        told = a.told;
        command = a.command;
        posted = a.posted;
        is_posted = λ read. a.is_posted;
        reply = reply_of c.in-Ok.response;
        replied = rw c.bytes.ensures at c.write_reply.ensures.beginning;
        settled = a.answers;
        same = a.same;
        crash = a.crash;
      };
      does = λ read. c.in-Ok.ensures.answered.does;
    }

pub returns-in-Err-clause-exchanged : goal.returns-in-Err-clause-exchanged
returns-in-Err-clause-exchanged g c =
    let a = c.in-Err.ensures.answered.answered in
    record {
      exchanged = record {
        input = a.input;
        told = a.told;
        command = a.command;
        posted = a.posted;
        is_posted = λ read. absurd read;
        reply = reply_of_status status.Unavailable;
        replied = refl;
        settled = a.answers;
        same = a.same;
        crash = a.crash;
      };
      does = λ read. absurd read;
    }

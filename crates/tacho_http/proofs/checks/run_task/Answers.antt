use Rattle.std.proofs.Common.{ap, Err, inl, inr, Ok, refl, sym}
use Rattle.tacho_http.specs.Reply.{reply_to}
use Rattle.tacho_http.proofs.RespondLemmas.{carried_out, nothing, refused, some_left}
use Rattle.tacho_http.proofs.checks.run_task.Goals as goal

pub returns-in-Err-Memory-clause-responds : goal.returns-in-Err-Memory-clause-responds
returns-in-Err-Memory-clause-responds g c = nothing g.K.Keeper.same_self (some_left _) c.fixed-in-Err-Memory.ensures refl (λ s. inr refl)

pub returns-in-Err-Read-clause-responds : goal.returns-in-Err-Read-clause-responds
returns-in-Err-Read-clause-responds g c =
    let i = some_left (g.R.Source.unread c.args.reader.now) in
    record {
      left = i.0;
      told = i.1;
      clean = λ c. c;
      live = λ c. tt;
      given = λ c s st. st;
      same = λ undone c s st. g.K.Keeper.same_self _;
      crash = λ c s past st l. l;
    }

pub returns-in-Ok-task-clause-responds : goal.returns-in-Ok-task-clause-responds
returns-in-Ok-task-clause-responds g c =
    let read = c.in-Ok.ensures.body in
    let is = c.in-Ok-task.ensures in
    let free = rw (c.deref.ensures.value, read.bytes) at (c.is_reserved.ensures.no c.if-is_reserved.false) in
    carried_out _ (read.left, read.told) c.reply.ensures (rw (c.deref-in-Ok-task.ensures.value, is.want) at c.carry_out.ensures.serves)
    (λ s answer after does. inr (
      read.long,
      (Ok c.in-Ok-task.task, is.task, inr (free, (answer, rw read.bytes at does, ap (λ want. reply_to want answer) (sym is.want)))),
    ))

pub returns-clause-responds : goal.returns-clause-responds
returns-clause-responds g c =
    let read = c.in-Ok.ensures.body in
    nothing g.K.Keeper.same_self (read.left, read.told) c.refusal-in-Err.ensures (refused c.in-Err.fault)
    (λ s. inl (inr (read.long, (Err c.in-Err.fault, c.in-Err.ensures.task, (refl, refl)))))

use Rattle.std.proofs.Common.{◌∙◌, sym}
use Rattle.tacho_desk.proofs.MeantLemmas.{faulty}
use Rattle.tacho_cli.proofs.OfficeLemmas.{over_input, refused_words, unread_input, without_input}
use Rattle.tacho_cli.proofs.office.answer_at_desk.Goals as goal

pub returns-in_err-task-clause-performed : goal.returns-in_err-task-clause-performed
returns-in_err-task-clause-performed g c =
    let f = c.in_err-task.field-0.0 in
    rw (faulty c.from_residual.result f c.from_residual.ensures.1) (refused_words g.K.Keeper.same_self c.args.keeper.now f c.requires.reader c.in_err-task.ensures.task)

pub returns-then-not-takes_input-clause-performed : goal.returns-then-not-takes_input-clause-performed
returns-then-not-takes_input-clause-performed g c =
    without_input c.in_ok-task.task c.requires.reader
    c.in_ok-task.ensures.task
    c.in_ok-task.ensures.want (sym c.takes_input.ensures ∙ c.if-not-takes_input.true) c.carry_out.ensures.serves c.carry_out.ensures.asks

pub returns-in_err-input-clause-performed : goal.returns-in_err-input-clause-performed
returns-in_err-input-clause-performed g c =
    let f = c.in_err-input.field-0.0 in
    rw (faulty c.from_residual-in_err-input.result f c.from_residual-in_err-input.ensures.1)
    (unread_input g.K.Keeper.same_self c.args.keeper.now c.in_ok-task.task f
    c.in_ok-task.ensures.task
    (sym c.takes_input.ensures ∙ c.if-not-takes_input.false) c.in_err-input.ensures)

pub returns-clause-performed : goal.returns-clause-performed
returns-clause-performed g c =
    over_input c.in_ok-task.task c.in_ok-input.input.items
    c.in_ok-task.ensures.task c.in_ok-task.ensures.want
    (sym c.takes_input.ensures ∙ c.if-not-takes_input.false) c.in_ok-input.ensures
    (rw c.deref.ensures.value at c.carry_out-2.ensures.serves) (rw c.deref.ensures.value at c.carry_out-2.ensures.asks)

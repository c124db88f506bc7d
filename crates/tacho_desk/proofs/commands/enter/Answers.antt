use Rattle.std.proofs.Common.{Ok, inl, length, refl, arith, rules}
use Rattle.tacho_desk.specs.Tasks.{entered_told}
use Rattle.tacho_desk.proofs.ServeLemmas.{read_as, refused, unread}
use Rattle.tacho_desk.proofs.commands.enter.Goals as goal

pub returns-in_err-lines-clause-serves : goal.returns-in_err-lines-clause-serves
returns-in_err-lines-clause-serves g c =
    unread c.in_err-lines.field-0.0 _ c.from_residual.ensures.1 (g.K.Keeper.same_self _) (λ s. (refl, refl)) (search rules)

pub returns-in_err-entered-clause-serves : goal.returns-in_err-entered-clause-serves
returns-in_err-entered-clause-serves g c =
    let lines = c.in_ok-lines.lines.items in
    read_as (Ok lines) (search rules)
    (refused (λ first. entered_told first (length lines)) _ c.from_residual-in_err-entered.ensures.1 (λ s g e. grind arith)
    (inl c.in_err-entered.ensures.of_no_file)
    (rw c.deref.ensures.value at c.in_err-entered.ensures.entered))

pub returns-clause-serves : goal.returns-clause-serves
returns-clause-serves g c = read_as (Ok c.in_ok-lines.lines.items) (search rules) (search rules)

pub returns-then-entered-eq0-clause-serves : goal.returns-then-entered-eq0-clause-serves
returns-then-entered-eq0-clause-serves g c = read_as (Ok c.in_ok-lines.lines.items) (search rules) (search rules)

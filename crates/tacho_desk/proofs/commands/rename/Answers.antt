use Rattle.std.proofs.Common.{Err, Ok, inl, arith, rules}
use Rattle.tacho_desk.proofs.ServeLemmas.{read_as, refused}
use Rattle.tacho_desk.proofs.commands.rename.Goals as goal

pub returns-in_err-name-clause-serves : goal.returns-in_err-name-clause-serves
returns-in_err-name-clause-serves g c =
    let same = g.K.Keeper.same_self c.args.keeper.now in
    read_as (Err c.in_err-name.field-0.0) c.in_err-name.ensures (search rules)

pub returns-in_err-rename-clause-serves : goal.returns-in_err-rename-clause-serves
returns-in_err-rename-clause-serves g c =
    read_as (Ok c.in_ok-name.name.now) c.in_ok-name.ensures
    (refused _ _ c.from_residual-in_err-rename.ensures.1 (λ s g e. grind arith)
    (inl c.in_err-rename.ensures.of_no_file) c.in_err-rename.ensures.renamed)

pub returns-clause-serves : goal.returns-clause-serves
returns-clause-serves g c = read_as (Ok c.in_ok-name.name.now) c.in_ok-name.ensures (search rules)

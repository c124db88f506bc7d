use Rattle.std.proofs.Common.{Err, Ok, inl, arith, rules}
use Rattle.tacho_desk.proofs.ServeLemmas.{read_as, refused}
use Rattle.tacho_desk.proofs.commands.rekey.Goals as goal

pub returns-in_err-key-clause-serves : goal.returns-in_err-key-clause-serves
returns-in_err-key-clause-serves g c =
    let same = g.K.Keeper.same_self c.args.keeper.now in
    read_as (Err c.in_err-key.field-0.0) c.in_err-key.ensures (search rules)

pub returns-in_err-rekey-clause-serves : goal.returns-in_err-rekey-clause-serves
returns-in_err-rekey-clause-serves g c =
    read_as (Ok c.in_ok-key.key.now) c.in_ok-key.ensures
    (refused _ _ c.from_residual-in_err-rekey.ensures.1 (λ s g e. grind arith)
    (inl c.in_err-rekey.ensures.of_no_file) c.in_err-rekey.ensures.rekeyed)

pub returns-clause-serves : goal.returns-clause-serves
returns-clause-serves g c = read_as (Ok c.in_ok-key.key.now) c.in_ok-key.ensures (search rules)

use Rattle.std.proofs.Common.{Ok, inl, arith, rules}
use Rattle.tacho_desk.proofs.ServeLemmas.{read_as, refused}
use Rattle.tacho_desk.proofs.commands.register.Goals as goal

pub returns-in_err-register-clause-serves : goal.returns-in_err-register-clause-serves
returns-in_err-register-clause-serves g c =
    read_as (Ok c.in_ok-driver.driver) (search rules)
    (refused _ _ c.from_residual-in_err-register.ensures.1 (λ s g e. grind arith) (inl c.in_err-register.ensures.of_no_file)
    c.in_err-register.ensures.registered)

pub returns-clause-serves : goal.returns-clause-serves
returns-clause-serves g c = read_as (Ok c.in_ok-driver.driver) (search rules) (search rules)

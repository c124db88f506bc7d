use Rattle.tacho_rules.proofs.scan.Scan.new.Goals as goal

pub returns-clause-none : goal.returns-clause-none
returns-clause-none c = λ found breaches debts. record { stands = rw (breaches, debts) c.new.ensures.none }

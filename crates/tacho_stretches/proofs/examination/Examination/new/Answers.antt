use Rattle.std.proofs.Common.{refl}
use Rattle.tacho_stretches.proofs.PassLemmas.{none_examined}
use Rattle.tacho_stretches.proofs.examination.Examination.new.Goals as goal

pub returns-clause-none : goal.returns-clause-none
returns-clause-none c found breaches debts =
    none_examined _ c.requires.monday refl (c.new.ensures.none found breaches debts)

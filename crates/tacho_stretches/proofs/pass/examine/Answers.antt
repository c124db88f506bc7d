use Rattle.tacho_stretches.proofs.PassLemmas.{report_stays}
use Rattle.tacho_stretches.proofs.pass.examine.Goals as goal

pub returns-in-None-clause-taken : goal.returns-in-None-clause-taken
returns-in-None-clause-taken c = rw c.in-None.is c.examine_span.ensures.taken

pub returns-in-Some-clause-taken : goal.returns-in-Some-clause-taken
returns-in-Some-clause-taken c =
    rw c.in-Some.is (λ past spans next is. report_stays spans past c.args.span.now next c.in-Some.examined is)

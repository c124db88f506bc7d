use Rattle.tacho_stretches.specs.Pass.{examining}
use Rattle.tacho_stretches.proofs.PassLemmas.{ended_report}
use Rattle.tacho_stretches.proofs.pass.end.Goals as goal

pub returns-in-None-clause-report : goal.returns-in-None-clause-report
returns-in-None-clause-report c = rw c.in-None.is (ended_report c.end.result (examining c.args.examination c.args.found.now) c.end.ensures.report)

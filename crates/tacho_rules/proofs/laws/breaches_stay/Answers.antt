use Rattle.tacho_rules.proofs.StayingReportLemmas.{breaches_stay}
use Rattle.tacho_rules.proofs.laws.breaches_stay.Goals as goal

pub returns : goal.returns
returns c = breaches_stay

use Rattle.tacho_rules.proofs.ReportLemmas.{nothing_found}
use Rattle.tacho_rules.proofs.laws.rest_alone_is_no_breach.Goals as goal

pub returns : goal.returns
returns c = nothing_found

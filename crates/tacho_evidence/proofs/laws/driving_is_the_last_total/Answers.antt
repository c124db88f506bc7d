use Rattle.tacho_evidence.proofs.TotalsLemmas.{driving_is_total}
use Rattle.tacho_evidence.proofs.laws.driving_is_the_last_total.Goals as goal

pub returns : goal.returns
returns c = driving_is_total

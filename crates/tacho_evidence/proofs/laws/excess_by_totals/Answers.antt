use Rattle.tacho_evidence.proofs.TotalsLemmas.{above_by_totals}
use Rattle.tacho_evidence.proofs.laws.excess_by_totals.Goals as goal

pub returns : goal.returns
returns c = above_by_totals

use Rattle.tacho_evidence.proofs.TotalsLemmas.{one_driven}
use Rattle.tacho_evidence.proofs.laws.one_list_of_driving_spans.Goals as goal

pub returns : goal.returns
returns c = one_driven

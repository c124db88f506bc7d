use Rattle.tacho_evidence.proofs.ExistLemmas.{driven_exist}
use Rattle.tacho_evidence.proofs.laws.driving_spans_exist.Goals as goal

pub returns : goal.returns
returns c = driven_exist

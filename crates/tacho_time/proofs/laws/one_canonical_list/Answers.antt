use Rattle.tacho_time.proofs.CanonicalLemmas.{one_list}
use Rattle.tacho_time.proofs.laws.one_canonical_list.Goals as goal

pub returns : goal.returns
returns c = one_list

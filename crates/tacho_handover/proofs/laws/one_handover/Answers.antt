use Rattle.tacho_handover.proofs.ParcelLemmas.{handover_once}
use Rattle.tacho_handover.proofs.laws.one_handover.Goals as goal

pub returns : goal.returns
returns c = handover_once c.one_list_of_gaps.ensures

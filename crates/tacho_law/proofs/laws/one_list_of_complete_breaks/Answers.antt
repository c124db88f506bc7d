use Rattle.tacho_law.proofs.BreaksLemmas.{one_complete_breaks}
use Rattle.tacho_law.proofs.laws.one_list_of_complete_breaks.Goals as goal

pub returns : goal.returns
returns c = one_complete_breaks

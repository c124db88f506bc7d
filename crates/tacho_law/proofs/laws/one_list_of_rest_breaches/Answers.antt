use Rattle.tacho_law.proofs.DebtsLemmas.{one_rest_breaches}
use Rattle.tacho_law.proofs.laws.one_list_of_rest_breaches.Goals as goal

pub returns : goal.returns
returns c = one_rest_breaches

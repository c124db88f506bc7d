use Rattle.tacho_law.proofs.OrderLemmas.{one_list_in_order}
use Rattle.tacho_law.proofs.laws.one_list_of_breaches.Goals as goal

pub returns : goal.returns
returns c = one_list_in_order

use Rattle.tacho_law.proofs.BreachesLemmas.{one_break_breaches}
use Rattle.tacho_law.proofs.laws.one_list_of_break_breaches.Goals as goal

pub returns : goal.returns
returns c = one_break_breaches

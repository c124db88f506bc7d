use Rattle.tacho_law.specs.Breaches.{IsDayBreach}
use Rattle.tacho_law.proofs.OrderLemmas.{one_breaches}
use Rattle.tacho_law.proofs.laws.one_list_of_day_breaches.Goals as goal

pub returns : goal.returns
returns c = λ line. one_breaches (λ breach. IsDayBreach line breach.kind breach)

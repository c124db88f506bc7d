use Rattle.tacho_law.specs.Breaches.{IsWeekBreach}
use Rattle.tacho_law.proofs.OrderLemmas.{one_breaches}
use Rattle.tacho_law.proofs.laws.one_list_of_week_breaches.Goals as goal

pub returns : goal.returns
returns c = λ line. one_breaches (λ breach. IsWeekBreach line breach.kind breach)

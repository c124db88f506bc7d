use Rattle.std.proofs.Common.{sym}
use Rattle.tacho_ahead.specs.Plans.{plan_for}
use Rattle.tacho_ahead.proofs.MarkLemmas.{reported_same}
use Rattle.tacho_ahead.proofs.laws.a_driven_plan_is_reported.Goals as goal

pub returns : goal.returns
returns c = λ held driven base start x kind breach agree. (
  reported_same driven (plan_for kind held start x) base breach agree,
  reported_same (plan_for kind held start x) driven base breach (λ m l. sym (agree m l)),
)

-- Private to tacho_days: What the pass over the rules on days finds (Regulation (EC) No 561/2006, Articles 6(1), 8(2) and 8(4)).
use Rattle.std.specs.Prelude.{◌≡◌, ℕ, List, []}
use Rattle.tacho_time.specs.declared.span.Span.{Span}
use Rattle.tacho_law.specs.declared.breach.Breach.{Breach}
use Rattle.tacho_law.specs.declared.debt.Debt.{Debt}
use Rattle.tacho_law.specs.Line.{line_of}
use Rattle.tacho_law.specs.SoFar.{AreCollected}
use Rattle.tacho_law.specs.Breaches.{IsDayBreach}

-- exactly the breaches of the rules on days are found, and no debts
pub record DaysDefined (own : List Breach) (owed : List Debt) (base horizon : ℕ) (spans : List Span) : Type 0 where
  pub none : owed ≡ []
  pub breaches : AreCollected (λ breach. IsDayBreach (line_of spans) breach.kind breach) own

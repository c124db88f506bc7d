-- Private to tacho_rests: What the pass over weekly rests finds (Regulation (EC) No 561/2006, Articles 8(6), 8(6b) and 8(7); 8(6) and 8(6b)
-- as amended by (EU) 2020/1054).
use Rattle.std.specs.Prelude.{ℕ, List}
use Rattle.tacho_time.specs.declared.span.Span.{Span}
use Rattle.tacho_law.specs.declared.breach.Breach.{Breach}
use Rattle.tacho_law.specs.declared.debt.Debt.{Debt}
use Rattle.tacho_law.specs.Line.{line_of}
use Rattle.tacho_law.specs.Debts.{AreDebts}
use Rattle.tacho_law.specs.SoFar.{AreCollected}
use Rattle.tacho_law.specs.Breaches.{IsRestBreach}

-- exactly the debts are found, and the breaches of the rules on weekly rests
pub record WeekRestsDefined (own : List Breach) (owed : List Debt) (base horizon : ℕ) (spans : List Span) : Type 0 where
  pub are_debts : AreDebts (line_of spans) horizon owed
  pub breaches : AreCollected (λ breach. IsRestBreach (line_of spans) base horizon owed breach.kind breach) own

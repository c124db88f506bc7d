-- Private to tacho_rests: Debts (Regulation (EC) No 561/2006, Article 8(6b), as amended by (EU) 2020/1054), span by span: what a ledger of
-- debts represents.
use Rattle.std.specs.Prelude.{ℕ, ◌≤◌, List}
use Rattle.tacho_time.specs.declared.span.Span.{Span}
use Rattle.tacho_law.specs.declared.run.Run.{Run}
use Rattle.tacho_law.specs.declared.breach.Breach.{Breach}
use Rattle.tacho_law.specs.declared.debt.Debt.{Debt}
use Rattle.tacho_law.specs.Line.{line_of, Joined, Line}
use Rattle.tacho_law.specs.Limits.{first_week}
use Rattle.tacho_law.specs.Debts.{AreDebts}
use Rattle.tacho_law.specs.SoFar.{AreCollected}
use Rattle.tacho_law.specs.Breaches.{IsOverdue}
use Rattle.tacho_pass.specs.Heard.{Continues, IsHeard, IsLineTo}
use Rattle.tacho_rests.specs.declared.compensation.Ledger.{Ledger}
use Rattle.tacho_rests.specs.Few.{debts_in, rests_in}
use Rattle.tacho_rests.specs.Turns.{IsLedger}

-- for a line known up to a minute: the open rest run, and the ledger of the runs that have ended, for any horizon
pub record IsOwing (line : Line) (start place : ℕ) (books : Ledger) (own : List Breach)
    (owed : List Debt) : Type 0 where
  pub e : ℕ
  pub low : first_week ≤ e
  pub heard : IsHeard line start place e
  pub ledger : (horizon : ℕ) (last : Run) → IsLineTo line horizon last
      → IsLedger line horizon e books.week (rests_in books.rests) (debts_in books.debts) own owed

-- the ledger represents the spans: the above holds for each line that continues them
pub record OwingStands (books : Ledger) (start place : ℕ) (own : List Breach) (owed : List Debt) (base : ℕ)
    (spans : List Span) : Type 0 where
  pub joined : Joined spans base place
  pub kept : (line : Line) → Continues line spans place → IsOwing line start place books own owed

-- exactly the debts are found, and the breaches of those that weren't paid in time
pub record OwingDefined (own : List Breach) (owed : List Debt) (base horizon : ℕ) (spans : List Span) : Type 0 where
  pub are_debts : AreDebts (line_of spans) horizon owed
  pub breaches : AreCollected (IsOverdue horizon owed) own

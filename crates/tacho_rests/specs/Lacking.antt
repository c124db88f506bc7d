-- Private to tacho_rests: Choices of a week for each weekly rest (Regulation (EC) No 561/2006, Articles 8(6), first subparagraph, and
-- 8(9)), span by span: the state of the rule, and what it represents.
use Rattle.std.specs.Prelude.{◌≡◌, ℕ, ◌<◌, ◌≤◌, List, []}
use Rattle.tacho_time.specs.declared.span.Span.{Span}
use Rattle.tacho_law.specs.declared.run.Run.{Run}
use Rattle.tacho_law.specs.declared.breach.Breach.{Breach}
use Rattle.tacho_law.specs.declared.debt.Debt.{Debt}
use Rattle.tacho_law.specs.Line.{line_of, Joined, Line}
use Rattle.tacho_law.specs.Limits.{first_week}
use Rattle.tacho_law.specs.Runs.{AreRestRuns}
use Rattle.tacho_law.specs.Weeks.{week_start}
use Rattle.tacho_law.specs.SoFar.{AreCollected}
use Rattle.tacho_law.specs.Breaches.{IsLacking}
use Rattle.tacho_pass.specs.Heard.{Continues, IsHeard, IsLineTo}
use Rattle.tacho_rests.specs.declared.missing_rest.Choices.{Choices}
use Rattle.tacho_rests.specs.Choices.{AreChoices}

-- for a line known up to a minute: the open rest run, and the choices for the weekly rests that have ended
pub record IsChoosing (line : Line) (first start place : ℕ) (p : Choices) (own : List Breach) : Type 0 where
  pub e : ℕ
  pub low : first_week ≤ e
  pub heard : IsHeard line start place e
  pub choices : (horizon : ℕ) (last : Run) → IsLineTo line horizon last
      → AreChoices line horizon first start p.week p.current p.last p.rested p.outcomes own

-- the state represents the spans: the above holds for each line that continues them
pub record LackingStands (p : Choices) (start place : ℕ) (own : List Breach) (owed : List Debt) (base : ℕ)
    (spans : List Span) : Type 0 where
  pub first : ℕ
  pub monday : base ≡ week_start first
  pub behind : first_week < base
  pub none : owed ≡ []
  pub joined : Joined spans base place
  pub kept : (line : Line) (runs : List Run)
      → AreRestRuns line runs → Continues line spans place → IsChoosing line first start place p own

-- exactly the breaches for two weeks without the weekly rests that they need are found, and no debts
pub record LackingDefined (own : List Breach) (owed : List Debt) (base horizon : ℕ) (spans : List Span) : Type 0 where
  pub none : owed ≡ []
  pub breaches : AreCollected (λ breach. IsLacking (line_of spans) base horizon breach) own

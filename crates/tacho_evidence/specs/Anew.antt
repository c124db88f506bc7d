-- Private to tacho_evidence: A breach B9, and the week from which the choice was made anew before it.
use Rattle.std.specs.Prelude.{◌≡◌, ◌⊎◌, ℕ, ◌+◌}
use Rattle.tacho_law.specs.declared.breach.Breach.{Breach}
use Rattle.tacho_law.specs.declared.breach.Kind.TheVariants.{B9}
use Rattle.tacho_law.specs.Anew.{EndedBy, Fails, FailsFrom}
use Rattle.tacho_law.specs.Choice.{CanServe}
use Rattle.tacho_law.specs.Line.{Line}
use Rattle.tacho_law.specs.Weeks.{week_start}

-- the choice was made anew from this week: it is the week of the base, or the rule failed at it
pub record IsAnew (line : Line) (base horizon first : ℕ) : Type 0 where
  pub begin : ℕ
  pub monday : base ≡ week_start begin
  pub anew : (first ≡ begin) ⊎ Fails (CanServe line) (EndedBy horizon) begin first

-- the rule fails next at the later of the breach's two weeks
pub record IsNextFailure (line : Line) (horizon first : ℕ) (breach : Breach) : Type 0 where
  pub week : ℕ
  pub fails : FailsFrom (CanServe line) (EndedBy horizon) first (week + 1)
  pub moment : breach.moment ≡ week_start (week + 2)
  pub since : breach.since ≡ week_start week
  pub amount : breach.amount ≡ 0

-- the choice was made anew from this week before the breach, if it is a B9
pub record IsAnewFor (line : Line) (base horizon first : ℕ) (breach : Breach) : Type 0 where
  pub anew : IsAnew line base horizon first
  pub next : breach.kind ≡ B9 → IsNextFailure line horizon first breach

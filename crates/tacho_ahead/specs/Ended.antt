-- Private to tacho_ahead: What is found when a scan ends, and spans of what is held.
use Rattle.std.specs.Prelude.{◌≡◌, ℕ, ◌↔◌, List, All, Contains, false}
use Rattle.tacho_time.specs.declared.span.Span.{Span}
use Rattle.tacho_time.specs.declared.span.Mark.{Mark}
use Rattle.tacho_time.specs.Spans.{Gives}
use Rattle.tacho_line.specs.declared.horizon.Horizon.{Horizon}
use Rattle.tacho_line.specs.Line.{Holds}
use Rattle.tacho_law.specs.declared.breach.Breach.{Breach}
use Rattle.tacho_law.specs.Line.{Joined}
use Rattle.tacho_law.specs.Order.{HaveOwnPlaces}
use Rattle.tacho_pass.specs.declared.found.Found.{Found}
use Rattle.tacho_rules.specs.Report.{IsReport}

-- all that the report from the base on has was found, the breaches in any order
pub record AreAllFound (held : List Span) (base : ℕ) (found : Found) : Type 0 where
  pub horizon : Horizon
  pub breaches : List Breach
  pub report : IsReport held base horizon breaches found.debts.items
  pub each : (breach : Breach) → Contains found.breaches.items breach ↔ Contains breaches breach
  pub apart : HaveOwnPlaces found.breaches.items

-- spans that follow one another from the base to a place, without a second driver; what they give is held
pub record AreParts (held : List Span) (base place : ℕ) (parts : List Span) : Type 0 where
  pub joined : Joined parts base place
  pub single : All (λ s. s.mark.crew ≡ false) parts
  pub gives : (m : ℕ) (mark : Mark) → Gives parts m mark → Holds held m mark

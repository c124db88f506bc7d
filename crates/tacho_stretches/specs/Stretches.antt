-- Trusted: The stretches of a timeline: the report from the base, and after each horizon the report from the next Monday whose first minute
-- is held without a second driver.
use Rattle.std.specs.Prelude.{◌≡◌, ℕ, nat_lt, List, [], ◌∷◌, Option, None, Some, if◌then◌else◌}
use Rattle.tacho_time.specs.declared.span.Span.{Span}
use Rattle.tacho_line.specs.declared.horizon.Horizon.{Horizon}
use Rattle.tacho_law.specs.declared.breach.Breach.{Breach}
use Rattle.tacho_law.specs.declared.debt.Debt.{Debt}
use Rattle.tacho_rules.specs.Report.{IsReport}
use Rattle.tacho_stretches.specs.declared.stretch.Stretch.{Stretch}
use Rattle.tacho_stretches.specs.Start.{IsNextStart, IsEndOfHeld}

-- a stretch: its Monday; its report; and the end of the range after it that isn't examined, if there is such a range
pub record Judged : Type 0 where
  pub monday : ℕ
  pub horizon : Horizon
  pub breaches : List Breach
  pub debts : List Debt
  pub unseen : Option ℕ

abbrev pub judged_of : Stretch → Judged
judged_of s = record {
  monday = s.monday;
  horizon = s.report.horizon;
  breaches = s.report.breaches.items;
  debts = s.report.debts.items;
  unseen = s.unseen;
}

-- the Monday of the first stretch, if there is one
abbrev pub first_monday : List Judged → Option ℕ
first_monday [] = None
first_monday (s ∷ stretches) = Some s.monday

-- the range that isn't examined after a horizon ends at the next stretch; after the last stretch, at the end of what is held, if that is
-- later
abbrev pub unseen_to : ℕ → ℕ → Option ℕ → Option ℕ
unseen_to end horizon (Some monday) = Some monday
unseen_to end horizon None = if nat_lt horizon end then Some end else None

-- a stretch has the report from its Monday; the next stretch begins at the next possible Monday; the range between isn't examined
pub record IsStretch (line : List Span) (end : ℕ) (s : Judged) (next : Option ℕ) : Type 0 where
  pub report : IsReport line s.monday s.horizon s.breaches s.debts
  pub followed : IsNextStart line s.horizon.minute next
  pub rest : s.unseen ≡ unseen_to end s.horizon.minute next

-- each member of the list is a stretch, and the next member follows it
abbrev pub AreAll : List Span → ℕ → List Judged → Type 0
AreAll line end [] = Unit {0}
AreAll line end (s ∷ stretches) = IsStretch line end s (first_monday stretches) × AreAll line end stretches

-- the stretches of a line: the first one begins at the base
pub record AreStretches (line : List Span) (base : ℕ) (stretches : List Judged) : Type 0 where
  pub first : first_monday stretches ≡ Some base
  pub end : ℕ
  pub is_end : IsEndOfHeld line base end
  pub all : AreAll line end stretches

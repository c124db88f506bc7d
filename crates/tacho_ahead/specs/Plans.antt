-- Trusted: Plans: what a driver holds, and what they do from a minute on. No Article prescribes this: a forecast is the report of a plan.
use Rattle.std.specs.Prelude.{◌≡◌, ℕ, ◌+◌, ◌≤◌, List, [], ◌∷◌, ◌++◌, Contains, None, false}
use Rattle.tacho_time.specs.declared.span.Activity.{Activity}
use Rattle.tacho_time.specs.declared.span.Activity.TheVariants.{Rest, Work, Drive}
use Rattle.tacho_time.specs.declared.span.Span.{Span}
use Rattle.tacho_line.specs.declared.horizon.Horizon.{Horizon}
use Rattle.tacho_line.specs.Line.{mark_at, IsHorizon}
use Rattle.tacho_law.specs.declared.breach.Breach.{Breach}
use Rattle.tacho_law.specs.declared.breach.Kind.{Kind}
use Rattle.tacho_law.specs.declared.breach.Kind.TheVariants.{B3}
use Rattle.tacho_law.specs.declared.debt.Debt.{Debt}
use Rattle.tacho_law.specs.Limits.{latest}
use Rattle.tacho_rules.specs.Report.{IsReport}

-- minutes of a driver who is alone
abbrev pub single : ℕ → ℕ → Activity → Span
single start past activity = record { start = start; past = past; mark = record { activity = activity; crew = false } }

-- what is held, and rest from the horizon to `start`
abbrev pub rested : List Span → ℕ → ℕ → List Span
rested held horizon start = held ++ single horizon start Rest ∷ []

-- the plan: after what is held up to `start`, driving to before x, and then five weeks (50,400 minutes) of rest
abbrev pub plan : List Span → ℕ → ℕ → List Span
plan held start x = held ++ single start x Drive ∷ single x (x + 50400) Rest ∷ []

-- the plan with a daily rest: driving to before x, a regular daily rest (660 minutes), a minute of work, and five weeks of rest
abbrev pub daily_plan : List Span → ℕ → ℕ → List Span
daily_plan held start x = held ++ single start x Drive ∷ single x (x + 660) Rest
    ∷ single (x + 660) (x + 661) Work ∷ single (x + 661) (x + 51061) Rest ∷ []

-- a rest that is followed by five weeks is never reduced, so B3 is judged by the plan with a daily rest
abbrev pub plan_for : Kind → List Span → ℕ → ℕ → List Span
plan_for B3 held start x = daily_plan held start x
plan_for kind held start x = plan held start x

-- Forecasts from this minute on are made: 91,381 minutes later it isn't after 2099, and no plan that is looked at takes more.
abbrev pub IsInTime : ℕ → Type 0
IsInTime start = start + 91381 ≤ latest

-- nothing is held from the horizon on, and it isn't later than `start`
pub record IsOpen (held : List Span) (base start : ℕ) : Type 0 where
  pub horizon : Horizon
  pub is : IsHorizon held base horizon
  pub early : horizon.minute ≤ start
  pub none : (m : ℕ) → horizon.minute ≤ m → mark_at held m ≡ None

-- the report from the base on has the breach
pub record IsReported (held : List Span) (base : ℕ) (breach : Breach) : Type 0 where
  pub horizon : Horizon
  pub found : List Breach
  pub debts : List Debt
  pub report : IsReport held base horizon found debts
  pub has : Contains found breach

-- Trusted: Readings of a part of what a driver holds, and what the rules say of all of it.
use Rattle.std.specs.Prelude.{◌≡◌, ◌⊎◌, ℕ, ◌*◌, ◌<◌, ◌≤◌, false, All, List, IfSome}
use Rattle.tacho_time.specs.declared.span.Span.{Span}
use Rattle.tacho_line.specs.Line.{AgreeWithin}
use Rattle.tacho_rules.specs.declared.report.Report.{Report}
use Rattle.tacho_rules.specs.Report.{IsReport}
use Rattle.tacho_stretches.specs.Stretches.{Judged, AreStretches}
use Rattle.tacho_state.specs.State.{State, driver_of, held_spans}
use Rattle.tacho_state.specs.Steps.{is_monday}
use Rattle.tacho_time.specs.Limits.{first_day, last_day, greatest_minute}

-- the report of what the driver with this number holds, from the first minute of their base; there is exactly one
abbrev pub IsDriverReport : ℕ → State → Report → Type 0
IsDriverReport n s report =
    IfSome (driver_of n s) (λ d. IsReport (held_spans d) (1440 * d.base) report.horizon report.breaches.items report.debts.items)

-- the stretches of what the driver with this number holds, from the first minute of their base; there is exactly one list
abbrev pub AreStretchesOf : ℕ → State → List Judged → Type 0
AreStretchesOf n s stretches = IfSome (driver_of n s) (λ d. AreStretches (held_spans d) (1440 * d.base) stretches)

-- within the range, the line gives each minute the mark that the driver with this number holds; outside it, the line may give anything
abbrev pub IsHeldWithin : ℕ → ℕ → ℕ → State → List Span → Type 0
IsHeldWithin n start past s line = IfSome (driver_of n s) (λ d. AgreeWithin start past line (held_spans d))

-- from the first minute of the base on, the line gives each minute the mark that the driver with this number holds; before it, the line may
-- give anything
abbrev pub IsHeldFromBase : ℕ → State → List Span → Type 0
IsHeldFromBase n s line = IfSome (driver_of n s) (λ d. AgreeWithin (1440 * d.base) greatest_minute line (held_spans d))

-- values that no archive has: a base that isn't a Monday from 2000-01-03 to the end of 2099, or a line that goes past that end
abbrev pub IsNoBase : ℕ → Type 0
IsNoBase base = (base < first_day) ⊎ ((last_day < base) ⊎ (is_monday base ≡ false))

abbrev pub IsOutOfLimits : List Span → ℕ → Type 0
IsOutOfLimits line base = IsNoBase base ⊎ ¬ All (λ (s : Span). s.past ≤ 68374080) line

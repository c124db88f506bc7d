-- Trusted: What a driver has used of the limits when a forecast begins (Regulation (EC) No 561/2006, Articles 6 and 8). No Article prescribes
-- this.
use Rattle.std.specs.Prelude.{◌≡◌, ◌≢◌, ℕ, ◌+◌, ◌<◌, ◌≤◌, List, Option, None, Some}
use Rattle.tacho_time.specs.declared.span.Activity.TheVariants.{Rest}
use Rattle.tacho_time.specs.declared.span.Span.{Span}
use Rattle.tacho_law.specs.declared.run.Run.{Run}
use Rattle.tacho_law.specs.declared.days.DutyDay.{DutyDay}
use Rattle.tacho_law.specs.Breaches.{IsExtended}
use Rattle.tacho_law.specs.Days.{IsDuty, IsReduced, EarlierDay}
use Rattle.tacho_law.specs.Driving.{driving}
use Rattle.tacho_law.specs.Exactly.{HasCount}
use Rattle.tacho_law.specs.Line.{Line}
use Rattle.tacho_law.specs.Runs.{Before}
use Rattle.tacho_law.specs.Weeks.{week_start, IsInWeek, IsWeeklyRest}
use Rattle.tacho_rules.specs.Report.{examined_line}
use Rattle.tacho_ahead.specs.declared.used.Used.{Used}
use Rattle.tacho_ahead.specs.Plans.{plan}

-- the last rest begins at this minute; or nothing but rest is examined
abbrev pub IsRestSince : Line → Option ℕ → Type 0
IsRestSince line None = (m : ℕ) → line m ≡ Rest
IsRestSince line (Some since) = ((m : ℕ) × (since ≡ m + 1) × (line m ≢ Rest)) × ((m : ℕ) → since ≤ m → line m ≡ Rest)

-- a day with a reduced daily rest; no weekly rest after it has ended by `start`
pub record IsReducedLately (line : Line) (start : ℕ) (day : DutyDay) : Type 0 where
  pub reduced : IsReduced line day
  pub none : (rest : Run) → IsWeeklyRest line rest → Before day.rest rest → ¬ (rest.past ≤ start)

-- an extended day in the week of today, before it
pub record IsExtendedBefore (line : Line) (today day : DutyDay) : Type 0 where
  pub week : ℕ
  pub here : IsInWeek week today.start
  pub extended : IsExtended line week day
  pub before : day.start < today.start

-- The line of what is held up to `start` gives the rest and the driving. Today, and how many reduced daily rests and extended days are used,
-- come from the line on which one more minute is driven, at `start`: today is the duty day that has this minute.
pub record IsUsedOf (line driven : Line) (start : ℕ) (used : Used) : Type 0 where
  pub rest : IsRestSince line used.rest_since
  pub today : DutyDay
  pub duty : IsDuty driven today
  pub last : today.past ≡ start + 1
  pub since : used.day_since ≡ today.start
  pub reduced : HasCount (IsReducedLately driven start) EarlierDay used.reduced
  pub extended : HasCount (IsExtendedBefore driven today) EarlierDay used.extended
  pub week : ℕ
  pub here : IsInWeek (week + 1) start
  pub driven_before : used.driven_before ≡ driving line (week_start week) (week_start (week + 1))
  pub driven_in_week : used.driven_in_week ≡ driving line (week_start (week + 1)) (week_start (week + 2))

-- what is used when `held` ends at `start`
abbrev pub IsUsed : List Span → ℕ → ℕ → Used → Type 0
IsUsed held base start used = IsUsedOf (examined_line held base start) (examined_line (plan held start (start + 1)) base (start + 1)) start used

-- Private to tacho_days: Driving in duty days and the extended days of a week (Regulation (EC) No 561/2006, Article 6(1)), span by span:
-- the state of the rules, and what it represents.
use Rattle.std.specs.Prelude.{◌≡◌, ℕ, ◌+◌, ◌-◌, ◌/◌, ◌++◌, ◌≤◌, ◌⊎◌, ◌&&◌, nat_le, nat_lt, nat_eq, Bool}
use Rattle.std.specs.Prelude.{if◌then◌else◌, Option, None, Some, List, Contains, []}
use Rattle.tacho_time.specs.declared.span.Span.{Span}
use Rattle.tacho_law.specs.declared.run.Run.{Run}
use Rattle.tacho_law.specs.declared.breach.Breach.{Breach}
use Rattle.tacho_law.specs.declared.debt.Debt.{Debt}
use Rattle.tacho_law.specs.declared.breach.Kind.TheVariants.{B4, B5}
use Rattle.tacho_law.specs.declared.days.DutyDay.{DutyDay}
use Rattle.tacho_law.specs.Limits.{first_week, minutes_of_week, daily_rest}
use Rattle.tacho_law.specs.Limits.{driving_in_day, driving_in_extended_day, extended_days}
use Rattle.tacho_law.specs.Line.{Line, line_of, Joined}
use Rattle.tacho_law.specs.SoFar.{Reached, AreCollected}
use Rattle.tacho_law.specs.Days.{EarlierDay}
use Rattle.tacho_law.specs.Exactly.{HasCount}
use Rattle.tacho_law.specs.Breaches.{IsExtended, IsB4, IsB5}
use Rattle.tacho_pass.specs.Heard.{Continues}
use Rattle.tacho_pass.specs.Found.{as_list}
use Rattle.tacho_pass.specs.Counts.{count_none, count_with, over_of, IsCounted}
use Rattle.tacho_days.specs.declared.daily_driving.DutyDriving.{DutyDriving}
use Rattle.tacho_days.specs.DutyDays.{is_long, IsLastOf, IsBeforeFirst}

-- Article 4(i): the week of a minute; week 0 is that of 1970-01-05
abbrev pub week_at : ℕ → ℕ
week_at m = (m - first_week) / minutes_of_week

-- the state before the first daily rest, with nothing driven
abbrev pub duty_none : ℕ → DutyDriving
duty_none from = record { from = from; nine = count_none; ten = count_none; week = 0; extended = 0 }

-- each count is at most a minute's number, so no sum overflows
abbrev pub driving_in_range : DutyDriving → ℕ → Bool
driving_in_range d place = nat_le d.nine.minutes place && nat_le d.ten.minutes place

-- the state with the minutes from `from` to before `to`
abbrev pub duty_with : Bool → ℕ → ℕ → DutyDriving → DutyDriving
duty_with drives from to d = record {
  from = d.from;
  nine = count_with driving_in_day drives from to d.nine;
  ten = count_with driving_in_extended_day drives from to d.ten;
  week = d.week;
  extended = d.extended;
}

-- the day's number among the extended days of its week, if it is extended
abbrev pub ordinal_of : DutyDriving → ℕ
ordinal_of d = (if nat_eq d.week (week_at d.from) then d.extended else 0) + 1

-- the breach of a third or later extended day of the week (Article 6(1), second subparagraph)
abbrev pub often_of : DutyDriving → List Breach
often_of d =
    if nat_lt extended_days (ordinal_of d) then as_list (over_of B5 driving_in_day d.from d.nine) else []

-- the breaches of a day: more than ten hours of driving, and too many extended days (Article 6(1))
abbrev pub found_of : DutyDriving → List Breach
found_of d = as_list (over_of B4 driving_in_extended_day d.from d.ten) ++ often_of d

-- the state after a day, when the next one starts at `from`; the day was extended if it has more than nine hours of driving
abbrev pub next_day : ℕ → DutyDriving → DutyDriving
next_day from d = record {
  from = from;
  nine = count_none;
  ten = count_none;
  week = if nat_lt driving_in_day d.nine.minutes then week_at d.from else d.week;
  extended = if nat_lt driving_in_day d.nine.minutes then ordinal_of d else d.extended;
}

-- the state after a rest run, which may end the day
abbrev pub duty_after : Run → DutyDriving → DutyDriving
duty_after run d = if is_long run then next_day run.past d else d

-- the breaches of the day, if the rest run ends it
abbrev pub duty_found : Run → DutyDriving → List Breach
duty_found run d = if is_long run then found_of d else []

-- the state after a rest run, if there is one
abbrev pub duty_any : Option Run → DutyDriving → DutyDriving
duty_any None d = d
duty_any (Some run) d = duty_after run d

-- the breaches found at a rest run, if there is one
abbrev pub duty_found_at_optional_run : Option Run → DutyDriving → List Breach
duty_found_at_optional_run None d = []
duty_found_at_optional_run (Some run) d = duty_found run d

-- an extended day of a week whose rest is among the runs (Article 6(1))
pub record IsExtendedSeen (line : Line) (runs : List Run) (week : ℕ) (day : DutyDay) : Type 0 where
  pub extended : IsExtended line week day
  pub seen : Contains runs day.rest

-- the number of extended days of a week, among the days whose rest is one of the runs; none of the extended days is in a later week
pub record IsTally (line : Line) (runs : List Run) (week count : ℕ) : Type 0 where
  pub how_many : HasCount (λ day. IsExtendedSeen line runs week day) EarlierDay count
  pub latest : (day : DutyDay) (other : ℕ) → IsExtendedSeen line runs other day → other ≤ week
  pub known : (week ≡ 0) ⊎ ((day : DutyDay) × IsExtendedSeen line runs week day)

-- a breach of a day whose rest is among the runs: more than ten hours of driving (Article 6(1))
pub record IsB4Seen (line : Line) (runs : List Run) (breach : Breach) : Type 0 where
  pub kind : breach.kind ≡ B4
  pub is : IsB4 line breach
  pub seen : Contains runs is.day.rest

-- a breach of a day whose rest is among the runs: a third or later extended day of its week (Article 6(1))
pub record IsB5Seen (line : Line) (runs : List Run) (breach : Breach) : Type 0 where
  pub kind : breach.kind ≡ B5
  pub is : IsB5 line breach
  pub seen : Contains runs is.day.rest

-- either of these breaches
abbrev pub IsDrivingSeen : Line → List Run → Breach → Type 0
IsDrivingSeen line runs breach = IsB4Seen line runs breach ⊎ IsB5Seen line runs breach

-- for a line known up to a minute: the runs that have ended, the driving from the end of the last daily rest up to the open rest, the
-- extended days of the last week that has one, and the breaches of the days that have ended
pub record IsDriven (line : Line) (start place : ℕ) (d : DutyDriving) (own : List Breach) : Type 0 where
  pub runs : List Run
  pub reached : Reached line runs start place
  pub last : IsBeforeFirst daily_rest runs start place ⊎ IsLastOf daily_rest runs d.from
  pub nine : IsCounted line driving_in_day d.from start d.nine
  pub ten : IsCounted line driving_in_extended_day d.from start d.ten
  pub tally : IsTally line runs d.week d.extended
  pub found : AreCollected (λ breach. IsDrivingSeen line runs breach) own

-- the state represents the spans: the above holds for each line that continues them
pub record DailyDrivingStands (start place : ℕ) (d : DutyDriving) (own : List Breach) (owed : List Debt) (base : ℕ)
    (spans : List Span) : Type 0 where
  pub none : owed ≡ []
  pub joined : Joined spans base place
  pub kept : (line : Line) → Continues line spans place → IsDriven line start place d own

-- a breach of the rules on a day's driving (Article 6(1))
abbrev pub IsDailyDriving : Line → Breach → Type 0
IsDailyDriving line breach = ((breach.kind ≡ B4) × IsB4 line breach) ⊎ ((breach.kind ≡ B5) × IsB5 line breach)

-- exactly these breaches are found, each once, and no debts
pub record DailyDrivingDefined (own : List Breach) (owed : List Debt) (base horizon : ℕ) (spans : List Span) : Type 0 where
  pub none : owed ≡ []
  pub breaches : AreCollected (λ breach. IsDailyDriving (line_of spans) breach) own

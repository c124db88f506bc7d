-- Trusted in part: The breaches of Regulation (EC) No 561/2006, Articles 6, 7 and 8 (8(6) and 8(6b) as amended by (EU) 2020/1054), one
-- definition for each kind.
use Rattle.std.specs.Prelude.{◌≡◌, ℕ, ◌+◌, ◌-◌, ◌<◌, ◌≤◌, List, Contains, min, None}
use Rattle.tacho_law.specs.declared.run.Run.{Run}
use Rattle.tacho_law.specs.Runs.{AreRestRuns, Before, AreNeighbours}
use Rattle.tacho_law.specs.Driving.{driving, IsDrivingMinute, IsDrivingAbove}
use Rattle.tacho_law.specs.Breaks.{AreCompleteBreaks}
use Rattle.tacho_law.specs.declared.breach.Kind.{Kind}
use Rattle.tacho_law.specs.declared.breach.Kind.TheVariants.{B1, B2, B3, B4, B5, B6, B7, B8, B9, B10}
use Rattle.tacho_law.specs.declared.breach.Breach.{Breach}
use Rattle.tacho_law.specs.declared.debt.Debt.{Debt}
use Rattle.tacho_law.specs.declared.days.DutyDay.{DutyDay}
use Rattle.tacho_law.specs.Line.{Line}
use Rattle.tacho_law.specs.Days.{EarlierDay, IsDuty, HasPortion, IsReduced}
use Rattle.tacho_law.specs.Exactly.{HasCount}
use Rattle.tacho_law.specs.Order.{AreBreaches}
use Rattle.tacho_law.specs.Weeks.{week_start, IsInWeek, IsWeeklyRest}
use Rattle.tacho_law.specs.Choice.{CanServe}
use Rattle.tacho_law.specs.Anew.{Fails, EndedBy}
use Rattle.tacho_law.specs.Debts.{AreDebts}
use Rattle.tacho_law.specs.Limits.{driving_before_break, minutes_of_day, daily_rest, reduced_daily_rests}
use Rattle.tacho_law.specs.Limits.{driving_in_day, driving_in_extended_day, extended_days}
use Rattle.tacho_law.specs.Limits.{driving_in_week, driving_in_two_weeks, weekly_rest, six_days}

-- more driving than the limit in a range: the moment is the first driving minute above the limit
abbrev pub HasDrivingAbove : Line → ℕ → ℕ → ℕ → Breach → Type 0
HasDrivingAbove line limit from to breach = IsDrivingAbove line limit from to breach.moment breach.amount

-- a breach of this kind for too much driving in a range, judged from the first minute of the range
pub record IsDrivingBreach (line : Line) (kind : Kind) (limit from to : ℕ) (breach : Breach) : Type 0 where
  pub kind_is : breach.kind ≡ kind
  pub over : HasDrivingAbove line limit from to breach
  pub since : breach.since ≡ from

-- Article 7: more than four and a half hours (270 minutes) of driving between neighbouring complete breaks (Article 4(q))
pub record IsB1 (line : Line) (breaks : List Run) (breach : Breach) : Type 0 where
  pub earlier : Run
  pub later : Run
  pub first : Contains breaks earlier
  pub second : Contains breaks later
  pub before : Before earlier later
  pub between : (other : Run) → Contains breaks other → Before earlier other → Before other later → ⊥
  pub over : HasDrivingAbove line driving_before_break earlier.past later.start breach
  pub since : IsDrivingMinute line earlier.past later.start 1 breach.since

-- Article 8(2): a daily rest with fewer than nine hours (540 minutes) within the 24 hours from the day's start
pub record IsB2 (line : Line) (breach : Breach) : Type 0 where
  pub day : DutyDay
  pub duty : IsDuty line day
  pub short : ¬ (HasPortion day daily_rest)
  pub moment : breach.moment ≡ day.start + (minutes_of_day - daily_rest)
  pub since : breach.since ≡ day.start
  pub amount : breach.amount + min day.rest.past (day.start + minutes_of_day) ≡ daily_rest + day.past

-- Article 8(4): a fourth or later reduced daily rest since the last weekly rest
pub record IsB3 (line : Line) (breach : Breach) : Type 0 where
  pub day : DutyDay
  pub weekly : Run
  pub ordinal : ℕ
  pub reduced : IsReduced line day
  pub rest : IsWeeklyRest line weekly
  pub before : Before weekly day.rest
  pub last : (run : Run) → IsWeeklyRest line run → Before weekly run → Before run day.rest → ⊥
  pub how_many : HasCount
      (λ other. IsReduced line other × Before weekly other.rest × (other.rest.start ≤ day.rest.start))
      EarlierDay ordinal
  pub many : reduced_daily_rests < ordinal
  pub moment : breach.moment ≡ day.rest.start
  pub since : breach.since ≡ weekly.past
  pub amount : breach.amount + reduced_daily_rests ≡ ordinal

-- Article 6(1), second subparagraph: more than ten hours (600 minutes) of driving in a duty day
pub record IsB4 (line : Line) (breach : Breach) : Type 0 where
  pub day : DutyDay
  pub duty : IsDuty line day
  pub over : HasDrivingAbove line driving_in_extended_day day.start day.past breach
  pub since : breach.since ≡ day.start

-- Article 6(1), an extended day: a duty day of the week with more than nine hours (540 minutes) of driving
pub record IsExtended (line : Line) (w : ℕ) (day : DutyDay) : Type 0 where
  pub duty : IsDuty line day
  pub week : IsInWeek w day.start
  pub over : driving_in_day < driving line day.start day.past

-- Article 6(1), second subparagraph: a third or later extended day of the week
pub record IsB5 (line : Line) (breach : Breach) : Type 0 where
  pub day : DutyDay
  pub week : ℕ
  pub ordinal : ℕ
  pub extended : IsExtended line week day
  pub how_many : HasCount (λ other. IsExtended line week other × (other.start ≤ day.start)) EarlierDay ordinal
  pub many : extended_days < ordinal
  pub over : HasDrivingAbove line driving_in_day day.start day.past breach
  pub since : breach.since ≡ day.start

-- Article 6(2): more than 56 hours (3360 minutes) of driving in a week
pub record IsB6 (line : Line) (breach : Breach) : Type 0 where
  pub week : ℕ
  pub over : HasDrivingAbove line driving_in_week (week_start week) (week_start (week + 1)) breach
  pub since : breach.since ≡ week_start week

-- Article 6(3): more than 90 hours (5400 minutes) of driving in two neighbouring weeks
pub record IsB7 (line : Line) (breach : Breach) : Type 0 where
  pub week : ℕ
  pub over : HasDrivingAbove line driving_in_two_weeks (week_start week) (week_start (week + 2)) breach
  pub since : breach.since ≡ week_start week

-- Article 8(6), second subparagraph: the next weekly rest starts later than six days (8640 minutes) after the end of the last one
pub record IsB8 (line : Line) (breach : Breach) : Type 0 where
  pub earlier : Run
  pub later : Run
  pub neighbours : AreNeighbours line weekly_rest earlier later
  pub moment : breach.moment ≡ earlier.past + six_days
  pub since : breach.since ≡ earlier.past
  pub late : 0 < breach.amount
  pub amount : breach.moment + breach.amount ≡ later.start

-- Articles 8(6), first subparagraph, and 8(9): from the week of the base on, and again from each week at which the rule failed, the first
-- week up to which no choice of a week for each weekly rest is valid. The breach is for that week and the one before it.
pub record IsB9 (line : Line) (base horizon : ℕ) (breach : Breach) : Type 0 where
  pub first : ℕ
  pub week : ℕ
  pub monday : base ≡ week_start first
  pub fails : Fails (CanServe line) (EndedBy horizon) first (week + 1)
  pub moment : breach.moment ≡ week_start (week + 2)
  pub since : breach.since ≡ week_start week
  pub amount : breach.amount ≡ 0

-- Article 8(6b): a reduction that no rest compensates, and whose deadline has been reached
pub record IsB10 (horizon : ℕ) (debts : List Debt) (breach : Breach) : Type 0 where
  pub debt : Debt
  pub owed : Contains debts debt
  pub unpaid : debt.paid_by ≡ None
  pub due : debt.deadline ≤ horizon
  pub moment : breach.moment ≡ debt.deadline
  pub since : breach.since ≡ week_start debt.week
  pub amount : breach.amount ≡ debt.amount

-- a breach of the rule on breaks
abbrev pub IsBreakBreach : Line → List Run → Kind → Breach → Type 0
IsBreakBreach line breaks B1 breach = IsB1 line breaks breach
IsBreakBreach line breaks kind breach = ⊥

-- a breach of the rules on daily rests and on a day's driving
abbrev pub IsDayBreach : Line → Kind → Breach → Type 0
IsDayBreach line B2 breach = IsB2 line breach
IsDayBreach line B3 breach = IsB3 line breach
IsDayBreach line B4 breach = IsB4 line breach
IsDayBreach line B5 breach = IsB5 line breach
IsDayBreach line kind breach = ⊥

-- a breach of the rules on driving in one week and in two
abbrev pub IsWeekBreach : Line → Kind → Breach → Type 0
IsWeekBreach line B6 breach = IsB6 line breach
IsWeekBreach line B7 breach = IsB7 line breach
IsWeekBreach line kind breach = ⊥

-- a breach of the rules on weekly rests
abbrev pub IsRestBreach : Line → ℕ → ℕ → List Debt → Kind → Breach → Type 0
IsRestBreach line base horizon debts B8 breach = IsB8 line breach
IsRestBreach line base horizon debts B9 breach = IsB9 line base horizon breach
IsRestBreach line base horizon debts B10 breach = IsB10 horizon debts breach
IsRestBreach line base horizon debts kind breach = ⊥

-- a breach of any kind
abbrev pub IsBreach : Line → ℕ → ℕ → List Run → List Debt → Kind → Breach → Type 0
IsBreach line base horizon breaks debts B1 breach = IsB1 line breaks breach
IsBreach line base horizon breaks debts B2 breach = IsB2 line breach
IsBreach line base horizon breaks debts B3 breach = IsB3 line breach
IsBreach line base horizon breaks debts B4 breach = IsB4 line breach
IsBreach line base horizon breaks debts B5 breach = IsB5 line breach
IsBreach line base horizon breaks debts B6 breach = IsB6 line breach
IsBreach line base horizon breaks debts B7 breach = IsB7 line breach
IsBreach line base horizon breaks debts B8 breach = IsB8 line breach
IsBreach line base horizon breaks debts B9 breach = IsB9 line base horizon breach
IsBreach line base horizon breaks debts B10 breach = IsB10 horizon debts breach

-- these are the breaches of the rule on breaks
pub record AreBreakBreaches (line : Line) (found : List Breach) : Type 0 where
  pub runs : List Run
  pub breaks : List Run
  pub are_runs : AreRestRuns line runs
  pub are_breaks : AreCompleteBreaks runs breaks
  pub exactly : AreBreaches (λ breach. IsBreakBreach line breaks breach.kind breach) found

-- these are the breaches of the rules on days
abbrev pub AreDayBreaches : Line → List Breach → Type 0
AreDayBreaches line found = AreBreaches (λ breach. IsDayBreach line breach.kind breach) found

-- these are the breaches of the rules on weeks
abbrev pub AreWeekBreaches : Line → List Breach → Type 0
AreWeekBreaches line found = AreBreaches (λ breach. IsWeekBreach line breach.kind breach) found

-- these are the breaches of the rules on weekly rests, and the debts
pub record AreRestBreaches (line : Line) (base horizon : ℕ) (found : List Breach) (debts : List Debt) : Type 0 where
  pub are_debts : AreDebts line horizon debts
  pub exactly : AreBreaches (λ breach. IsRestBreach line base horizon debts breach.kind breach) found

-- the breach is a late weekly rest
abbrev pub IsLate : Line → Breach → Type 0
IsLate line breach = (breach.kind ≡ B8) × IsB8 line breach

-- the breach is that of two neighbouring weeks without the weekly rests that they need
abbrev pub IsLacking : Line → ℕ → ℕ → Breach → Type 0
IsLacking line base horizon breach = (breach.kind ≡ B9) × IsB9 line base horizon breach

-- the breach is a debt that isn't paid in time
abbrev pub IsOverdue : ℕ → List Debt → Breach → Type 0
IsOverdue horizon debts breach = (breach.kind ≡ B10) × IsB10 horizon debts breach

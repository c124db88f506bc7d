-- Trusted: The evidence for breaches B1 to B10: what a person needs to check each with pencil and paper. Each list has exactly the things of
-- its kind; that nothing else of the kind lies between is a fact of the examined line.
use Rattle.std.specs.Prelude.{◌≡◌, ◌≢◌, ◌⊎◌, ℕ, zero, suc, ◌+◌, ◌-◌, ◌<◌, ◌≤◌, ◌%◌, ◌==◌, List, [], ◌∷◌, ◌++◌, Contains, IsPermutation, IsSorted, if◌then◌else◌, length, map, min, slice_get, take, Some}
use Rattle.std.specs.Ordering.{nat_cmp}
use Rattle.tacho_law.specs.declared.run.Run.{Run}
use Rattle.tacho_law.specs.declared.breach.Breach.{Breach}
use Rattle.tacho_law.specs.declared.days.DutyDay.{DutyDay}
use Rattle.tacho_law.specs.declared.debt.Debt.{Debt}
use Rattle.tacho_law.specs.Anew.{EndedBy, Fails}
use Rattle.tacho_law.specs.Breaches.{IsExtended}
use Rattle.tacho_law.specs.Choice.{CanServe, IsCounted}
use Rattle.tacho_law.specs.Days.{EarlierDay, IsDuty, IsReduced}
use Rattle.tacho_law.specs.Debts.{minutes_before, paid_from, IsMainRest, Keeps}
use Rattle.tacho_law.specs.Driving.{driving}
use Rattle.tacho_law.specs.Exactly.{AreExactly}
use Rattle.tacho_law.specs.Limits.{driving_before_break, minutes_of_day, daily_rest, reduced_daily_rests, first_part_of_break, first_part_of_daily_rest}
use Rattle.tacho_law.specs.Limits.{driving_in_day, driving_in_extended_day, extended_days, driving_in_week, driving_in_two_weeks, six_days, weekly_rest, regular_weekly_rest}
use Rattle.tacho_law.specs.Line.{Line}
use Rattle.tacho_law.specs.Runs.{minutes_of, AreNeighbours, Before, IsRestOf, IsRestRun}
use Rattle.tacho_law.specs.Weeks.{week_start, IsWeeklyRest, IsWhollyAtRest, Touches}
use Rattle.tacho_evidence.specs.declared.driven.DrivenSpan.{DrivenSpan}
use Rattle.tacho_evidence.specs.declared.line.EvidenceLine.{EvidenceLine}
use Rattle.tacho_evidence.specs.declared.line.EvidenceLine.TheVariants.{Break, Rest, Drive, Day, Limit, DailyRest, Weekly, Reduced, Week, WeekDrive, Date, Extended, From, WeekAtRest, WeeklyIn, Owes, Main, Room}
use Rattle.tacho_evidence.specs.Driven.{AreDriven, AreDrivingSpans, IsAboveByTotals, total_of, with_totals}

-- ---- B1: breaks

-- when a driving span or a rest begins; 0 for other lines
abbrev pub begins : EvidenceLine → ℕ
begins (Drive span) = span.run.start
begins (Rest run) = run.start
begins line = 0

-- driving spans and rests, in order of time
pub record AreByTime (spans : List DrivenSpan) (rests : List Run) (lines : List EvidenceLine) : Type 0 where
  pub all : IsPermutation (map Drive spans ++ map Rest rests) lines
  pub sorted : IsSorted (λ x y. nat_cmp (begins x) (begins y)) lines

-- a rest run of at least 15 minutes between two runs
pub record IsRestBetween (line : Line) (a b run : Run) : Type 0 where
  pub rest : IsRestOf line first_part_of_break run
  pub after : Before a run
  pub before : Before run b

-- the driving spans between two neighbouring complete breaks, with their totals: the first begins at `since`, and with `moment` they are
-- above four and a half hours
pub record IsBreakEvidence (line : Line) (breaks : List Run) (breach : Breach) (lines : List EvidenceLine) : Type 0 where
  pub earlier : Run
  pub later : Run
  pub first : Contains breaks earlier
  pub second : Contains breaks later
  pub before : Before earlier later
  pub between : (other : Run) → Contains breaks other → Before earlier other → Before other later → ⊥
  pub spans : List DrivenSpan
  pub driven : AreDriven line earlier.past later.start spans
  pub above : IsAboveByTotals driving_before_break spans breach.moment breach.amount
  pub begun : List DrivenSpan
  pub front : DrivenSpan
  pub since : (spans ≡ front ∷ begun) × (breach.since ≡ front.run.start)
  pub rests : List Run
  pub rested : AreExactly (IsRestBetween line earlier later) Before rests
  pub middle : List EvidenceLine
  pub by_time : AreByTime spans rests middle
  pub lines_are : lines ≡ Break earlier ∷ (middle ++ (Break later ∷ []))

-- ---- B2: a daily rest

-- a rest run of at least three hours within a duty day
pub record IsRestWithin (line : Line) (day : DutyDay) (run : Run) : Type 0 where
  pub rest : IsRestOf line first_part_of_daily_rest run
  pub after : day.start ≤ run.start
  pub before : run.past ≤ day.past

-- the part of the daily rest up to the limit, 24 hours after the day's start, is shorter than nine hours
pub record IsDailyRestEvidence (line : Line) (breach : Breach) (lines : List EvidenceLine) : Type 0 where
  pub day : DutyDay
  pub duty : IsDuty line day
  pub short : min day.rest.past (day.start + minutes_of_day) < day.rest.start + daily_rest
  pub moment : breach.moment ≡ day.start + (minutes_of_day - daily_rest)
  pub since : breach.since ≡ day.start
  pub amount : breach.amount + min day.rest.past (day.start + minutes_of_day) ≡ daily_rest + day.rest.start
  pub rests : List Run
  pub rested : AreExactly (IsRestWithin line day) Before rests
  pub lines_are : lines ≡ Day day.start day.past ∷ (Limit (day.start + minutes_of_day)
      ∷ (map Rest rests ++ (DailyRest day.rest (day.start + minutes_of_day) ∷ [])))

-- ---- B3: reduced daily rests

-- a day with a reduced daily rest between a weekly rest and a minute
pub record IsReducedSince (line : Line) (weekly : Run) (moment : ℕ) (day : DutyDay) : Type 0 where
  pub reduced : IsReduced line day
  pub after : Before weekly day.rest
  pub before : day.rest.start ≤ moment

-- their lines, counted from `i`
abbrev pub reduced_lines : ℕ → List DutyDay → List EvidenceLine
reduced_lines i [] = []
reduced_lines i (day ∷ days) = Reduced i day.rest day.start ∷ reduced_lines (i + 1) days

-- the reduced daily rests since the last weekly rest up to the one at `moment`: there are more than three
pub record IsReducedEvidence (line : Line) (breach : Breach) (lines : List EvidenceLine) : Type 0 where
  pub weekly : Run
  pub rest : IsWeeklyRest line weekly
  pub days : List DutyDay
  pub reduced : AreExactly (IsReducedSince line weekly breach.moment) EarlierDay days
  pub day : DutyDay
  pub this : Contains days day
  pub last : (run : Run) → IsWeeklyRest line run → Before weekly run → Before run day.rest → ⊥
  pub many : reduced_daily_rests < length days
  pub moment : breach.moment ≡ day.rest.start
  pub since : breach.since ≡ weekly.past
  pub amount : breach.amount + reduced_daily_rests ≡ length days
  pub lines_are : lines ≡ Weekly weekly ∷ reduced_lines 1 days

-- ---- B4 and B5: driving in a day

-- the driving spans of a duty day, with their totals: with `moment` they are above ten hours
pub record IsDayEvidence (line : Line) (breach : Breach) (lines : List EvidenceLine) : Type 0 where
  pub day : DutyDay
  pub duty : IsDuty line day
  pub spans : List DrivenSpan
  pub driven : AreDriven line day.start day.past spans
  pub above : IsAboveByTotals driving_in_extended_day spans breach.moment breach.amount
  pub since : breach.since ≡ day.start
  pub lines_are : lines ≡ Day day.start day.past ∷ map Drive spans

-- an extended day of a week, up to a day's start
pub record IsExtendedUpTo (line : Line) (week since : ℕ) (day : DutyDay) : Type 0 where
  pub extended : IsExtended line week day
  pub before : day.start ≤ since

-- their lines, counted from `i`
abbrev pub extended_lines : Line → ℕ → List DutyDay → List EvidenceLine
extended_lines line i [] = []
extended_lines line i (day ∷ days) = Extended i day.start day.past (driving line day.start day.past) ∷ extended_lines line (i + 1) days

-- the extended days of a week up to the one that begins at `since`: there are more than two. The driving spans of this one, with their totals:
-- with `moment` they are above nine hours.
pub record IsExtendedEvidence (line : Line) (breach : Breach) (lines : List EvidenceLine) : Type 0 where
  pub week : ℕ
  pub days : List DutyDay
  pub extended : AreExactly (IsExtendedUpTo line week breach.since) EarlierDay days
  pub many : extended_days < length days
  pub day : DutyDay
  pub this : Contains days day
  pub since : breach.since ≡ day.start
  pub spans : List DrivenSpan
  pub driven : AreDriven line day.start day.past spans
  pub above : IsAboveByTotals driving_in_day spans breach.moment breach.amount
  pub lines_are : lines ≡ Week (week_start week) ∷ (extended_lines line 1 days ++ map Drive spans)

-- ---- B6 and B7: driving in a week and in two

-- the first minute of a minute's date
abbrev pub date_of : ℕ → ℕ
date_of m = m - m % minutes_of_day

-- the line of a date with driving: its driving, and the driving from `origin` to its end
abbrev pub date_line : Line → ℕ → ℕ → List EvidenceLine
date_line line origin date =
    if driving line date (date + minutes_of_day) == 0 then []
    else Date date (driving line date (date + minutes_of_day)) (driving line origin (date + minutes_of_day)) ∷ []

-- the lines of n dates, the first at `start`; after the line of one date the lines of its driving spans
abbrev pub date_lines : Line → ℕ → ℕ → List EvidenceLine → ℕ → ℕ → List EvidenceLine
date_lines line origin date drives start zero = []
date_lines line origin date drives start (suc n) =
    date_line line origin start ++ ((if start == date then drives else []) ++ date_lines line origin date drives (start + minutes_of_day) n)

-- the driving spans of a date; the totals go on from the driving between `origin` and the date
pub record AreDrivenOn (line : Line) (origin date : ℕ) (spans : List DrivenSpan) : Type 0 where
  pub runs : List Run
  pub are : AreDrivingSpans line date (date + minutes_of_day) runs
  pub totals : spans ≡ with_totals (driving line origin date) runs

-- by the totals of a date's spans `moment` is the first minute above the limit
pub record IsReachedOn (done limit : ℕ) (spans : List DrivenSpan) (moment : ℕ) : Type 0 where
  pub before : List DrivenSpan
  pub span : DrivenSpan
  pub after : List DrivenSpan
  pub parts : spans ≡ before ++ (span ∷ after)
  pub reached : total_of done before ≤ limit
  pub exceeded : limit < span.total
  pub moment_is : moment + total_of done before ≡ span.run.start + limit

-- the driving spans of the moment's date, with totals from `origin`: with `moment` they are above the limit; and up to `end` there is
-- `amount` more
pub record IsWeeklyExcess (line : Line) (limit origin end : ℕ) (breach : Breach) (spans : List DrivenSpan) : Type 0 where
  pub from : origin ≤ date_of breach.moment
  pub until : breach.moment < end
  pub driven : AreDrivenOn line origin (date_of breach.moment) spans
  pub reached : IsReachedOn (driving line origin (date_of breach.moment)) limit spans breach.moment
  pub amount : breach.amount + limit ≡ driving line origin end
  pub since : breach.since ≡ origin

-- the dates of the week, up to more than 56 hours
pub record IsWeekEvidence (line : Line) (breach : Breach) (lines : List EvidenceLine) : Type 0 where
  pub week : ℕ
  pub spans : List DrivenSpan
  pub excess : IsWeeklyExcess line driving_in_week (week_start week) (week_start (week + 1)) breach spans
  pub lines_are : lines ≡ Week (week_start week)
      ∷ date_lines line (week_start week) (date_of breach.moment) (map Drive spans) (week_start week) 7

-- a week with its driving, and its dates
abbrev pub week_lines : Line → ℕ → ℕ → List EvidenceLine → ℕ → List EvidenceLine
week_lines line origin date drives week =
    WeekDrive (week_start week) (driving line (week_start week) (week_start (week + 1)))
    ∷ date_lines line origin date drives (week_start week) 7

-- the dates of both weeks, up to more than 90 hours
pub record IsTwoWeeksEvidence (line : Line) (breach : Breach) (lines : List EvidenceLine) : Type 0 where
  pub week : ℕ
  pub spans : List DrivenSpan
  pub excess : IsWeeklyExcess line driving_in_two_weeks (week_start week) (week_start (week + 2)) breach spans
  pub lines_are : lines ≡ week_lines line (week_start week) (date_of breach.moment) (map Drive spans) week
      ++ week_lines line (week_start week) (date_of breach.moment) (map Drive spans) (week + 1)

-- ---- B8: a late weekly rest

-- two neighbouring weekly rests: the later starts more than six days after the end of the earlier
pub record IsLateEvidence (line : Line) (breach : Breach) (lines : List EvidenceLine) : Type 0 where
  pub earlier : Run
  pub later : Run
  pub neighbours : AreNeighbours line weekly_rest earlier later
  pub moment : breach.moment ≡ earlier.past + six_days
  pub since : breach.since ≡ earlier.past
  pub late : earlier.past + six_days < later.start
  pub amount : breach.moment + breach.amount ≡ later.start
  pub lines_are : lines ≡ Weekly earlier ∷ (Weekly later ∷ [])

-- ---- B9: weeks without their weekly rests

-- a weekly rest with a minute in the weeks from one to another
pub record IsWeeklyRestIn (line : Line) (first last : ℕ) (run : Run) : Type 0 where
  pub rest : IsWeeklyRest line run
  pub after : week_start first < run.past
  pub before : run.start < week_start (last + 1)

-- for each of some rests, one of these weeks in which it has a minute
pub record IsChoiceOf (rests : List Run) (first last : ℕ) (week_of : Run → ℕ) : Type 0 where
  pub from : (rest : Run) → Contains rests rest → first ≤ week_of rest
  pub until : (rest : Run) → Contains rests rest → week_of rest ≤ last
  pub touches : (rest : Run) → Contains rests rest → Touches rest (week_of rest)

-- two of the rests are counted in a week and the next, one of them with 45 hours or more
pub record HasTwoOf (rests : List Run) (week_of : Run → ℕ) (w : ℕ) : Type 0 where
  pub long : Run
  pub other : Run
  pub long_among : Contains rests long
  pub other_among : Contains rests other
  pub enough : regular_weekly_rest ≤ minutes_of long
  pub different : long ≢ other
  pub long_counted : IsCounted week_of w long
  pub other_counted : IsCounted week_of w other

-- one choice for these rests is valid for each two neighbouring weeks from one to another
pub record CanServeBy (line : Line) (rests : List Run) (first last : ℕ) : Type 0 where
  pub week_of : Run → ℕ
  pub choice : IsChoiceOf rests first last week_of
  pub each : (w : ℕ) → first ≤ w → w + 1 ≤ last
      → IsWhollyAtRest line w ⊎ (IsWhollyAtRest line (w + 1) ⊎ HasTwoOf rests week_of w)

-- the line of a week says whether it is wholly at rest
abbrev pub IsWeekLine : Line → ℕ → EvidenceLine → Type 0
IsWeekLine line w (Week monday) = (monday ≡ week_start w) × ¬ (IsWhollyAtRest line w)
IsWeekLine line w (WeekAtRest monday) = (monday ≡ week_start w) × IsWhollyAtRest line w
IsWeekLine line w other = ⊥

-- the lines of n weeks
abbrev pub AreWeekLines : Line → ℕ → ℕ → List EvidenceLine → Type 0
AreWeekLines line w zero lines = lines ≡ []
AreWeekLines line w (suc n) lines =
    (one : EvidenceLine) × (others : List EvidenceLine) × (lines ≡ one ∷ others) × IsWeekLine line w one × AreWeekLines line (w + 1) n others

-- of the weeks from one to another, a and b are the first and the last in which the run has a minute
pub record IsIn (first last : ℕ) (run : Run) (a b : ℕ) : Type 0 where
  pub from : first ≤ a
  pub until : b ≤ last
  pub in_first : Touches run a
  pub in_last : Touches run b
  pub all : (w : ℕ) → first ≤ w → w ≤ last → Touches run w → (a ≤ w) × (w ≤ b)

-- the lines of weekly rests
abbrev pub AreRestLines : ℕ → ℕ → List Run → List EvidenceLine → Type 0
AreRestLines first last [] lines = lines ≡ []
AreRestLines first last (run ∷ runs) lines =
    (a : ℕ) × (b : ℕ) × (others : List EvidenceLine) × IsIn first last run a b
    × (lines ≡ WeeklyIn run (week_start a) (week_start b) ∷ others) × AreRestLines first last runs others

-- the weekly rests of the weeks from which the choice was made anew, up to the second of the two: no choice for exactly these is valid, and up
-- to each earlier week one is
pub record IsChoiceEvidence (line : Line) (base horizon : ℕ) (breach : Breach) (lines : List EvidenceLine) : Type 0 where
  pub begin : ℕ
  pub monday : base ≡ week_start begin
  pub first : ℕ
  pub anew : (first ≡ begin) ⊎ Fails (CanServe line) (EndedBy horizon) begin first
  pub week : ℕ
  pub later : first < week + 1
  pub ended : EndedBy horizon (week + 1)
  pub rests : List Run
  pub rested : AreExactly (IsWeeklyRestIn line first (week + 1)) Before rests
  pub none : ¬ (CanServeBy line rests first (week + 1))
  pub served : (v : ℕ) → first ≤ v → v < week + 1 → CanServe line first v
  pub moment : breach.moment ≡ week_start (week + 2)
  pub since : breach.since ≡ week_start week
  pub amount : breach.amount ≡ 0
  pub weeks : List EvidenceLine
  pub week_lines : AreWeekLines line first ((week + 2) - first) weeks
  pub counted : List EvidenceLine
  pub rest_lines : AreRestLines first (week + 1) rests counted
  pub lines_are : lines ≡ From (week_start first) ∷ (weeks ++ counted)

-- ---- B10: a debt that nothing pays

-- a rest after the main rest, with nine hours before the horizon, that begins before the deadline
pub record IsLaterRest (line : Line) (horizon deadline : ℕ) (main run : Run) : Type 0 where
  pub rest : IsRestRun line run
  pub after : Before main run
  pub enough : daily_rest ≤ minutes_before horizon run
  pub in_time : run.start < deadline

-- the lines of such rests: what each has before the deadline and the horizon, and what it keeps for itself and for older debts
abbrev pub AreRooms : Line → ℕ → List Debt → ℕ → List Run → List EvidenceLine → Type 0
AreRooms line horizon older deadline [] lines = lines ≡ []
AreRooms line horizon older deadline (run ∷ runs) lines =
    (kept : ℕ) × (others : List EvidenceLine) × Keeps line horizon run kept
    × (lines ≡ Room run (minutes_before (min horizon deadline) run) (kept + paid_from run older) ∷ others)
    × AreRooms line horizon older deadline runs others

-- none of the rests has room for an amount
abbrev pub HaveNoRoom : ℕ → List EvidenceLine → Type 0
HaveNoRoom amount [] = Unit {0}
HaveNoRoom amount (Room rest has keeps ∷ lines) = (has < keeps + amount) × HaveNoRoom amount lines
HaveNoRoom amount (other ∷ lines) = HaveNoRoom amount lines

-- the debt, the main rest of its week, and each later rest with its room: none has room for the debt
pub record IsDebtEvidence (line : Line) (horizon : ℕ) (debts : List Debt) (breach : Breach) (lines : List EvidenceLine) : Type 0 where
  pub place : ℕ
  pub debt : Debt
  pub this : slice_get debts place ≡ Some debt
  pub main : Run
  pub is : IsMainRest line horizon debt.week main
  pub due : debt.deadline ≤ horizon
  pub rests : List Run
  pub rested : AreExactly (IsLaterRest line horizon debt.deadline main) Before rests
  pub rooms : List EvidenceLine
  pub rooms_are : AreRooms line horizon (take place debts) debt.deadline rests rooms
  pub none : HaveNoRoom debt.amount rooms
  pub moment : breach.moment ≡ debt.deadline
  pub since : breach.since ≡ week_start debt.week
  pub amount : breach.amount ≡ debt.amount
  pub lines_are : lines ≡ Owes (week_start debt.week) debt.amount debt.deadline ∷ (Main main ∷ rooms)

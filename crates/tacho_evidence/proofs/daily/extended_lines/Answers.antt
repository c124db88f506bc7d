use Rattle.std.proofs.Common.{◌≡◌, sym, subst, ◌∙◌, ℕ}
use Rattle.tacho_law.specs.declared.days.DutyDay.{DutyDay}
use Rattle.tacho_law.specs.Days.{IsDuty, EarlierDay}
use Rattle.tacho_law.specs.Line.{Line, line_of}
use Rattle.tacho_law.specs.Exactly.{AreExactly}
use Rattle.tacho_law.specs.Weeks.{week_start, IsInWeek}
use Rattle.tacho_evidence.specs.Evidence.{IsExtendedUpTo}
use Rattle.tacho_evidence.proofs.DaysInTimeLemmas.{days_in_time}
use Rattle.tacho_evidence.proofs.DailyLinesLemmas.{extended_lines_are}
use Rattle.tacho_evidence.proofs.NearLemmas.{examined_runs}
use Rattle.tacho_evidence.proofs.daily.extended_lines.Goals as goal

pub day_from-day-requires-clause-days : goal.day_from-day-requires-clause-days
day_from-day-requires-clause-days c =
    days_in_time c.args.examined.now.spans.now c.args.examined.now.base c.args.examined.now.past c.requires.examined
    c.args.days.now c.requires.days

pub day_from-day-requires-clause-there : goal.day_from-day-requires-clause-there
day_from-day-requires-clause-there c = (
  c.requires.breach.day,
  (c.requires.days.each c.requires.breach.day).1 c.requires.breach.extended.duty,
  sym c.requires.breach.since ∙ sym c.number-since.ensures.value,
)

pub returns : goal.returns
returns c =
    let line : Line = line_of c.args.examined.now.spans.now in
    let (runs, are) = examined_runs c.args.examined.now.spans.now c.args.examined.now.base c.args.examined.now.past
    c.requires.examined in
    let day : DutyDay = c.day_from-day.result in
    let duty : IsDuty line day = (c.requires.days.each day).0 c.day_from-day.ensures.among in
    let begins : day.start ≡ c.args.breach.now.since = c.day_from-day.ensures.begins ∙ c.number-since.ensures.value in
    let (extended, exactly, first) = c.in_ok-append_extended.ensures in
    let (spans, driven, is) = c.in_ok-append_driving.ensures in
    let week : IsInWeek c.week_of-week.result c.args.breach.now.since =
    (c.week_of-week.ensures.from, c.week_of-week.ensures.before) in
    let exactly' : AreExactly (IsExtendedUpTo line c.week_of-week.result c.args.breach.now.since) EarlierDay extended =
    subst (λ (since : ℕ). AreExactly (IsExtendedUpTo line c.week_of-week.result since) EarlierDay extended)
    c.number-since.ensures.value exactly in
    let start : c.number.result ≡ week_start c.week_of-week.result = c.number.ensures.value ∙ c.first_minute.ensures in
    extended_lines_are line runs are c.args.breach.now c.append_driving.new.lines.items day duty begins
    c.requires.breach c.week_of-week.result week extended exactly' spans driven
    (rw (first, c.in_ok-push.ensures.items, c.new-lines.ensures.items, start) at is)

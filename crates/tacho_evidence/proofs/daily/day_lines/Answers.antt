use Rattle.std.proofs.Common.{◌≡◌, sym, ◌∙◌}
use Rattle.tacho_law.specs.declared.days.DutyDay.{DutyDay}
use Rattle.tacho_law.specs.Days.{IsDuty}
use Rattle.tacho_law.specs.Line.{Line, line_of}
use Rattle.tacho_evidence.proofs.DaysInTimeLemmas.{days_in_time}
use Rattle.tacho_evidence.proofs.DailyLinesLemmas.{day_lines_are}
use Rattle.tacho_evidence.proofs.NearLemmas.{examined_runs}
use Rattle.tacho_evidence.proofs.daily.day_lines.Goals as goal

pub day_from-day-requires-clause-days : goal.day_from-day-requires-clause-days
day_from-day-requires-clause-days c =
    days_in_time c.args.examined.now.spans.now c.args.examined.now.base c.args.examined.now.past c.requires.examined
    c.args.days.now c.requires.days

pub day_from-day-requires-clause-there : goal.day_from-day-requires-clause-there
day_from-day-requires-clause-there c = (
  c.requires.breach.day,
  (c.requires.days.each c.requires.breach.day).1 c.requires.breach.duty,
  sym c.requires.breach.since ∙ sym c.number.ensures.value,
)

pub returns : goal.returns
returns c =
    let line : Line = line_of c.args.examined.now.spans.now in
    let (runs, are) = examined_runs c.args.examined.now.spans.now c.args.examined.now.base c.args.examined.now.past
    c.requires.examined in
    let day : DutyDay = c.day_from-day.result in
    let duty : IsDuty line day = (c.requires.days.each day).0 c.day_from-day.ensures.among in
    let begins : day.start ≡ c.args.breach.now.since = c.day_from-day.ensures.begins ∙ c.number.ensures.value in
    let (spans, driven, is) = c.in_ok-append_driving.ensures in
    day_lines_are line runs are c.args.breach.now c.append_driving.new.lines.items day duty begins
    c.requires.breach spans driven (rw (c.in_ok-push.ensures.items, c.new-lines.ensures.items) at is)

use Rattle.std.proofs.Common.{◌≡◌, ◌+◌, ◌∷◌, ◌++◌, [], List, map, sym, ◌∙◌, ap, ◌<◌, arith}
use Rattle.tacho_law.specs.declared.days.DutyDay.{DutyDay}
use Rattle.tacho_law.specs.Days.{IsDuty}
use Rattle.tacho_law.specs.Line.{Line, line_of}
use Rattle.tacho_law.specs.Exactly.{AreExactly}
use Rattle.tacho_law.specs.Runs.{Before}
use Rattle.tacho_law.proofs.RunsLemmas.{rest_runs_are}
use Rattle.tacho_evidence.specs.declared.line.EvidenceLine.{EvidenceLine}
use Rattle.tacho_evidence.specs.declared.line.EvidenceLine.TheVariants.{Day, DailyRest, Limit, Rest}
use Rattle.tacho_evidence.specs.Evidence.{IsRestWithin}
use Rattle.tacho_evidence.proofs.DaysInTimeLemmas.{days_in_time, duty_in_time}
use Rattle.tacho_evidence.proofs.DailyLinesLemmas.{daily_rest_lines_are}
use Rattle.tacho_evidence.proofs.DebtLinesLemmas.{runs_in_time}
use Rattle.tacho_evidence.proofs.AppendedLemmas.{rests_within_are}
use Rattle.tacho_evidence.proofs.NearLemmas.{runs_near_are}
use Rattle.tacho_evidence.proofs.daily.daily_rest_lines.Goals as goal

pub day_from-day-requires-clause-days : goal.day_from-day-requires-clause-days
day_from-day-requires-clause-days c =
    days_in_time c.args.examined.now.spans.now c.args.examined.now.base c.args.examined.now.past c.requires.examined
    c.args.days.now c.requires.days

pub day_from-day-requires-clause-there : goal.day_from-day-requires-clause-there
day_from-day-requires-clause-there c = (
  c.requires.breach.day,
  (c.requires.days.each c.requires.breach.day).1 c.requires.breach.duty,
  sym c.requires.breach.since ∙ sym c.number.ensures.value,
)

pub touching-requires-clause-in_time : goal.touching-requires-clause-in_time
touching-requires-clause-in_time c =
    runs_in_time c.args.examined.now.spans.now c.args.examined.now.base c.args.examined.now.past c.requires.examined
    c.args.runs.now c.requires.runs

pub touching-requires-clause-range : goal.touching-requires-clause-range
touching-requires-clause-range c =
    let day : DutyDay = c.day_from-day.result in
    let some : day.start < day.past = (duty_in_time c.args.examined.now.spans.now c.args.examined.now.base
    c.args.examined.now.past c.requires.examined day ((c.requires.days.each day).0 c.day_from-day.ensures.among)).some in
    omega (arith, some)

pub append_rests-requires : goal.append_rests-requires
append_rests-requires c =
    runs_near_are c.args.runs.now c.touching.result.now
    (rest_runs_are (line_of c.args.examined.now.spans.now) c.args.runs.now c.requires.runs)
    (λ run h. ((c.touching.ensures.each run).0 h).0) c.touching.ensures.in_order

pub returns : goal.returns
returns c =
    let line : Line = line_of c.args.examined.now.spans.now in
    let day : DutyDay = c.day_from-day.result in
    let duty : IsDuty line day = (c.requires.days.each day).0 c.day_from-day.ensures.among in
    let begins : day.start ≡ c.args.breach.now.since = c.day_from-day.ensures.begins ∙ c.number.ensures.value in
    let (rests, near, is) = c.in_ok-append_rests.ensures in
    let rested : AreExactly (IsRestWithin line day) Before rests =
    rests_within_are line c.args.runs.now c.touching.result.now day rests c.requires.runs c.touching.ensures.each near in
    let before : c.append_rests.new.lines.items ≡ Day day.start day.past ∷ (Limit (day.start + 1440) ∷ map Rest rests) =
    rw (c.in_ok-push-2.ensures.items, c.in_ok-push.ensures.items, c.new-lines.ensures.items) at is in
    daily_rest_lines_are line c.args.runs.now c.requires.runs c.args.breach.now c.push-3.new.self.items day duty begins
    c.requires.breach rests rested
    (c.in_ok-push-3.ensures.items
    ∙ ap (λ (lines : List EvidenceLine). lines ++ DailyRest day.rest (day.start + 1440) ∷ []) before)

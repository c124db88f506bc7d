use Rattle.std.proofs.Common.{◌≡◌, ◌<◌, sym, subst, ◌∙◌, arith, ℕ}
use Rattle.tacho_law.specs.declared.run.Run.{Run}
use Rattle.tacho_law.specs.Line.{Line, line_of}
use Rattle.tacho_law.specs.Days.{EarlierDay}
use Rattle.tacho_law.specs.Exactly.{AreExactly}
use Rattle.tacho_periods.proofs.RunsLemmas.{rests_are}
use Rattle.tacho_evidence.specs.Evidence.{IsReducedSince}
use Rattle.tacho_evidence.proofs.DaysInTimeLemmas.{days_in_time}
use Rattle.tacho_evidence.proofs.DailyLinesLemmas.{reduced_lines_are}
use Rattle.tacho_evidence.proofs.NearLemmas.{examined_runs}
use Rattle.tacho_evidence.proofs.daily.reduced_lines.Goals as goal

pub rest_until-last-requires-clause-runs : goal.rest_until-last-requires-clause-runs
rest_until-last-requires-clause-runs c =
    rests_are (line_of c.args.examined.now.spans.now) 1440 c.args.weekly.now c.requires.weekly

pub rest_until-last-requires-clause-there : goal.rest_until-last-requires-clause-there
rest_until-last-requires-clause-there c = (
  c.requires.breach.weekly,
  (c.requires.weekly.each c.requires.breach.weekly).1 c.requires.breach.rest,
  sym c.requires.breach.since ∙ sym c.number.ensures.value,
)

pub append_reduced-requires-clause-days : goal.append_reduced-requires-clause-days
append_reduced-requires-clause-days c =
    days_in_time c.args.examined.now.spans.now c.args.examined.now.base c.args.examined.now.past c.requires.examined
    c.args.days.now c.requires.days

pub append_reduced-requires-clause-parts : goal.append_reduced-requires-clause-parts
append_reduced-requires-clause-parts c =
    rests_are (line_of c.args.examined.now.spans.now) 180 c.args.parts.now c.requires.parts

pub append_reduced-requires-clause-range : goal.append_reduced-requires-clause-range
append_reduced-requires-clause-range c =
    let ends : c.rest_until-last.result.past ≡ c.number.result = c.rest_until-last.ensures.ends in
    let since : c.number.result ≡ c.args.breach.now.since = c.number.ensures.value in
    let moment : c.number-2.result ≡ c.args.breach.now.moment = c.number-2.ensures.value in
    let a : c.args.breach.now.since ≡ c.requires.breach.weekly.past = c.requires.breach.since in
    let b : c.requires.breach.weekly.past < c.requires.breach.day.rest.start = c.requires.breach.before in
    let d : c.args.breach.now.moment ≡ c.requires.breach.day.rest.start = c.requires.breach.moment in
    omega (arith, ends, since, moment, a, b, d)

pub returns : goal.returns
returns c =
    let line : Line = line_of c.args.examined.now.spans.now in
    let (runs, are) = examined_runs c.args.examined.now.spans.now c.args.examined.now.base c.args.examined.now.past
    c.requires.examined in
    let last : Run = c.rest_until-last.result in
    let (reduced, exactly, is) = c.in_ok-append_reduced.ensures line c.requires.days c.requires.parts in
    let exactly' : AreExactly (IsReducedSince line last c.args.breach.now.moment) EarlierDay reduced =
    subst (λ (moment : ℕ). AreExactly (IsReducedSince line last moment) EarlierDay reduced)
    c.number-2.ensures.value exactly in
    reduced_lines_are line runs are c.args.breach.now c.append_reduced.new.lines.items c.requires.breach last
    ((c.requires.weekly.each last).0 c.rest_until-last.ensures.among).rests
    (c.rest_until-last.ensures.ends ∙ c.number.ensures.value) reduced exactly'
    (rw (c.in_ok-push.ensures.items, c.new-lines.ensures.items) at is)

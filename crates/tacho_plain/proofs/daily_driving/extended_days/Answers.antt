use Rattle.std.proofs.Common.{◌≡◌, ◌<◌, ℕ, List, take, arith, subst}
use Rattle.std.proofs.lemmas.List.{take_all}
use Rattle.tacho_law.specs.declared.days.DutyDay.{DutyDay}
use Rattle.tacho_law.specs.Line.{line_of, Line}
use Rattle.tacho_law.specs.Days.{EarlierDay}
use Rattle.tacho_law.specs.Driving.{driving}
use Rattle.tacho_periods.proofs.KeptLemmas.{AreKept, kept_none, kept_add_at, kept_skip_at}
use Rattle.tacho_plain.proofs.DayFoundLemmas.{no_day}
use Rattle.tacho_plain.proofs.daily_driving.extended_days.Goals as goal
use Rattle.tacho_plain.proofs.daily_driving.extended_days.Goals.{
  then-driving_minutes-gt-DRIVING_IN_DAY+in_ok-push,
  else-driving_minutes-gt-DRIVING_IN_DAY,
}

pub loop-day-init : goal.loop-day-init
loop-day-init c =
    rw c.new-extended.ensures.items
    (kept_none DutyDay EarlierDay (λ day. 540 < driving (line_of c.args.examined.now.spans.now) day.start day.past))

pub loop-day-preserved : goal.loop-day-preserved
loop-day-preserved c =
    let line : Line = line_of c.args.examined.now.spans.now in
    let xs : List DutyDay = c.args.days.now in
    let i : ℕ = c.loop-day.day-index in
    let P : DutyDay → Type 0 = λ day. 540 < driving line day.start day.past in
    elim c.if-driving_minutes-gt-DRIVING_IN_DAY.branch [
      | then-driving_minutes-gt-DRIVING_IN_DAY+in_ok-push w ↦
          rw (w.extended-is, w.in_ok-push.ensures.items)
          (kept_add_at DutyDay EarlierDay P xs i no_day c.loop-day-test.true
          c.requires.are.in_order c.loop-day.extended.items c.loop-day.invariant (omega arith))
      | else-driving_minutes-gt-DRIVING_IN_DAY w ↦
          rw w.extended-is
          (kept_skip_at DutyDay EarlierDay P xs i no_day c.loop-day-test.true c.requires.are.in_order
          c.loop-day.extended.items c.loop-day.invariant (λ h. omega arith))
    ]

pub returns : goal.returns
returns c =
    let line : Line = line_of c.args.examined.now.spans.now in
    let xs : List DutyDay = c.args.days.now in
    let P : DutyDay → Type 0 = λ day. 540 < driving line day.start day.past in
    let e : take c.loop-day.day-index xs ≡ xs = take_all c.loop-day.day-index xs c.loop-day-test.false in
    let kept : AreKept DutyDay EarlierDay P xs c.loop-day.extended.items =
    subst (λ (seen : List DutyDay). AreKept DutyDay EarlierDay P seen c.loop-day.extended.items)
    e c.loop-day.invariant in
    record {
      each = λ day. (
        λ h. record { duty = (c.requires.are.each day).0 ((kept.each day).0 h).0; over = ((kept.each day).0 h).1 },
        λ h. (kept.each day).1 ((c.requires.are.each day).1 h.duty, h.over),
      );
      in_order = kept.in_order;
    }

use Rattle.std.proofs.Common.{◌≡◌, ℕ, ◌≤◌, ◌<◌, ◌+◌, ◌*◌, List, arith}
use Rattle.tacho_law.specs.declared.days.DutyDay.{DutyDay}
use Rattle.tacho_law.specs.Line.{line_of}
use Rattle.tacho_law.specs.Weeks.{IsInWeek, week_start}
use Rattle.tacho_ahead.proofs.TodayLemmas.{days_in_time, extended_counted}
use Rattle.tacho_ahead.proofs.UsedLemmas.{counted_none, counted_add, counted_skip, counted_all, place_in_range}
use Rattle.tacho_ahead.proofs.used.extended_before.Goals as goal
use Rattle.tacho_ahead.proofs.used.extended_before.Goals.{then-is_extended_within, else-is_extended_within}

pub loop-day-init : goal.loop-day-init
loop-day-init c = record { few = omega arith; seen = counted_none _ c.args.days.now }

pub overflow_add-count : goal.overflow_add-count
overflow_add-count c =
    let l : c.loop-day.day-index < 68374080 =
    place_in_range c.args.days.now
    (days_in_time c.args.examined.now.spans.now c.args.examined.now.base c.args.examined.now.past c.requires.examined
    c.args.days.now c.requires.days)
    c.loop-day.day-index c.loop-day-test.true in
    let few : c.loop-day.count ≤ c.loop-day.day-index = c.loop-day.invariant.few in
    omega arith

pub loop-day-preserved : goal.loop-day-preserved
loop-day-preserved c =
    let days : List DutyDay = c.args.days.now in
    let i : ℕ = c.loop-day.day-index in
    let few : c.loop-day.count ≤ i = c.loop-day.invariant.few in
    let today : c.number.result ≡ c.args.today = c.number.ensures.value in
    let test = rw today at c.is_extended_within.ensures in
    elim c.if-is_extended_within.branch [
      | then-is_extended_within w ↦ record {
        few = rw w.count-is (omega arith);
        seen =
            rw w.count-is
            (counted_add _ days i c.loop-day.count c.loop-day-test.true c.requires.days.in_order c.loop-day.invariant.seen
            (test.0 w.if-is_extended_within.true));
      }
      | else-is_extended_within w ↦ record {
        few = rw w.count-is (omega arith);
        seen =
            rw w.count-is
            (counted_skip _ days i c.loop-day.count c.loop-day-test.true c.requires.days.in_order c.loop-day.invariant.seen
            (λ h. let t = test.1 h in let f = w.if-is_extended_within.false in cc));
      }
    ]

pub returns : goal.returns
returns c =
    let week : ℕ = c.week_of.result in
    let value : c.number-start.result ≡ c.first_minute.result = c.number-start.ensures.value in
    let first : c.first_minute.result ≡ 5760 + 10080 * week = c.first_minute.ensures in
    let start : c.number-start.result ≡ week_start week = omega arith in
    let here : IsInWeek week c.args.today = (c.week_of.ensures.from, c.week_of.ensures.before) in (
      week,
      here,
      extended_counted (line_of c.args.examined.now.spans.now) c.args.days.now week c.args.today c.loop-day.count c.requires.days here
          (rw start at (counted_all _ c.args.days.now c.loop-day.day-index c.loop-day.count c.loop-day-test.false c.loop-day.invariant.seen)),
    )

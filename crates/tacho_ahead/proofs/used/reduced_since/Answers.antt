use Rattle.std.proofs.Common.{ℕ, ◌≤◌, ◌<◌, List, get_or, arith}
use Rattle.tacho_law.specs.declared.days.DutyDay.{DutyDay}
use Rattle.tacho_periods.proofs.DaysLemmas.{no_day}
use Rattle.tacho_ahead.proofs.UsedLemmas.{ReducedSince, counted_none, counted_add, counted_skip, counted_all, place_in_range, reduced_counted}
use Rattle.tacho_ahead.proofs.used.reduced_since.Goals as goal
use Rattle.tacho_ahead.proofs.used.reduced_since.Goals.{
  then-weekly-day+then-is_reduced,
  else-weekly-day,
  else-weekly-day-via-then-weekly-day+else-is_reduced,
  else-weekly-day-via-else-weekly-day,
}

pub loop-day-init : goal.loop-day-init
loop-day-init c = record {
  few = omega arith;
  seen = counted_none (ReducedSince c.args.parts.now c.args.weekly) c.args.days.now;
}

pub overflow_add-count : goal.overflow_add-count
overflow_add-count c =
    let l : c.loop-day.day-index < 68374080 =
    place_in_range c.args.days.now c.requires.days c.loop-day.day-index c.loop-day-test.true in
    let few : c.loop-day.count ≤ c.loop-day.day-index = c.loop-day.invariant.few in
    omega arith

pub loop-day-preserved : goal.loop-day-preserved
loop-day-preserved c =
    let P : DutyDay → Type 0 = ReducedSince c.args.parts.now c.args.weekly in
    let days : List DutyDay = c.args.days.now in
    let i : ℕ = c.loop-day.day-index in
    let few : c.loop-day.count ≤ i = c.loop-day.invariant.few in
    elim c.if-weekly-day.branch [
      | then-weekly-day+then-is_reduced w ↦ record {
        few = rw w.count-is (omega arith);
        seen =
            rw w.count-is
            (counted_add P days i c.loop-day.count c.loop-day-test.true c.requires.days.in_order c.loop-day.invariant.seen
            (w.if-weekly-day.true, w.is_reduced.ensures.0 w.if-is_reduced.true));
      }
      | else-weekly-day w ↦ record {
        few = rw w.count-is (omega arith);
        seen =
            rw w.count-is
            (counted_skip P days i c.loop-day.count c.loop-day-test.true c.requires.days.in_order c.loop-day.invariant.seen
            (elim w.else-weekly-day.branch [
              | else-weekly-day-via-then-weekly-day+else-is_reduced w' ↦
                  λ h. (let t = w'.is_reduced.ensures.1 h.1 in let f = w'.if-is_reduced.false in cc)
              | else-weekly-day-via-else-weekly-day w' ↦
                  λ h. (let t : c.args.weekly.start ≤ (get_or days i no_day).rest.past = h.0 in
                  let f = w'.if-weekly-day.false in
                  omega arith)
            ]));
      }
    ]

pub returns : goal.returns
returns c line are rests =
    reduced_counted line c.args.days.now c.args.parts.now c.args.weekly c.loop-day.count are rests
    (counted_all (ReducedSince c.args.parts.now c.args.weekly) c.args.days.now c.loop-day.day-index c.loop-day.count
    c.loop-day-test.false c.loop-day.invariant.seen)

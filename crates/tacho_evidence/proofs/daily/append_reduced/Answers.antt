use Rattle.std.proofs.Common.{ℕ, ◌≤◌, ◌<◌, ◌+◌, List, get_or, refl, arith}
use Rattle.std.specs.List.{AllPairs}
use Rattle.tacho_law.specs.declared.days.DutyDay.{DutyDay}
use Rattle.tacho_law.specs.Days.{EarlierDay, HasReducedRest}
use Rattle.tacho_evidence.specs.declared.line.EvidenceLine.{EvidenceLine}
use Rattle.tacho_evidence.specs.declared.line.EvidenceLine.TheVariants.{Reduced}
use Rattle.tacho_evidence.specs.DaysInTime.{IsInTime}
use Rattle.tacho_evidence.specs.Evidence.{reduced_lines}
use Rattle.tacho_evidence.proofs.AppendedLemmas.{appended_none, appended_add, appended_skip, appended_all}
use Rattle.tacho_evidence.proofs.AppendedLemmas.{reduced_more, reduced_appended}
use Rattle.tacho_evidence.proofs.DaysInTimeLemmas.{no_day, place_below}
use Rattle.tacho_evidence.proofs.daily.append_reduced.Goals as goal
use Rattle.tacho_evidence.proofs.daily.append_reduced.Goals.{then-is_reduced+in_ok-push, else-is_reduced}

pub loop-day-init : goal.loop-day-init
loop-day-init c = record {
  few = omega arith;
  seen = appended_none EarlierDay (HasReducedRest c.args.parts.now) (reduced_lines 1) c.args.lines.now.items refl;
}

pub is_reduced-requires-clause-started : goal.is_reduced-requires-clause-started
is_reduced-requires-clause-started c =
    let xs : List DutyDay = c.ended_within-day-items.result.now in
    let i : ℕ = c.loop-day.day-index in
    let t : IsInTime (get_or xs i no_day) = c.ended_within-day-items.ensures.in_time.each i no_day c.loop-day-test.true in
    let a : (get_or xs i no_day).start < (get_or xs i no_day).past = t.some in
    let b : (get_or xs i no_day).past ≤ 68374080 = t.ended in
    omega arith

pub is_reduced-requires-clause-ended : goal.is_reduced-requires-clause-ended
is_reduced-requires-clause-ended c =
    let xs : List DutyDay = c.ended_within-day-items.result.now in
    let i : ℕ = c.loop-day.day-index in
    let t : IsInTime (get_or xs i no_day) = c.ended_within-day-items.ensures.in_time.each i no_day c.loop-day-test.true in
    let b : (get_or xs i no_day).past ≤ 68374080 = t.ended in
    omega arith

pub is_reduced-requires-clause-rests : goal.is_reduced-requires-clause-rests
is_reduced-requires-clause-rests c =
    (c.ended_within-day-items.ensures.in_time.each c.loop-day.day-index no_day c.loop-day-test.true).rested

pub overflow_add-ordinal : goal.overflow_add-ordinal
overflow_add-ordinal c =
    let xs : List DutyDay = c.ended_within-day-items.result.now in
    let i : ℕ = c.loop-day.day-index in
    let t : IsInTime (get_or xs i no_day) = c.ended_within-day-items.ensures.in_time.each i no_day c.loop-day-test.true in
    let few : c.loop-day.ordinal ≤ i = c.loop-day.invariant.few in
    let low : i ≤ (get_or xs i no_day).start =
    place_below xs c.ended_within-day-items.ensures.in_time i c.loop-day-test.true in
    let a : (get_or xs i no_day).start < (get_or xs i no_day).past = t.some in
    let b : (get_or xs i no_day).past ≤ 68374080 = t.ended in
    omega arith

pub loop-day-preserved : goal.loop-day-preserved
loop-day-preserved c =
    let xs : List DutyDay = c.ended_within-day-items.result.now in
    let i : ℕ = c.loop-day.day-index in
    let P : DutyDay → Type 0 = HasReducedRest c.args.parts.now in
    let day : DutyDay = get_or xs i no_day in
    let order : AllPairs EarlierDay xs = c.ended_within-day-items.ensures.in_time.in_order in
    let before : List EvidenceLine = c.args.lines.now.items in
    let lines : List EvidenceLine = c.loop-day.lines.items in
    elim c.if-is_reduced.branch [
      | then-is_reduced+in_ok-push w ↦ record {
        few = let e : c.loop-day.ordinal ≤ i = c.loop-day.invariant.few in rw w.ordinal-is (omega arith);
        seen =
            rw (w.lines-is, w.ordinal-is, w.in_ok-push.ensures.items)
            (appended_add EarlierDay P (reduced_lines 1) before xs i no_day c.loop-day-test.true order lines
            c.loop-day.ordinal c.loop-day.invariant.seen (Reduced (c.loop-day.ordinal + 1) day.rest day.start)
            (λ ys e. reduced_more day 1 (c.loop-day.ordinal + 1) ys (omega arith))
            (c.is_reduced.ensures.0 w.if-is_reduced.true));
      }
      | else-is_reduced w ↦ record {
        few = let e : c.loop-day.ordinal ≤ i = c.loop-day.invariant.few in rw w.ordinal-is (omega arith);
        seen =
            rw (w.lines-is, w.ordinal-is)
            (appended_skip EarlierDay P (reduced_lines 1) before xs i no_day c.loop-day-test.true order lines
            c.loop-day.ordinal c.loop-day.invariant.seen
            (λ h. let t = c.is_reduced.ensures.1 h in let f = w.if-is_reduced.false in cc));
      }
    ]

pub returns : goal.returns
returns c = λ line are rests.
    let near : List DutyDay = c.ended_within-day-items.result.now in
    reduced_appended line c.args.days.now near c.args.parts.now c.args.weekly c.args.moment c.args.lines.now.items
    c.loop-day.lines.items c.loop-day.ordinal are rests c.ended_within-day-items.ensures.each
    (appended_all EarlierDay (HasReducedRest c.args.parts.now) (reduced_lines 1) c.args.lines.now.items near
    c.loop-day.day-index c.loop-day.lines.items c.loop-day.ordinal c.loop-day-test.false c.loop-day.invariant.seen)

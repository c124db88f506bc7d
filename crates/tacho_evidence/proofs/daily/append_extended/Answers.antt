use Rattle.std.proofs.Common.{ℕ, ◌∙◌, ◌≤◌, ◌<◌, ◌≡◌, ◌+◌, List, get_or, refl, arith}
use Rattle.std.specs.List.{AllPairs}
use Rattle.tacho_law.specs.declared.days.DutyDay.{DutyDay}
use Rattle.tacho_law.specs.Days.{EarlierDay}
use Rattle.tacho_law.specs.Driving.{driving}
use Rattle.tacho_law.specs.Line.{Line, line_of}
use Rattle.tacho_law.specs.Weeks.{week_start}
use Rattle.tacho_evidence.specs.declared.line.EvidenceLine.{EvidenceLine}
use Rattle.tacho_evidence.specs.declared.line.EvidenceLine.TheVariants.{Extended}
use Rattle.tacho_evidence.specs.DaysInTime.{AreInTime, IsInTime}
use Rattle.tacho_evidence.specs.Evidence.{extended_lines}
use Rattle.tacho_evidence.proofs.AppendedLemmas.{HasLongDriving, appended_none, appended_add, appended_skip, appended_all}
use Rattle.tacho_evidence.proofs.AppendedLemmas.{extended_more, extended_appended}
use Rattle.tacho_evidence.proofs.DaysInTimeLemmas.{no_day, place_below, days_in_time}
use Rattle.tacho_evidence.proofs.daily.append_extended.Goals as goal
use Rattle.tacho_evidence.proofs.daily.append_extended.Goals.{then-drive-gt-DRIVING_IN_DAY+in_ok-push, else-drive-gt-DRIVING_IN_DAY}

pub begun_within-day-items-requires-clause-days : goal.begun_within-day-items-requires-clause-days
begun_within-day-items-requires-clause-days c =
    days_in_time c.args.examined.now.spans.now c.args.examined.now.base c.args.examined.now.past c.requires.examined
    c.args.days.now c.requires.days

pub loop-day-init : goal.loop-day-init
loop-day-init c = let line : Line = line_of c.args.examined.now.spans.now in record {
  few = omega arith;
  seen = appended_none EarlierDay (HasLongDriving line) (extended_lines line 1) c.args.lines.now.items refl;
}

pub overflow_add-ordinal : goal.overflow_add-ordinal
overflow_add-ordinal c =
    let xs : List DutyDay = c.begun_within-day-items.result.now in
    let i : ℕ = c.loop-day.day-index in
    let are : AreInTime xs = c.begun_within-day-items.ensures.in_time in
    let few : c.loop-day.ordinal ≤ i = c.loop-day.invariant.few in
    let low : i ≤ (get_or xs i no_day).start = place_below xs are i c.loop-day-test.true in
    let t : IsInTime (get_or xs i no_day) = are.each i no_day c.loop-day-test.true in
    let a : (get_or xs i no_day).start < (get_or xs i no_day).past = t.some in
    let b : (get_or xs i no_day).past ≤ 68374080 = t.ended in
    omega arith

pub loop-day-preserved : goal.loop-day-preserved
loop-day-preserved c =
    let xs : List DutyDay = c.begun_within-day-items.result.now in
    let i : ℕ = c.loop-day.day-index in
    let line : Line = line_of c.args.examined.now.spans.now in
    let P : DutyDay → Type 0 = HasLongDriving line in
    let day : DutyDay = get_or xs i no_day in
    let order : AllPairs EarlierDay xs = c.begun_within-day-items.ensures.in_time.in_order in
    let before : List EvidenceLine = c.args.lines.now.items in
    let lines : List EvidenceLine = c.loop-day.lines.items in
    let drive : c.driving_minutes-drive.result ≡ driving line day.start day.past = c.driving_minutes-drive.ensures in
    elim c.if-drive-gt-DRIVING_IN_DAY.branch [
      | then-drive-gt-DRIVING_IN_DAY+in_ok-push w ↦ record {
        few = let e : c.loop-day.ordinal ≤ i = c.loop-day.invariant.few in rw w.ordinal-is (omega arith);
        seen =
            rw (w.lines-is, w.ordinal-is, w.in_ok-push.ensures.items, drive)
            (appended_add EarlierDay P (extended_lines line 1) before xs i no_day c.loop-day-test.true order lines
            c.loop-day.ordinal c.loop-day.invariant.seen
            (Extended (c.loop-day.ordinal + 1) day.start day.past (driving line day.start day.past))
            (λ ys e. extended_more line day 1 (c.loop-day.ordinal + 1) ys (omega arith))
            (let over : 540 < c.driving_minutes-drive.result = w.if-drive-gt-DRIVING_IN_DAY.true in
            omega (arith, over, drive)));
      }
      | else-drive-gt-DRIVING_IN_DAY w ↦ record {
        few = let e : c.loop-day.ordinal ≤ i = c.loop-day.invariant.few in rw w.ordinal-is (omega arith);
        seen =
            rw (w.lines-is, w.ordinal-is)
            (appended_skip EarlierDay P (extended_lines line 1) before xs i no_day c.loop-day-test.true order lines
            c.loop-day.ordinal c.loop-day.invariant.seen
            (λ h. (let under : c.driving_minutes-drive.result ≤ 540 = w.if-drive-gt-DRIVING_IN_DAY.false in
            let over : 540 < driving line day.start day.past = h in
            omega (arith, under, over, drive))));
      }
    ]

pub returns : goal.returns
returns c =
    let line : Line = line_of c.args.examined.now.spans.now in
    let near : List DutyDay = c.begun_within-day-items.result.now in
    let from : c.number-start.result ≡ week_start c.args.week = c.number-start.ensures.value ∙ c.first_minute.ensures in
    extended_appended line c.args.days.now near c.args.week c.args.since c.args.lines.now.items
    c.loop-day.lines.items c.loop-day.ordinal c.requires.days c.requires.week
    (rw from at c.begun_within-day-items.ensures.each)
    (appended_all EarlierDay (HasLongDriving line) (extended_lines line 1) c.args.lines.now.items near
    c.loop-day.day-index c.loop-day.lines.items c.loop-day.ordinal c.loop-day-test.false c.loop-day.invariant.seen)

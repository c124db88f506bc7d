use Rattle.std.proofs.Common.{rules, ◌≡◌, ◌<◌, ◌≤◌, true, false, arith}
use Rattle.std.proofs.Math.Dec.{leb}
use Rattle.std.specs.List.{AllPairs}
use Rattle.std.specs.List.Sorted.{IsPartitionPoint}
use Rattle.std.proofs.lemmas.Bool.{le-leb, lt-leb, leb-true, leb-false}
use Rattle.std.proofs.lemmas.List.Sorted.{IsPartitionPoint-from_clause, IsPartitionedBy-leb}
use Rattle.tacho_law.specs.declared.days.DutyDay.{DutyDay}
use Rattle.tacho_law.specs.Days.{EarlierDay}
use Rattle.tacho_evidence.proofs.DaysInTimeLemmas.{no_day, rise}
use Rattle.tacho_evidence.proofs.NearLemmas.{ends_rise, in_range, part_each, part_in_order, days_near_in_time}
use Rattle.tacho_evidence.proofs.daily.ended_within.Goals as goal

-- the first days end before the range
early : (c : goal.After-partition_point-past)
    → IsPartitionPoint (λ (day : DutyDay). leb day.past c.args.since ≡ true) (λ (day : DutyDay). leb day.past c.args.since ≡ false)
    c.args.days.now c.partition_point-first.result
early c =
    let up : AllPairs (λ (a b : DutyDay). a.past < b.past) c.args.days.now = ends_rise c.args.days.now c.requires.days in
    IsPartitionPoint-from_clause (λ (day : DutyDay). leb day.past c.args.since) c.args.days.now c.partition_point-first.result
    c.partition_point-first.ensures.partitioned
    (IsPartitionedBy-leb (λ (day : DutyDay). day.past) c.args.days.now c.args.since
    (λ i j d le lt. rise (λ (day : DutyDay). day.past) c.args.days.now up i j d le lt))
    (λ a b f' called. search rules)

-- the last ones end after it
late : (c : goal.After-partition_point-past)
    → IsPartitionPoint (λ (day : DutyDay). leb day.past c.args.moment ≡ true) (λ (day : DutyDay). leb day.past c.args.moment ≡ false)
    c.args.days.now c.partition_point-past.result
late c =
    let up : AllPairs (λ (a b : DutyDay). a.past < b.past) c.args.days.now = ends_rise c.args.days.now c.requires.days in
    IsPartitionPoint-from_clause (λ (day : DutyDay). leb day.past c.args.moment) c.args.days.now c.partition_point-past.result
    c.partition_point-past.ensures.partitioned
    (IsPartitionedBy-leb (λ (day : DutyDay). day.past) c.args.days.now c.args.moment
    (λ i j d le lt. rise (λ (day : DutyDay). day.past) c.args.days.now up i j d le lt))
    (λ a b f' called. search rules)

-- what ends before the range ends before its end
nested : (c : goal.After-partition_point-past) (day : DutyDay) → leb day.past c.args.since ≡ true → leb day.past c.args.moment ≡ true
nested c day h =
    let l : day.past ≤ c.args.since = leb-true day.past c.args.since h in
    let range : c.args.since ≤ c.args.moment = c.requires.range in
    le-leb day.past c.args.moment (omega (arith, l, range))

pub slice_bounds-result-count : goal.slice_bounds-result-count
slice_bounds-result-count c =
    in_range c.args.days.now (λ (day : DutyDay). leb day.past c.args.since) (λ (day : DutyDay). leb day.past c.args.moment)
    c.partition_point-first.result c.partition_point-past.result no_day (early c) (late c) c.partition_point-first.ensures.bound
    c.partition_point-past.ensures.bound (nested c)

pub slice_bounds-result-start : goal.slice_bounds-result-start
slice_bounds-result-start c =
    in_range c.args.days.now (λ (day : DutyDay). leb day.past c.args.since) (λ (day : DutyDay). leb day.past c.args.moment)
    c.partition_point-first.result c.partition_point-past.result no_day (early c) (late c) c.partition_point-first.ensures.bound
    c.partition_point-past.ensures.bound (nested c)

pub returns-clause-each : goal.returns-clause-each
returns-clause-each c day =
    let part = part_each c.args.days.now (λ (day : DutyDay). leb day.past c.args.since) (λ (day : DutyDay). leb day.past c.args.moment)
    c.partition_point-first.result c.partition_point-past.result no_day (early c.before) (late c.before) c.partition_point-first.ensures.bound
    c.partition_point-past.ensures.bound (nested c.before) day in (
      λ h. let (among, from, to) = part.0 h in
          (among, leb-false day.past c.args.since from, leb-true day.past c.args.moment to),
      λ h. part.1 (h.0, lt-leb day.past c.args.since h.1, le-leb day.past c.args.moment h.2),
    )

pub returns-clause-in_time : goal.returns-clause-in_time
returns-clause-in_time c =
    days_near_in_time c.args.days.now _ c.requires.days
    (λ day h. ((part_each c.args.days.now (λ (day : DutyDay). leb day.past c.args.since) (λ (day : DutyDay). leb day.past c.args.moment)
    c.partition_point-first.result c.partition_point-past.result no_day (early c.before) (late c.before) c.partition_point-first.ensures.bound
    c.partition_point-past.ensures.bound (nested c.before) day).0 h).0)
    (part_in_order c.args.days.now (λ (day : DutyDay). leb day.past c.args.since) (λ (day : DutyDay). leb day.past c.args.moment)
    c.partition_point-first.result c.partition_point-past.result no_day (early c.before) (late c.before) c.partition_point-first.ensures.bound
    c.partition_point-past.ensures.bound (nested c.before)
    EarlierDay c.requires.days.in_order)

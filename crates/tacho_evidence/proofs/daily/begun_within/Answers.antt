use Rattle.std.proofs.Common.{rules, ◌≡◌, ◌<◌, ◌≤◌, true, false, arith}
use Rattle.std.proofs.Math.Dec.{leb, ltb}
use Rattle.std.specs.List.{AllPairs}
use Rattle.std.specs.List.Sorted.{IsPartitionPoint}
use Rattle.std.proofs.lemmas.Bool.{le-leb, le-ltb, leb-true, ltb-true, ltb-false}
use Rattle.std.proofs.lemmas.List.Sorted.{IsPartitionPoint-from_clause, IsPartitionedBy-leb, IsPartitionedBy-ltb}
use Rattle.tacho_law.specs.declared.days.DutyDay.{DutyDay}
use Rattle.tacho_law.specs.Days.{EarlierDay}
use Rattle.tacho_evidence.proofs.DaysInTimeLemmas.{no_day, rise, starts_rise}
use Rattle.tacho_evidence.proofs.NearLemmas.{in_range, part_each, part_in_order, days_near_in_time}
use Rattle.tacho_evidence.proofs.daily.begun_within.Goals as goal

-- the first days start before the range
early : (c : goal.After-partition_point-past)
    → IsPartitionPoint (λ (day : DutyDay). ltb day.start c.args.from ≡ true) (λ (day : DutyDay). ltb day.start c.args.from ≡ false)
    c.args.days.now c.partition_point-first.result
early c =
    let up : AllPairs (λ (a b : DutyDay). a.start < b.start) c.args.days.now = starts_rise c.args.days.now c.requires.days in
    IsPartitionPoint-from_clause (λ (day : DutyDay). ltb day.start c.args.from) c.args.days.now c.partition_point-first.result
    c.partition_point-first.ensures.partitioned
    (IsPartitionedBy-ltb (λ (day : DutyDay). day.start) c.args.days.now c.args.from
    (λ i j d le lt. rise (λ (day : DutyDay). day.start) c.args.days.now up i j d le lt))
    (λ a b f' called. search rules)

-- the last ones start after it
late : (c : goal.After-partition_point-past)
    → IsPartitionPoint (λ (day : DutyDay). leb day.start c.args.to ≡ true) (λ (day : DutyDay). leb day.start c.args.to ≡ false)
    c.args.days.now c.partition_point-past.result
late c =
    let up : AllPairs (λ (a b : DutyDay). a.start < b.start) c.args.days.now = starts_rise c.args.days.now c.requires.days in
    IsPartitionPoint-from_clause (λ (day : DutyDay). leb day.start c.args.to) c.args.days.now c.partition_point-past.result
    c.partition_point-past.ensures.partitioned
    (IsPartitionedBy-leb (λ (day : DutyDay). day.start) c.args.days.now c.args.to
    (λ i j d le lt. rise (λ (day : DutyDay). day.start) c.args.days.now up i j d le lt))
    (λ a b f' called. search rules)

-- what starts before the range starts before its end
nested : (c : goal.After-partition_point-past) (day : DutyDay) → ltb day.start c.args.from ≡ true → leb day.start c.args.to ≡ true
nested c day h =
    let l : day.start < c.args.from = ltb-true day.start c.args.from h in
    let range : c.args.from ≤ c.args.to = c.requires.range in
    le-leb day.start c.args.to (omega (arith, l, range))

pub slice_bounds-result-count : goal.slice_bounds-result-count
slice_bounds-result-count c =
    in_range c.args.days.now (λ (day : DutyDay). ltb day.start c.args.from) (λ (day : DutyDay). leb day.start c.args.to)
    c.partition_point-first.result c.partition_point-past.result no_day (early c) (late c) c.partition_point-first.ensures.bound
    c.partition_point-past.ensures.bound (nested c)

pub slice_bounds-result-start : goal.slice_bounds-result-start
slice_bounds-result-start c =
    in_range c.args.days.now (λ (day : DutyDay). ltb day.start c.args.from) (λ (day : DutyDay). leb day.start c.args.to)
    c.partition_point-first.result c.partition_point-past.result no_day (early c) (late c) c.partition_point-first.ensures.bound
    c.partition_point-past.ensures.bound (nested c)

pub returns-clause-each : goal.returns-clause-each
returns-clause-each c day =
    let part = part_each c.args.days.now (λ (day : DutyDay). ltb day.start c.args.from) (λ (day : DutyDay). leb day.start c.args.to)
    c.partition_point-first.result c.partition_point-past.result no_day (early c.before) (late c.before) c.partition_point-first.ensures.bound
    c.partition_point-past.ensures.bound (nested c.before) day in (
      λ h. let (among, from, to) = part.0 h in
          (among, ltb-false day.start c.args.from from, leb-true day.start c.args.to to),
      λ h. part.1 (h.0, le-ltb day.start c.args.from h.1, le-leb day.start c.args.to h.2),
    )

pub returns-clause-in_time : goal.returns-clause-in_time
returns-clause-in_time c =
    days_near_in_time c.args.days.now _ c.requires.days
    (λ day h. ((part_each c.args.days.now (λ (day : DutyDay). ltb day.start c.args.from) (λ (day : DutyDay). leb day.start c.args.to)
    c.partition_point-first.result c.partition_point-past.result no_day (early c.before) (late c.before) c.partition_point-first.ensures.bound
    c.partition_point-past.ensures.bound (nested c.before) day).0 h).0)
    (part_in_order c.args.days.now (λ (day : DutyDay). ltb day.start c.args.from) (λ (day : DutyDay). leb day.start c.args.to)
    c.partition_point-first.result c.partition_point-past.result no_day (early c.before) (late c.before) c.partition_point-first.ensures.bound
    c.partition_point-past.ensures.bound (nested c.before)
    EarlierDay c.requires.days.in_order)

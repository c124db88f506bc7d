use Rattle.std.proofs.Common.{rules, List}
use Rattle.std.proofs.Math.Dec.{leb, ltb}
use Rattle.std.proofs.lemmas.List.Sorted.{IsPartitionPoint-from_clause, IsPartitionedBy-leb, IsPartitionedBy-ltb}
use Rattle.tacho_law.specs.declared.run.Run.{Run}
use Rattle.tacho_periods.proofs.DaysLemmas.{starts_rise, pasts_rise, HaveEnded}
use Rattle.tacho_periods.proofs.TouchingLemmas.{HaveStarted, in_range, part_each}
use Rattle.tacho_periods.proofs.main_rests.touching.Goals as goal

-- the partition points that were found
ended : (c : goal.After-partition_point-past) → HaveEnded c.args.rests.now c.args.from c.partition_point-first.result
ended c =
    IsPartitionPoint-from_clause (λ (s : Run). leb s.past c.args.from) c.args.rests.now c.partition_point-first.result
    c.partition_point-first.ensures.partitioned
    (IsPartitionedBy-leb (λ (s : Run). s.past) c.args.rests.now c.args.from (λ i j d le lt.
    pasts_rise c.args.rests.now c.requires.in_time.some c.requires.in_time.in_order i j d le lt))
    (λ a b f' called. search rules)

started : (c : goal.After-partition_point-past) → HaveStarted c.args.rests.now c.args.to c.partition_point-past.result
started c =
    IsPartitionPoint-from_clause (λ (s : Run). ltb s.start c.args.to) c.args.rests.now c.partition_point-past.result
    c.partition_point-past.ensures.partitioned
    (IsPartitionedBy-ltb (λ (s : Run). s.start) c.args.rests.now c.args.to (λ i j d le lt.
    starts_rise c.args.rests.now c.requires.in_time.some c.requires.in_time.in_order i j d le lt))
    (λ a b f' called. search rules)

pub slice_bounds-result-count : goal.slice_bounds-result-count
slice_bounds-result-count c =
    in_range c.args.rests.now c.requires.in_time c.args.from c.args.to c.partition_point-first.result
    c.partition_point-past.result c.requires.range (ended c) (started c)
    c.partition_point-first.ensures.bound c.partition_point-past.ensures.bound

pub slice_bounds-result-start : goal.slice_bounds-result-start
slice_bounds-result-start c =
    in_range c.args.rests.now c.requires.in_time c.args.from c.args.to c.partition_point-first.result
    c.partition_point-past.result c.requires.range (ended c) (started c)
    c.partition_point-first.ensures.bound c.partition_point-past.ensures.bound

pub returns-clause-each : goal.returns-clause-each
returns-clause-each c run =
    let rests : List Run = c.args.rests.now in
    let ended' =
    IsPartitionPoint-from_clause (λ (s : Run). leb s.past c.args.from) rests c.partition_point-first.result
    c.partition_point-first.ensures.partitioned
    (IsPartitionedBy-leb (λ (s : Run). s.past) rests c.args.from
    (λ i j d le lt. pasts_rise rests c.requires.in_time.some c.requires.in_time.in_order i j d le lt))
    (λ a b f' called. search rules) in
    let started' =
    IsPartitionPoint-from_clause (λ (s : Run). ltb s.start c.args.to) rests c.partition_point-past.result
    c.partition_point-past.ensures.partitioned
    (IsPartitionedBy-ltb (λ (s : Run). s.start) rests c.args.to
    (λ i j d le lt. starts_rise rests c.requires.in_time.some c.requires.in_time.in_order i j d le lt))
    (λ a b f' called. search rules) in
    part_each rests c.requires.in_time c.args.from c.args.to c.partition_point-first.result
    c.partition_point-past.result c.requires.range ended' started'
    c.partition_point-first.ensures.bound c.partition_point-past.ensures.bound run

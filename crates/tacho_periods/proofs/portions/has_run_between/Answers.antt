use Rattle.std.proofs.Common.{rules, ℕ, List}
use Rattle.std.proofs.Math.Dec.{ltb}
use Rattle.std.proofs.lemmas.List.Sorted.{IsPartitionPoint-from_clause, IsPartitionedBy-ltb}
use Rattle.tacho_law.specs.declared.run.Run.{Run}
use Rattle.tacho_periods.proofs.DaysLemmas.{starts_rise, first_between, none_between}
use Rattle.tacho_periods.proofs.portions.has_run_between.Goals as goal

pub returns-then-first-runs : goal.returns-then-first-runs
returns-then-first-runs c =
    let xs : List Run = c.args.runs.now in
    let n : ℕ = c.partition_point-first.result in
    let found =
    IsPartitionPoint-from_clause (λ (s : Run). ltb s.start c.args.from) xs n
    c.partition_point-first.ensures.partitioned
    (IsPartitionedBy-ltb (λ (s : Run). s.start) xs c.args.from
    (λ i j d le lt. starts_rise xs c.requires.some c.requires.in_order i j d le lt))
    (λ a b f' called. search rules) in
    first_between xs c.requires.some c.requires.in_order c.args.from c.args.to n found c.if-first-runs.true

pub returns-else-first-runs : goal.returns-else-first-runs
returns-else-first-runs c =
    let xs : List Run = c.args.runs.now in
    let n : ℕ = c.partition_point-first.result in
    let found =
    IsPartitionPoint-from_clause (λ (s : Run). ltb s.start c.args.from) xs n
    c.partition_point-first.ensures.partitioned
    (IsPartitionedBy-ltb (λ (s : Run). s.start) xs c.args.from
    (λ i j d le lt. starts_rise xs c.requires.some c.requires.in_order i j d le lt))
    (λ a b f' called. search rules) in
    none_between xs c.args.from c.args.to n found c.if-first-runs.false

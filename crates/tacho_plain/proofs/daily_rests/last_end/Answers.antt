use Rattle.std.proofs.Common.{rules, ℕ, List, arith}
use Rattle.std.proofs.Math.Dec.{leb}
use Rattle.std.proofs.lemmas.List.Sorted.{IsPartitionPoint-from_clause, IsPartitionedBy-leb}
use Rattle.tacho_law.specs.declared.run.Run.{Run}
use Rattle.tacho_periods.proofs.DaysLemmas.{pasts_rise}
use Rattle.tacho_plain.proofs.OrdinalLemmas.{end_none, end_some}
use Rattle.tacho_plain.proofs.daily_rests.last_end.Goals as goal

pub returns-then-ended-eq0 : goal.returns-then-ended-eq0
returns-then-ended-eq0 c =
    let xs : List Run = c.args.rests.now in
    let n : ℕ = c.partition_point-ended.result in
    let found =
    IsPartitionPoint-from_clause (λ (s : Run). leb s.past c.args.minute) xs n
    c.partition_point-ended.ensures.partitioned
    (IsPartitionedBy-leb (λ (s : Run). s.past) xs c.args.minute
    (λ i j d le lt. pasts_rise xs c.requires.some c.requires.in_order i j d le lt))
    (λ a b f' called. search rules) in
    end_none xs c.args.minute n found c.if-ended-eq0.true

pub returns : goal.returns
returns c =
    let xs : List Run = c.args.rests.now in
    let n : ℕ = c.partition_point-ended.result in
    let found =
    IsPartitionPoint-from_clause (λ (s : Run). leb s.past c.args.minute) xs n
    c.partition_point-ended.ensures.partitioned
    (IsPartitionedBy-leb (λ (s : Run). s.past) xs c.args.minute
    (λ i j d le lt. pasts_rise xs c.requires.some c.requires.in_order i j d le lt))
    (λ a b f' called. search rules) in
    end_some xs c.args.minute n c.requires.some c.requires.in_order
    found c.partition_point-ended.ensures.bound (omega arith)

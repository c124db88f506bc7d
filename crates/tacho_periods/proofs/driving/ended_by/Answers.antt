use Rattle.std.proofs.Common.{rules, ◌≡◌, ◌≤◌, ℕ, List, length, take, get_or, arith, true}
use Rattle.std.proofs.Math.Dec.{leb}
use Rattle.std.proofs.lemmas.Bool.{leb-true}
use Rattle.std.proofs.lemmas.List.{get_or-take, length-take-le}
use Rattle.std.proofs.lemmas.List.Sorted.{IsPartitionPoint-from_clause, IsPartitionedBy-leb}
use Rattle.tacho_time.specs.declared.span.Span.{Span}
use Rattle.tacho_periods.proofs.DrivingLemmas.{ends_rise}
use Rattle.tacho_periods.proofs.driving.ended_by.Goals as goal

pub returns-clause-ended : goal.returns-clause-ended
returns-clause-ended c k d within =
    let xs : List Span = c.args.examined.now.spans.now in
    let n : ℕ = c.partition_point.result in
    let bound : n ≤ length xs = c.partition_point.ensures.bound in
    let l : length (take n xs) ≡ n = length-take-le n xs bound in
    let e : get_or (take n xs) k d ≡ get_or xs k d = get_or-take n xs k d (omega arith) in
    let found =
    IsPartitionPoint-from_clause (λ (s : Span). leb s.past c.args.minute) xs n c.partition_point.ensures.partitioned
    (IsPartitionedBy-leb (λ (s : Span). s.past) xs c.args.minute (λ i j d' le lt.
    ends_rise xs c.args.examined.now.base c.args.examined.now.past i j d' c.requires.joined le lt))
    (λ a b f' called. search rules) in
    let h : leb (get_or xs k d).past c.args.minute ≡ true = found.0 k d (omega arith) (omega arith) in
    rw e (leb-true (get_or xs k d).past c.args.minute h)

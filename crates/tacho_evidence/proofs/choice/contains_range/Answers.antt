use Rattle.std.proofs.Common.{rules, ℕ, List, arith}
use Rattle.std.proofs.Math.Dec.{ltb}
use Rattle.std.proofs.lemmas.Bool.{leb-true, le-leb, ltb-true}
use Rattle.std.proofs.lemmas.List.Sorted.{IsPartitionPoint-from_clause, IsPartitionedBy-ltb}
use Rattle.tacho_law.specs.declared.run.Run.{Run}
use Rattle.tacho_periods.proofs.DaysLemmas.{pasts_rise}
use Rattle.tacho_evidence.proofs.ChosenLemmas.{EndBefore, whole_at, whole_only}
use Rattle.tacho_evidence.proofs.choice.contains_range.Goals as goal

pub returns-then-place-rests : goal.returns-then-place-rests
returns-then-place-rests c =
    let rests : List Run = c.args.rests.now in
    let n : ℕ = c.partition_point-place.result in
    let ended : EndBefore rests c.args.past n =
    IsPartitionPoint-from_clause (λ (s : Run). ltb s.past c.args.past) rests n c.partition_point-place.ensures.partitioned
    (IsPartitionedBy-ltb (λ (s : Run). s.past) rests c.args.past
    (λ i j d le lt. pasts_rise rests c.requires.in_time.some c.requires.in_time.in_order i j d le lt))
    (λ a b f' called. search rules) in (
      λ early. whole_at rests c.requires.in_time c.args.start c.args.past n c.requires.range ended c.if-place-rests.true
          (leb-true _ _ early),
      λ has. le-leb _ _ (whole_only rests c.requires.in_time c.args.start c.args.past n c.requires.range ended has).1,
    )

pub returns-else-place-rests : goal.returns-else-place-rests
returns-else-place-rests c =
    let rests : List Run = c.args.rests.now in
    let n : ℕ = c.partition_point-place.result in
    let ended : EndBefore rests c.args.past n =
    IsPartitionPoint-from_clause (λ (s : Run). ltb s.past c.args.past) rests n c.partition_point-place.ensures.partitioned
    (IsPartitionedBy-ltb (λ (s : Run). s.past) rests c.args.past
    (λ i j d le lt. pasts_rise rests c.requires.in_time.some c.requires.in_time.in_order i j d le lt))
    (λ a b f' called. search rules) in
    let late = c.if-place-rests.false in (
      λ early. absurd (let l = ltb-true _ _ early in omega arith),
      λ has. absurd (let l = (whole_only rests c.requires.in_time c.args.start c.args.past n c.requires.range ended has).0 in
          omega arith),
    )

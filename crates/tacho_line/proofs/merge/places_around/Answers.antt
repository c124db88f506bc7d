use Rattle.std.proofs.Common.{rules, ◌≡◌, ◌-◌, nat_lt, nat_le, true, false, length, take, drop, List, ap, ◌∙◌, subst, sym}
use Rattle.std.proofs.lemmas.List.{take_rest, drop-drop}
use Rattle.std.specs.List.Sorted.{IsPartitionPoint}
use Rattle.std.proofs.lemmas.List.Sorted.{IsPartitionPoint-from_clause}
use Rattle.tacho_time.specs.declared.span.Span.{Span}
use Rattle.tacho_time.specs.Spans.{IsCanonical}
use Rattle.tacho_line.specs.Join.{ending_from, starting_by, starting_after}
use Rattle.tacho_line.proofs.SearchLemmas.{parted_below, parted_up_to, starts_rise, pasts_rise, point_front, point_rest, rest_canonical, range_after}
use Rattle.tacho_line.proofs.merge.places_around.Goals as goal
use Rattle.tacho_line.proofs.merge.places_around.Goals.{After-partition_point-count}

-- the spans that the second search goes through
abbrev searched : After-partition_point-count → List Span
searched c = take (length c.args.line.now - c.partition_point-first.result) (drop c.partition_point-first.result c.args.line.now)

first_point : (c : After-partition_point-count) → IsPartitionPoint (λ s. nat_lt s.past c.args.start ≡ true) (λ s. nat_lt s.past c.args.start ≡ false) c.args.line.now c.partition_point-first.result
first_point c =
    let line = c.args.line.now in
    IsPartitionPoint-from_clause (λ (s : Span). nat_lt s.past c.args.start) line c.partition_point-first.result c.partition_point-first.ensures.partitioned (parted_below (λ (s : Span). s.past) line c.args.start (pasts_rise line c.requires)) (λ a r q k. search rules)

searched_is : (c : After-partition_point-count) → searched c ≡ ending_from c.args.start c.args.line.now
searched_is c =
    take_rest c.args.line.now c.partition_point-first.result ∙ point_rest (λ s. nat_lt s.past c.args.start) c.args.line.now c.partition_point-first.result c.partition_point-first.ensures.bound (first_point c)

pub returns-clause-front : goal.returns-clause-front
returns-clause-front c = point_front (λ s. nat_lt s.past c.args.start) c.args.line.now c.partition_point-first.result c.partition_point-first.ensures.bound (first_point c)

second_point : (c : After-partition_point-count) → IsPartitionPoint (λ s. nat_le s.start c.args.past ≡ true) (λ s. nat_le s.start c.args.past ≡ false) (searched c) c.partition_point-count.result
second_point c =
    let known = subst IsCanonical (sym (searched_is c)) (rest_canonical (λ s. nat_lt s.past c.args.start) c.args.line.now c.requires) in
    IsPartitionPoint-from_clause (λ (s : Span). nat_le s.start c.args.past) (searched c) c.partition_point-count.result c.partition_point-count.ensures.partitioned (parted_up_to (λ (s : Span). s.start) (searched c) c.args.past (starts_rise (searched c) known)) (λ a r q k. search rules)

pub returns-clause-middle : goal.returns-clause-middle
returns-clause-middle c =
    let line = c.args.line.now in
    let i = c.partition_point-first.result in
    let n = c.partition_point-count.result in
    range_after line i n ∙ ap (λ xs. take n xs) (sym (take_rest line i))
    ∙ point_front (λ s. nat_le s.start c.args.past) (searched c) n c.partition_point-count.ensures.bound (second_point c)
    ∙ ap (starting_by c.args.past) (searched_is c)

pub returns-clause-back : goal.returns-clause-back
returns-clause-back c =
    let line = c.args.line.now in
    let i = c.partition_point-first.result in
    let n = c.partition_point-count.result in
    sym (drop-drop n i line) ∙ ap (λ xs. drop n xs) (sym (take_rest line i))
    ∙ point_rest (λ s. nat_le s.start c.args.past) (searched c) n c.partition_point-count.ensures.bound (second_point c)
    ∙ ap (starting_after c.args.past) (searched_is c)

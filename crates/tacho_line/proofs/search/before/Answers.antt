use Rattle.std.proofs.Common.{rules, nat_lt}
use Rattle.std.proofs.lemmas.List.Sorted.{IsPartitionPoint-from_clause}
use Rattle.tacho_time.specs.declared.span.Span.{Span}
use Rattle.tacho_line.proofs.SearchLemmas.{parted_below, starts_rise, point_front}
use Rattle.tacho_line.proofs.search.before.Goals as goal

pub returns : goal.returns
returns c =
    let spans = c.args.spans.now in
    let parted = parted_below (λ (s : Span). s.start) spans c.args.minute (starts_rise spans c.requires) in
    let point = IsPartitionPoint-from_clause (λ (s : Span). nat_lt s.start c.args.minute) spans c.partition_point-past.result c.partition_point-past.ensures.partitioned parted (λ a r q k. search rules) in
    point_front (λ s. nat_lt s.start c.args.minute) spans c.partition_point-past.result c.partition_point-past.ensures.bound point

use Rattle.std.proofs.Common.{rules, nat_le, ◌∙◌}
use Rattle.std.proofs.lemmas.List.{take_rest}
use Rattle.std.proofs.lemmas.List.Sorted.{IsPartitionPoint-from_clause}
use Rattle.tacho_time.specs.declared.span.Span.{Span}
use Rattle.tacho_line.proofs.SearchLemmas.{parted_up_to, pasts_rise, point_rest}
use Rattle.tacho_line.proofs.search.behind.Goals as goal

pub returns : goal.returns
returns c =
    let spans = c.args.spans.now in
    let parted = parted_up_to (λ (s : Span). s.past) spans c.args.minute (pasts_rise spans c.requires) in
    let point = IsPartitionPoint-from_clause (λ (s : Span). nat_le s.past c.args.minute) spans c.partition_point-first.result c.partition_point-first.ensures.partitioned parted (λ a r q k. search rules) in
    take_rest spans c.partition_point-first.result ∙ point_rest (λ s. nat_le s.past c.args.minute) spans c.partition_point-first.result c.partition_point-first.ensures.bound point

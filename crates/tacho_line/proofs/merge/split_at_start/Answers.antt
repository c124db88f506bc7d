use Rattle.std.proofs.Common.{rules, nat_lt, ◌∙◌, subst, sym}
use Rattle.std.proofs.lemmas.List.Sorted.{IsPartitionPoint-from_clause}
use Rattle.tacho_time.specs.declared.span.Span.{Span}
use Rattle.tacho_time.specs.Spans.{IsCanonical}
use Rattle.tacho_line.proofs.SearchLemmas.{parted_below, starts_rise, point_front, point_rest, rest_canonical}
use Rattle.tacho_line.proofs.merge.split_at_start.Goals as goal

pub returns : goal.returns
returns c =
    let spans = c.args.spans.now in
    let test = λ (s : Span). nat_lt s.start c.args.minute in
    let parted = parted_below (λ (s : Span). s.start) spans c.args.minute (starts_rise spans c.requires) in
    let point = IsPartitionPoint-from_clause test spans c.partition_point.result c.partition_point.ensures.partitioned parted (λ a r q k. search rules) in
    let later = c.split_at.ensures.back ∙ point_rest test spans c.partition_point.result c.partition_point.ensures.bound point in
    record {
      earlier = c.split_at.ensures.front ∙ point_front test spans c.partition_point.result c.partition_point.ensures.bound point;
      later = later;
      canonical = subst IsCanonical (sym later) (rest_canonical test spans c.requires);
    }

use Rattle.std.proofs.Common.{rules, List, subst, sym}
use Rattle.std.specs.List.Sorted.{IsPermutation}
use Rattle.std.proofs.lemmas.List.Sorted.{IsNonDecreasingBy-from_sort_by_key}
use Rattle.tacho_time.specs.declared.span.Span.{Span}
use Rattle.tacho_time.specs.Spans.{StartsFrom}
use Rattle.tacho_time.proofs.CanonicalLemmas.{sorted_full, sorted_same, moved_result}
use Rattle.tacho_time.proofs.canonical.merge_in_order.Goals as goal

pub merge_ordered-requires : goal.merge_ordered-requires
merge_ordered-requires c =
    let sorted = c.sort_unstable_by_key.new.self.items in
    let only = subst (λ (xs : List Span). IsPermutation xs sorted) c.in_ok-full.ensures c.sort_unstable_by_key.ensures.permutation in
    let up = IsNonDecreasingBy-from_sort_by_key (λ (s : Span). s.start) sorted c.sort_unstable_by_key.ensures.sorted (λ a r q k. search rules) in
    subst (StartsFrom 0) (sym c.deref.ensures.value) (sorted_full c.args.spans.now sorted only up)

pub returns : goal.returns
returns c =
    let sorted = c.sort_unstable_by_key.new.self.items in
    let only = subst (λ (xs : List Span). IsPermutation xs sorted) c.in_ok-full.ensures c.sort_unstable_by_key.ensures.permutation in
    let same = sorted_same c.args.spans.now sorted only in
    moved_result (λ runs. runs.items) c.args.spans.now c.deref.result.now c.merge_ordered.result (rw c.deref.ensures.value same) c.merge_ordered.ensures

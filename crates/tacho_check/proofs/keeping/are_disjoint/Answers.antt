use Rattle.std.proofs.Common.{rules, List, subst}
use Rattle.std.specs.List.Sorted.{IsPermutation}
use Rattle.std.proofs.lemmas.List.Sorted.{IsNonDecreasingBy-from_sort_by_key}
use Rattle.tacho_time.specs.declared.span.Span.{Span}
use Rattle.tacho_check.proofs.KeepLemmas.{decides_disjoint}
use Rattle.tacho_check.proofs.keeping.are_disjoint.Goals as goal

pub returns : goal.returns
returns c =
    let sorted = c.sort_unstable_by_key.new.self.items in
    let only = subst (λ (xs : List Span). IsPermutation xs sorted) c.in-Ok.ensures.items c.sort_unstable_by_key.ensures.permutation in
    let up = IsNonDecreasingBy-from_sort_by_key (λ (s : Span). s.start) sorted c.sort_unstable_by_key.ensures.sorted
    (λ a r q k. search rules) in
    decides_disjoint c.args.spans.now sorted only up c.rise.result (rw c.deref.ensures.value at c.rise.ensures)

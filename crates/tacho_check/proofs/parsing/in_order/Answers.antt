use Rattle.std.proofs.Common.{rules}
use Rattle.std.proofs.lemmas.List.Sorted.{IsNonDecreasingBy-from_sort_by_key}
use Rattle.tacho_check.proofs.RowOrderLemmas.{sorted_never_falls}
use Rattle.tacho_check.proofs.parsing.in_order.Goals as goal

pub returns-clause-sorted : goal.returns-clause-sorted
returns-clause-sorted g c =
    let sorted = c.sort_unstable_by_key.new.self.items in
    sorted_never_falls g.T.Numbered.number_of sorted
    (IsNonDecreasingBy-from_sort_by_key g.T.Numbered.number_of sorted c.sort_unstable_by_key.ensures.sorted (λ a r q k. search rules))

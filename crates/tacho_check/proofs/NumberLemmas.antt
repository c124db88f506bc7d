-- The numbers of all drivers, from the rows that were read.
use Rattle.std.proofs.Common.{◌≡◌, ℤ, List, map, subst}
use Rattle.std.specs.List.Sorted.{IsPermutation, IsSorted}
use Rattle.std.specs.Ordering.{int_cmp}
use Rattle.std.proofs.lemmas.List.Sorted.{IsPermutation-map, IsPermutation-trans}
use Rattle.sqlite_value.specs.Order.{Row}
use Rattle.sqlite_trees.proofs.ListLemmas.{map-map}
use Rattle.tacho_tables.specs.Ask.{Show, number_shown}
use Rattle.tacho_check.specs.Numbers.{number_row, AreAllNumbers}

-- the numbers of the rows that were read, in another order
pub are_all : (stored rows : List Row) (read sorted : List ℤ) → Show number_shown stored rows → map number_row read ≡ map number_shown rows
    → IsPermutation read sorted → IsSorted int_cmp sorted → AreAllNumbers stored sorted
are_all stored rows read sorted shown are moved order = record {
  all = IsPermutation-trans (map number_shown stored) (map number_shown rows) (map number_row sorted)
      (subst (λ (xs : List Row). IsPermutation xs (map number_shown rows)) (map-map number_shown number_shown stored)
      (IsPermutation-map number_shown (map number_shown stored) rows shown))
      (subst (λ (xs : List Row). IsPermutation xs (map number_row sorted)) are (IsPermutation-map number_row read sorted moved));
  sorted = order;
}

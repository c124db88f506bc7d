-- Typed rows with the same stored rows are the same, up to order; numbered rows have one order.
use Rattle.std.proofs.Common.{◌≡◌, ℕ, zero, suc, ◌<◌, ◌≤◌, false, List, [], ◌∷◌, map, length, Less, refl, sym, ap₂, subst, arith, add-one}
use Rattle.std.specs.Cmp.{IsTotalOrder}
use Rattle.std.specs.List.{slice_index_or}
use Rattle.std.specs.List.Sorted.{IsPermutation, IsSorted, IsNonDecreasingBy}
use Rattle.std.specs.Ordering.{is_lt, nat_cmp}
use Rattle.std.proofs.lemmas.Bool.Decides.{nat_tests}
use Rattle.std.proofs.lemmas.Cmp.{nat_cmp_total}
use Rattle.std.proofs.lemmas.List.Sorted.{IsPermutation-sym, IsPermutation-trans}
use Rattle.sqlite_keyed.proofs.SortLemmas.{sorted_unique}
use Rattle.sqlite_trees.specs.Tree.{IsAscending}
use Rattle.sqlite_trees.proofs.ListLemmas.{pull_back}
use Rattle.sqlite.specs.Order.{Row}
use Rattle.tacho_check.specs.Parsed.{NeverFall}

-- ---- the same stored rows

-- lists with the same images are the same
map_injective : {X Y : Type 0} (f : X → Y) → ((a b : X) → f a ≡ f b → a ≡ b) → (xs ys : List X) → map f xs ≡ map f ys → xs ≡ ys
map_injective f one [] [] e = refl
map_injective f one [] (y ∷ ys) e = absurd (let g = e in cc)
map_injective f one (x ∷ xs) [] e = absurd (let g = e in cc)
map_injective f one (x ∷ xs) (y ∷ ys) e =
    let first : f x ≡ f y = cc in
    let rest : map f xs ≡ map f ys = cc in
    ap₂ (λ a more. a ∷ more) (one x y first) (map_injective f one xs ys rest)

-- lists with the same stored rows are the same, up to order
pub same_stored : {X : Type 0} (columns : X → Row) → ((a b : X) → columns a ≡ columns b → a ≡ b) → (xs ys : List X) (rows : List Row)
    → IsPermutation (map columns xs) rows → IsPermutation (map columns ys) rows → IsPermutation xs ys
same_stored columns one xs ys rows p q =
    let both = IsPermutation-trans (map columns xs) rows (map columns ys) p (IsPermutation-sym (map columns ys) rows q) in
    let it = pull_back columns (map columns xs) (map columns ys) both xs refl in
    subst (IsPermutation xs) (sym (map_injective columns one ys it.0 it.2)) it.1

-- ---- order

not_less : (i j : ℕ) → i ≤ j → is_lt (nat_cmp j i) ≡ false
not_less i j h = grind (arith, nat_tests)

module _ {X : Type 0} (key : X → ℕ) where
  total : IsTotalOrder (λ (x y : X). nat_cmp (key x) (key y))
  total = record {
    antisymm = λ x y. nat_cmp_total.antisymm (key x) (key y);
    trans = λ x y z. nat_cmp_total.trans (key x) (key y) (key z);
    congr = λ x y z. nat_cmp_total.congr (key x) (key y) (key z);
  }

  -- rows whose numbers never fall are sorted
  never_fall_sorted : (n : ℕ) (xs : List X) → NeverFall n (map key xs) → IsSorted (λ (x y : X). nat_cmp (key x) (key y)) xs
  never_fall_sorted n [] h k d p q = absurd (omega (arith, q))
  never_fall_sorted n (x ∷ []) h k d p q = absurd (omega (arith, q))
  never_fall_sorted n (x ∷ y ∷ xs) h zero d p q = not_less (key x) (key y) h.1.0
  never_fall_sorted n (x ∷ y ∷ xs) h (suc k) d p q =
      rw add-one (rw add-one at (never_fall_sorted (key x) (y ∷ xs) h.1 k d (omega arith) (omega (arith, q))))

  -- rows whose numbers rise have one order in which they never fall
  pub one_order : (xs ys : List X) → IsAscending (λ a b. nat_cmp (key a) (key b) ≡ Less) xs → IsPermutation xs ys
      → NeverFall 0 (map key ys) → ys ≡ xs
  one_order xs ys up same never = sorted_unique (λ (x y : X). nat_cmp (key x) (key y)) total xs ys up same (never_fall_sorted 0 ys never)

  -- what is sorted by number never falls
  sorted_from : (n : ℕ) (xs : List X) → IsNonDecreasingBy key xs → ((d : X) → 0 < length xs → n ≤ key (slice_index_or xs 0 d))
      → NeverFall n (map key xs)
  sorted_from n [] up low = tt
  sorted_from n (x ∷ xs) up low = (
    low x (omega arith),
    sorted_from (key x) xs (λ i j d l k. up (suc i) (suc j) d (omega (arith, l)) (omega (arith, k)))
        (λ d some. up 0 1 d (omega arith) (omega (arith, some))),
  )

  pub sorted_never_falls : (xs : List X) → IsNonDecreasingBy key xs → NeverFall 0 (map key xs)
  sorted_never_falls xs up = sorted_from 0 xs up (λ d some. omega arith)

-- What is sorted by one number.
use Rattle.std.proofs.Common.{◌≡◌, ◌∙◌, ℕ, pos, ◌<◌, ◌+◌, Ordering, Less, Equal, Greater, List, map, length, Bool, refl, sym, ap, arith}
use Rattle.std.specs.Prelude.{nat_lt}
use Rattle.std.specs.List.{slice_index_or}
use Rattle.std.specs.List.Sorted.{IsSortedBy}
use Rattle.std.specs.Ordering.{is_lt, nat_cmp, int_cmp, ordering_then}
use Rattle.std.proofs.lemmas.Int.{ints}
use Rattle.std.proofs.lemmas.List.{get_or-map, length-map}
use Rattle.sqlite.specs.declared.types.Value.TheVariants.{Int}
use Rattle.sqlite_value.specs.Order.{value_cmp}
use Rattle.sqlite_value.proofs.OrderLemmas.{value_cmp-Int}

-- a sort by one number alone is a comparison of these numbers
one_number : (a b : ℕ) → is_lt (ordering_then (value_cmp (Int (pos a)) (Int (pos b))) Equal) ≡ is_lt (int_cmp (pos a) (pos b))
one_number a b = ap is_lt (then_equal (value_cmp (Int (pos a)) (Int (pos b))) ∙ value_cmp-Int (pos a) (pos b)) where
  then_equal : (o : Ordering) → ordering_then o Equal ≡ o
  then_equal Less = refl
  then_equal Equal = refl
  then_equal Greater = refl

pub by_one_number : (a b : ℕ) → is_lt (ordering_then (value_cmp (Int (pos a)) (Int (pos b))) Equal) ≡ is_lt (nat_cmp a b)
by_one_number a b = one_number a b ∙ same a b where
  same : (a b : ℕ) → is_lt (int_cmp (pos a) (pos b)) ≡ is_lt (nat_cmp a b)
  same a b = grind (arith, ints)

pub by_one_minute : (a b : ℕ) → is_lt (ordering_then (value_cmp (Int (pos a)) (Int (pos b))) Equal) ≡ nat_lt a b
by_one_minute a b = one_number a b ∙ same a b where
  same : (a b : ℕ) → is_lt (int_cmp (pos a) (pos b)) ≡ nat_lt a b
  same a b = grind (arith, ints)

-- if the images of a list are sorted, the list is sorted by the order of the images
pub sorted_before : {X Y : Type 0} (f : X → Y) (less : Y → Y → Bool) (lt : X → X → Bool) (xs : List X) → ((x y : X) → less (f x) (f y) ≡ lt x y)
    → IsSortedBy less (map f xs) → IsSortedBy lt xs
sorted_before f less lt xs same h k d low high =
    let high_2 : k + 1 < length (map f xs) = (let as_many = length-map xs f in omega (arith, high, as_many)) in
    sym (same (slice_index_or xs (k + 1) d) (slice_index_or xs k d))
    ∙ sym (ap (λ y. less y (f (slice_index_or xs k d))) (get_or-map f xs (k + 1) d (f d) high))
    ∙ sym (ap (λ y. less (slice_index_or (map f xs) (k + 1) (f d)) y) (get_or-map f xs k d (f d) (omega (arith, high))))
    ∙ h k (f d) low high_2

-- if a list is sorted by the order of its images, its images are sorted
pub sorted_after : {X Y : Type 0} (f : X → Y) (less : Y → Y → Bool) (lt : X → X → Bool) (xs : List X) → X
    → ((x y : X) → less (f x) (f y) ≡ lt x y)
    → IsSortedBy lt xs → IsSortedBy less (map f xs)
sorted_after f less lt xs none same h k d low high =
    let high_2 : k + 1 < length xs = (let as_many = length-map xs f in omega (arith, high, as_many)) in
    ap (λ y. less y (slice_index_or (map f xs) k d)) (get_or-map f xs (k + 1) none d high_2)
    ∙ ap (λ y. less (f (slice_index_or xs (k + 1) none)) y) (get_or-map f xs k none d (omega (arith, high_2)))
    ∙ same (slice_index_or xs (k + 1) none) (slice_index_or xs k none)
    ∙ h k none low high_2

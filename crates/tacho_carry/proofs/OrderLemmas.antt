-- Drivers ordered as what is listed of them.
use Rattle.std.proofs.Common.{◌≡◌, ◌∙◌, ℕ, ◌+◌, ◌<◌, Bool, List, [], ◌∷◌, length, map, refl, sym, ap, arith}
use Rattle.std.specs.List.{slice_index_or, slice_set, swap}
use Rattle.std.specs.List.Sorted.{IsPermutation, IsSortedBy}
use Rattle.std.proofs.lemmas.List.{get_or-map, length-map, map-set}
use Rattle.std.proofs.lemmas.List.Sorted.{IsPermutation-keeps, IsPermutation-refl, IsPermutation-swap, IsPermutation-trans}

module _ {A B : Type 0} (f : A → B) where
  -- the images after a swap
  map-swap : (xs : List A) (i j : ℕ) → i < length xs → j < length xs → map f (swap xs i j) ≡ swap (map f xs) i j
  map-swap [] i j p q = refl
  map-swap (d ∷ xs) i j p q =
      let all = d ∷ xs in
      map-set f (slice_set all i (slice_index_or all j d)) j (slice_index_or all i d)
      ∙ ap (λ (l : List B). slice_set l j (f (slice_index_or all i d))) (map-set f all i (slice_index_or all j d))
      ∙ rw (get_or-map f all j d (f d) q, get_or-map f all i d (f d) p) refl

  -- what the images are of, in another order
  abbrev IsOf : List A → List B → Type 0
  IsOf xs ys = (to : List A) × IsPermutation xs to × (ys ≡ map f to)

  -- images in another order are those of the elements in another order
  pub of_others : (xs : List A) (ys : List B) → IsPermutation (map f xs) ys → IsOf xs ys
  of_others xs = IsPermutation-keeps (map f xs) (IsOf xs) (xs, IsPermutation-refl xs, refl) more where
    more : (l : List B) (i j : ℕ) → i < length l → j < length l → IsOf xs l → IsOf xs (swap l i j)
    more l i j p q (to, same, is) =
        let long : length l ≡ length to = ap length is ∙ length-map to f in
        let low : i < length to = omega (arith, p, long) in
        let high : j < length to = omega (arith, q, long) in (
          swap to i j,
          IsPermutation-trans _ _ _ same (IsPermutation-swap to (swap to i j) i j low high refl),
          ap (λ (m : List B). swap m i j) is ∙ sym (map-swap to i j low high),
        )

  -- elements are sorted if their images are
  pub sorted_of : (less : B → B → Bool) (lt : A → A → Bool) (xs : List A) → ((x y : A) → less (f x) (f y) ≡ lt x y)
      → IsSortedBy less (map f xs) → IsSortedBy lt xs
  sorted_of less lt [] same h k d low high = absurd (omega (arith, high))
  sorted_of less lt (x ∷ xs) same h k d low high =
      let all = x ∷ xs in
      let as_many = length-map all f in
      let low_at : k < length all = omega (arith, high) in
      sym (same (slice_index_or all (k + 1) d) (slice_index_or all k d))
      ∙ sym (ap (λ y. less y (f (slice_index_or all k d))) (get_or-map f all (k + 1) d (f d) high))
      ∙ sym (ap (λ y. less (slice_index_or (map f all) (k + 1) (f d)) y) (get_or-map f all k d (f d) low_at))
      ∙ h k (f d) low (omega (arith, high, as_many))

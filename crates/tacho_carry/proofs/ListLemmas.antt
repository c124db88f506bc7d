-- Filtered lists, and what holds of all elements of a list.
use Rattle.std.proofs.Common.{◌≡◌, ◌≤◌, ◌⊎◌, inl, inr, Bool, true, false, cond, List, [], ◌∷◌, ◌++◌, length, filter, refl, ap, ◌∙◌}
use Rattle.std.specs.List.{AllByRecursion}
use Rattle.std.specs.List.Sorted.{IsPermutation}
use Rattle.std.proofs.lemmas.List.Elements.{All-filter, All-from_recursion, All-push, recursion_from_All}
use Rattle.std.proofs.lemmas.List.Sorted.{All-permutation}
use Rattle.std.proofs.lemmas.List.Sums.{count_by-le-length, length-filter}

-- ---- places in a list

-- an element of a filtered list, in the whole list: what is before it there, filtered, is before it in the filtered list
pub record IsKept {A : Type 0} (p : A → Bool) (xs before : List A) (y : A) : Type 0 where
  pub front : List A
  pub back : List A
  pub whole : xs ≡ front ++ y ∷ back
  pub kept : filter p front ≡ before

module _ {A : Type 0} (p : A → Bool) where
  -- each element of a filtered list is in the whole list
  pub kept_place : (xs before later : List A) (y : A) → filter p xs ≡ before ++ y ∷ later → IsKept p xs before y
  kept_place [] [] later y e = cc
  kept_place [] (b ∷ before) later y e = cc
  kept_place (x ∷ xs) before later y e = go (p x) refl before e (λ bs f. kept_place xs bs later y f) where
    go : (t : Bool) → p x ≡ t → (bs : List A) → cond t (x ∷ filter p xs) (filter p xs) ≡ bs ++ y ∷ later
        → ((cs : List A) → filter p xs ≡ cs ++ y ∷ later → IsKept p xs cs y) → IsKept p (x ∷ xs) bs y
    go false o bs f more = let it = more bs f in
        record { front = x ∷ it.front; back = it.back; whole = ap (λ (l : List A). x ∷ l) it.whole; kept = rw o it.kept }
    go true o [] f more = let same : x ≡ y = cc in record { front = []; back = xs; whole = ap (λ (z : A). z ∷ xs) same; kept = refl }
    go true o (b ∷ bs) f more =
        let same : x ≡ b = cc in
        let tail : filter p xs ≡ bs ++ y ∷ later = cc in
        let it = more bs tail in
        record {
          front = x ∷ it.front;
          back = it.back;
          whole = ap (λ (l : List A). x ∷ l) it.whole;
          kept = rw o (ap (λ (l : List A). x ∷ l) it.kept ∙ ap (λ (z : A). z ∷ bs) same);
        }

  -- a filtered list isn't longer
  pub filter_length : (xs : List A) → length (filter p xs) ≤ length xs
  filter_length xs = rw (length-filter p xs) (count_by-le-length p xs)

-- an element of a list with one more at its end is that one, or an element of the list
pub last_or_before : {A : Type 0} (xs before later : List A) (x y : A) → xs ++ x ∷ [] ≡ before ++ y ∷ later
    → ((before ≡ xs) × (y ≡ x)) ⊎ ((rest : List A) × (xs ≡ before ++ y ∷ rest))
last_or_before [] [] later x y e = inl (refl, cc)
last_or_before [] (b ∷ []) later x y e = cc
last_or_before [] (b ∷ c ∷ before) later x y e = cc
last_or_before (a ∷ xs) [] later x y e = let same : a ≡ y = cc in inr (xs, ap (λ z. z ∷ xs) same)
last_or_before (a ∷ xs) (b ∷ before) later x y e =
    let same : a ≡ b = cc in
    let tail : xs ++ x ∷ [] ≡ before ++ y ∷ later = cc in
    go same (last_or_before xs before later x y tail) where
      go : a ≡ b → ((before ≡ xs) × (y ≡ x)) ⊎ ((rest : List _) × (xs ≡ before ++ y ∷ rest))
          → ((b ∷ before ≡ a ∷ xs) × (y ≡ x)) ⊎ ((rest : List _) × (a ∷ xs ≡ b ∷ before ++ y ∷ rest))
      go f (inl g) = inl (cc, g.1)
      go f (inr g) = inr (g.0, cc)

-- ---- what holds of all elements

module _ {A : Type 0} (P : A → Type 0) where
  -- what holds of all elements holds of those that are kept
  pub all_filter : (p : A → Bool) (xs : List A) → AllByRecursion P xs → AllByRecursion P (filter p xs)
  all_filter p xs h = recursion_from_All P (filter p xs) (All-filter p P xs (All-from_recursion P xs h))

  -- it holds of all elements with one more at the end, if it holds of this one
  pub all_end : (xs : List A) (y : A) → AllByRecursion P xs → P y → AllByRecursion P (xs ++ y ∷ [])
  all_end xs y h own = recursion_from_All P (xs ++ y ∷ []) (All-push P xs y (All-from_recursion P xs h) own)

  -- what holds of all elements of two lists in a row holds of those of each
  pub all_parts : (xs ys : List A) → AllByRecursion P (xs ++ ys) → AllByRecursion P xs × AllByRecursion P ys
  all_parts [] ys h = (tt, h)
  all_parts (x ∷ xs) ys h = let more = all_parts xs ys h.1 in ((h.0, more.0), more.1)

  -- what holds of all elements holds of them in another order
  pub all_ordered : (xs ys : List A) → IsPermutation xs ys → AllByRecursion P xs → AllByRecursion P ys
  all_ordered xs ys same h = recursion_from_All P ys (All-permutation P xs ys same (All-from_recursion P xs h))

-- Values are found by a test of their rows.
use Rattle.std.proofs.Common.{◌≡◌, ℕ, zero, suc, ◌+◌, ◌<◌, ◌==◌, ◌&&◌, ◌⊎◌, inl, inr, ◌↔◌, Bool, true, false, cond, List, [], ◌∷◌, Option, Some, None, length, map, filter, option_map, refl, sym, ap, ◌∙◌, subst, arith}
use Rattle.std.specs.List.{Contains, slice_index_or}
use Rattle.tacho_state.proofs.EqualLemmas.{eq_not, eq_true}

-- ---- elements of a list

-- an element is the first, or an element of the rest
pub first_or_rest : {A : Type 0} (x y : A) (xs : List A) → Contains (x ∷ xs) y → (x ≡ y) ⊎ Contains xs y
first_or_rest x y xs h = go h.0 h.1 h.2 where
  go : (k : ℕ) → k < length (x ∷ xs) → slice_index_or (x ∷ xs) k y ≡ y → (x ≡ y) ⊎ Contains xs y
  go zero l e = inl e
  go (suc k) l e = inr (k, omega (arith, l), e)

-- the empty list has no element
pub none_there : {A : Type 0} (y : A) → Contains [] y → ⊥
none_there y h = let l = h.1 in absurd (omega (arith, l))

-- two tests one after the other
pub filter_both : {A : Type 0} (p q : A → Bool) (xs : List A) → filter (λ x. p x && q x) xs ≡ filter q (filter p xs)
filter_both p q [] = refl
filter_both {A = A} p q (x ∷ xs) = go (p x) (filter_both p q xs) where
  go : (b : Bool) → filter (λ x. p x && q x) xs ≡ filter q (filter p xs)
      → cond (b && q x) (x ∷ filter (λ x. p x && q x) xs) (filter (λ x. p x && q x) xs) ≡ filter q (cond b (x ∷ filter p xs) (filter p xs))
  go true e = ap (λ (ys : List A). cond (q x) (x ∷ ys) ys) e
  go false e = e

-- ---- the first value whose row passes a test

-- the first of these values whose row passes
abbrev pub first_passing : {X R : Type 0} → (X → R) → (R → Bool) → List X → Option X
first_passing row p [] = None
first_passing row p (x ∷ xs) = cond (p (row x)) (Some x) (first_passing row p xs)

-- if the row of a value passes, that of no later value does
abbrev pub PassesOnce : {X R : Type 0} → (X → R) → (R → Bool) → List X → Type 0
PassesOnce row p [] = Unit {0}
PassesOnce row p (x ∷ xs) = (p (row x) ≡ true → filter p (map row xs) ≡ []) × PassesOnce row p xs

module _ {X R : Type 0} (row : X → R) (p : R → Bool) where
  -- if no row passes, no value is found
  rows_none : (xs : List X) → filter p (map row xs) ≡ [] → first_passing row p xs ≡ None
  rows_none [] e = refl
  rows_none (x ∷ xs) e = go (p (row x)) e (rows_none xs) where
    go : (b : Bool) → cond b (row x ∷ filter p (map row xs)) (filter p (map row xs)) ≡ []
        → (filter p (map row xs) ≡ [] → first_passing row p xs ≡ None) → cond b (Some x) (first_passing row p xs) ≡ None
    go true f more = cc
    go false f more = more f

  -- if no value is found, no row passes
  none_rows : (xs : List X) → first_passing row p xs ≡ None → filter p (map row xs) ≡ []
  none_rows [] e = refl
  none_rows (x ∷ xs) e = go (p (row x)) e (none_rows xs) where
    go : (b : Bool) → cond b (Some x) (first_passing row p xs) ≡ None → (first_passing row p xs ≡ None → filter p (map row xs) ≡ [])
        → cond b (row x ∷ filter p (map row xs)) (filter p (map row xs)) ≡ []
    go true f more = cc
    go false f more = more f

  -- no row passes iff no value is found
  pub none_passes : (xs : List X) → (filter p (map row xs) ≡ []) ↔ (first_passing row p xs ≡ None)
  none_passes xs = (rows_none xs, none_rows xs)

  -- a row that passes is that of the value that is found
  pub row_passes : (xs : List X) (r : R) → PassesOnce row p xs → Contains (filter p (map row xs)) r
      → (x : X) × (first_passing row p xs ≡ Some x) × (r ≡ row x)
  row_passes [] r o h = absurd (none_there r h)
  row_passes (x ∷ xs) r o h = go (p (row x)) refl h (row_passes xs r o.1) where
    go : (b : Bool) → p (row x) ≡ b → Contains (cond b (row x ∷ filter p (map row xs)) (filter p (map row xs))) r
        → (Contains (filter p (map row xs)) r → (y : X) × (first_passing row p xs ≡ Some y) × (r ≡ row y))
        → (y : X) × (cond b (Some x) (first_passing row p xs) ≡ Some y) × (r ≡ row y)
    go true e w more = either (first_or_rest (row x) r (filter p (map row xs)) w) where
      either : (row x ≡ r) ⊎ Contains (filter p (map row xs)) r → (y : X) × (Some x ≡ Some y) × (r ≡ row y)
      either (inl f) = (x, refl, sym f)
      either (inr f) = absurd (none_there r (subst (λ (rows : List R). Contains rows r) (o.0 e) f))
    go false e w more = more w

-- ---- the value with a number

-- values with their numbers, from `i` on
abbrev pub numbered : {X : Type 0} → ℕ → List X → List (ℕ × X)
numbered i [] = []
numbered i (x ∷ xs) = (i, x) ∷ numbered (i + 1) xs

-- the first value whose number is `k`
abbrev pub with_number : {X : Type 0} → ℕ → ℕ → List X → Option X
with_number i k [] = None
with_number i k (x ∷ xs) = cond (i == k) (Some x) (with_number (i + 1) k xs)

module _ {X R : Type 0} (row : ℕ → X → R) (p : R → Bool) (k : ℕ) (test : (i : ℕ) (x : X) → p (row i x) ≡ (i == k)) where
  -- the row of a value with its number
  abbrev pair : ℕ × X → R
  pair e = row e.0 e.1

  -- the value is found with its number
  found_numbered : (i : ℕ) (xs : List X)
      → option_map (λ (e : ℕ × X). e.1) (first_passing pair p (numbered i xs)) ≡ with_number i k xs
  found_numbered i [] = refl
  found_numbered i (x ∷ xs) = ap (λ b. option_map (λ (e : ℕ × X). e.1) (cond b (Some (i, x)) (first_passing pair p (numbered (i + 1) xs)))) (test i x)
      ∙ go (i == k) (found_numbered (i + 1) xs) where
        go : (b : Bool) → option_map (λ (e : ℕ × X). e.1) (first_passing pair p (numbered (i + 1) xs)) ≡ with_number (i + 1) k xs
            → option_map (λ (e : ℕ × X). e.1) (cond b (Some (i, x)) (first_passing pair p (numbered (i + 1) xs)))
            ≡ cond b (Some x) (with_number (i + 1) k xs)
        go true e = refl
        go false e = e

  -- it has that number
  number_is : (i : ℕ) (xs : List X) (e : ℕ × X) → first_passing pair p (numbered i xs) ≡ Some e → e.0 ≡ k
  number_is i [] e is = cc
  number_is i (x ∷ xs) e is =
      go (i == k) refl (ap (λ b. cond b (Some (i, x)) (first_passing pair p (numbered (i + 1) xs))) (sym (test i x)) ∙ is) (number_is (i + 1) xs e) where
        go : (b : Bool) → (i == k) ≡ b → cond b (Some (i, x)) (first_passing pair p (numbered (i + 1) xs)) ≡ Some e
            → (first_passing pair p (numbered (i + 1) xs) ≡ Some e → e.0 ≡ k) → e.0 ≡ k
        go true o f more = let same : (i, x) ≡ e = cc in sym (ap (λ (y : ℕ × X). y.0) same) ∙ eq_true i k o
        go false o f more = more f

  -- no later value has it
  later : (i : ℕ) (xs : List X) → k < i → filter p (map pair (numbered i xs)) ≡ []
  later i [] l = refl
  later i (x ∷ xs) l =
      ap (λ b. cond b (row i x ∷ filter p (map pair (numbered (i + 1) xs))) (filter p (map pair (numbered (i + 1) xs))))
      (test i x ∙ eq_not i k (λ f. absurd (omega (arith, f, l))))
      ∙ later (i + 1) xs (omega (arith, l))

  once : (i : ℕ) (xs : List X) → PassesOnce pair p (numbered i xs)
  once i [] = tt
  once i (x ∷ xs) = ((λ e. let f = eq_true i k (sym (test i x) ∙ e) in later (i + 1) xs (omega (arith, f))), once (i + 1) xs)

  -- no row has the number iff no value does
  pub number_none : (i : ℕ) (xs : List X) → (filter p (map pair (numbered i xs)) ≡ []) ↔ (with_number i k xs ≡ None)
  number_none i xs =
      let found = none_passes pair p (numbered i xs) in (
        λ e. sym (found_numbered i xs) ∙ ap (option_map (λ (e : ℕ × X). e.1)) (found.0 e),
        λ e. found.1 (no_value (first_passing pair p (numbered i xs)) (found_numbered i xs ∙ e)),
      ) where
        no_value : (o : Option (ℕ × X)) → option_map (λ (e : ℕ × X). e.1) o ≡ None → o ≡ None
        no_value None e = refl
        no_value (Some y) e = cc

  -- a row that has it is that of the value with this number
  pub number_some : (i : ℕ) (xs : List X) (r : R) → Contains (filter p (map pair (numbered i xs))) r
      → (x : X) × (with_number i k xs ≡ Some x) × (r ≡ row k x)
  number_some i xs r h =
      let it = row_passes pair p (numbered i xs) r (once i xs) h in (
        it.0.1,
        sym (found_numbered i xs) ∙ ap (option_map (λ (e : ℕ × X). e.1)) it.1,
        it.2 ∙ ap (λ j. row j it.0.1) (number_is i xs it.0 it.1),
      )

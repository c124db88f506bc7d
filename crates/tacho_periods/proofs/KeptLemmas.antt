-- The elements of a list that satisfy a property, kept one after another (`long_rests`; `reduced_days` and `extended_days` of tacho_plain).
use Rattle.std.proofs.Common.{◌≡◌, ℕ, ◌+◌, ◌<◌, ◌⊎◌, ◌↔◌, inl, inr, List, []}
use Rattle.std.proofs.Common.{◌∷◌, ◌++◌, length, get_or, take, refl, sym, subst, ◌∙◌, arith}
use Rattle.std.specs.List.{AllPairs, Contains}
use Rattle.std.proofs.lemmas.List.{take_more, length-take-le, get_or-take, get_or_default}
use Rattle.std.proofs.lemmas.List.Elements.{Contains-push, Contains-append_left, Contains-push_cases}
use Rattle.tacho_law.specs.Exactly.{AreExactly}
use Rattle.tacho_law.proofs.ExactlyLemmas.{exactly_add, exactly_as, exactly_none, exactly_skip}

-- those of the elements seen so far that satisfy `P` are kept, in order
abbrev pub AreKept : (A : Type 0) → (A → A → Type 0) → (A → Type 0) → List A → List A → Type 0
AreKept A R P seen kept = AreExactly (λ x. Contains seen x × P x) R kept

module _ (A : Type 0) (R : A → A → Type 0) (P : A → Type 0) where
  -- if no element satisfies `P`, none is kept
  pub kept_nothing : (seen : List A) → ((x : A) → Contains seen x → P x → ⊥) → AreKept A R P seen []
  kept_nothing seen none = exactly_none (λ x. Contains seen x × P x) R (λ x h. none x h.0 h.1)

  -- before the first element
  pub kept_none : AreKept A R P [] []
  kept_none = kept_nothing [] (λ x h holds. let (k, within, is) = h in omega arith)

  -- the next element, if it satisfies `P`
  Here : A → A → Type 0
  Here x y = (x ≡ y) × P y

  -- once it is seen, the elements that satisfy `P` are the earlier ones and this one
  kept_more : (seen : List A) (x y : A) → ((Contains seen y × P y) ⊎ Here x y) ↔ (Contains (seen ++ x ∷ []) y × P y)
  unfolding Here
  kept_more seen x y = (
    λ h. elim h [
      | inl old ↦ (Contains-append_left seen (x ∷ []) y old.0, old.1)
      | inr new ↦ (subst (λ (z : A). Contains (seen ++ x ∷ []) z) new.0 (Contains-push seen x), new.1)
    ],
    λ h. elim (Contains-push_cases seen x y h.0) [ inl old ↦ inl (old, h.1) | inr same ↦ inr (same, h.1) ],
  )

  -- an element that satisfies `P` is kept
  pub kept_add : (seen kept : List A) (x : A) → AreKept A R P seen kept
      → ((y : A) → Contains seen y → R y x) → P x → AreKept A R P (seen ++ x ∷ []) (kept ++ x ∷ [])
  unfolding Here
  kept_add seen kept x r later holds =
      exactly_as (λ y. (Contains seen y × P y) ⊎ Here x y)
      (λ y. Contains (seen ++ x ∷ []) y × P y) R (kept ++ x ∷ []) (kept_more seen x)
      (exactly_add (λ y. Contains seen y × P y) (Here x) R kept x r (refl, holds) (λ y h. h.0) (λ y h. later y h.0))

  -- an element that doesn't is skipped
  pub kept_skip : (seen kept : List A) (x : A) → AreKept A R P seen kept
      → (P x → ⊥) → AreKept A R P (seen ++ x ∷ []) kept
  unfolding Here
  kept_skip seen kept x r fails =
      exactly_as (λ y. (Contains seen y × P y) ⊎ Here x y)
      (λ y. Contains (seen ++ x ∷ []) y × P y) R kept (kept_more seen x)
      (exactly_skip (λ y. Contains seen y × P y) (Here x) R kept r (λ y h. fails (subst P (sym h.0) h.1)))

  -- in an ordered list, the elements that were seen are before the one at i
  pub seen_before : (xs : List A) (i : ℕ) (d : A) → i < length xs
      → AllPairs R xs → (x : A) → Contains (take i xs) x → R x (get_or xs i d)
  seen_before xs i d within order x (k, below, is) =
      let l : length (take i xs) ≡ i = length-take-le i xs (omega arith) in
      let e : get_or (take i xs) k x ≡ get_or xs k x = get_or-take i xs k x (omega arith) in
      let f : get_or xs k x ≡ get_or xs k d = get_or_default xs k x d (omega arith) in
      subst (λ (y : A). R y (get_or xs i d)) (sym f ∙ sym e ∙ is) (order k i d (omega arith) within)

  module _ (xs : List A) (i : ℕ) (d : A) (within : i < length xs)
      (order : AllPairs R xs) (kept : List A) (r : AreKept A R P (take i xs) kept) where
    -- the element at i satisfies `P`, and is kept
    pub kept_add_at : P (get_or xs i d) → AreKept A R P (take (i + 1) xs) (kept ++ get_or xs i d ∷ [])
    kept_add_at holds =
        rw (take_more xs i d within)
        (kept_add (take i xs) kept (get_or xs i d) r (seen_before xs i d within order) holds)

    -- the element at i doesn't, and is skipped
    pub kept_skip_at : (P (get_or xs i d) → ⊥) → AreKept A R P (take (i + 1) xs) kept
    kept_skip_at fails = rw (take_more xs i d within) (kept_skip (take i xs) kept (get_or xs i d) r fails)

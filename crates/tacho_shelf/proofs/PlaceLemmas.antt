-- The place that a search finds is that of the driver, or of the record, that was looked for.
use Rattle.std.proofs.Common.{◌≡◌, ℕ, zero, suc, ◌+◌, ◌<◌, ◌==◌, Bool, true, false, cond, List, [], ◌∷◌, length, get_or, slice_get, Option, Some, None, position, refl, sym, ap, ◌∙◌, arith}
use Rattle.std.specs.List.{position_from}
use Rattle.std.proofs.lemmas.Bool.{eq-eqb}
use Rattle.std.proofs.lemmas.Bool.Decides.{nat_tests}
use Rattle.std.proofs.lemmas.List.Quantifiers.{position-Some}
use Rattle.std.proofs.lemmas.Iterator.Adapters.{position_from-zero}
use Rattle.tacho_state.specs.State.{Download, Driver, Entry, State, download_from, entry_from}
use Rattle.tacho_shelf.specs.Shelf.{IsIndexOf, numbered}

-- a search that goes through the drivers and stops at the first one who passes
module _ (p : Driver → Bool) (sought : State → Option Driver) (none : sought [] ≡ None) (step : (d : Driver) (s : State) → sought
    (d ∷ s) ≡ cond (p d) (Some d) (sought s)) where
  -- it finds the first driver who passes
  found_at : (s : State) (i : ℕ) (d : Driver) → i < length s → p (get_or s i d) ≡ true → ((k : ℕ) → k < i → p (get_or s k d) ≡ false)
      → slice_get s i ≡ sought s
  found_at [] i d l t f = absurd (omega (arith, l))
  found_at (x ∷ s) zero d l t f = sym (step x s ∙ ap (λ b. cond b (Some x) (sought s)) t)
  found_at (x ∷ s) (suc i) d l t f =
      found_at s i d (omega (arith, l)) t (λ k m. f (suc k) (omega (arith, m)))
      ∙ sym (step x s ∙ ap (λ b. cond b (Some x) (sought s)) (f 0 (omega arith)))

  -- if no driver passes, it finds none
  none_found : (s : State) (k : ℕ) → position_from p k s ≡ None → sought s ≡ None
  none_found [] k e = none
  none_found (x ∷ s) k e = step x s ∙ go (p x) e (none_found s (k + 1)) where
    go : (b : Bool) → cond b (Some k) (position_from p (k + 1) s) ≡ None → (position_from p (k + 1) s ≡ None → sought s ≡ None)
        → cond b (Some x) (sought s) ≡ None
    go true e more = cc
    go false e more = more e

  -- the place of the first driver who passes is that of the driver whom it finds
  pub place_found : (s : State) (o : Option ℕ) → o ≡ position p s → IsIndexOf s (sought s) o
  place_found s None e = none_found s 0 (sym (position_from-zero p s) ∙ sym e)
  place_found [] (Some i) e = cc
  place_found (x ∷ s) (Some i) e = let h = position-Some p (x ∷ s) i x (sym e) in (h.0, found_at (x ∷ s) i x h.0 h.1 h.2)

-- ---- records by their numbers

-- a search for the record with a number, if the first has number `i`
module _ {A : Type 0} (from : ℕ → ℕ → List A → Option A) (none : (i n : ℕ) → from i n [] ≡ None)
    (step : (i n : ℕ) (x : A) (xs : List A) → from i n (x ∷ xs) ≡ cond (i == n) (Some x) (from (i + 1) n xs)) where
  -- no record has a number below the first one's
  before : (i n : ℕ) (xs : List A) → n < i → from i n xs ≡ None
  before i n [] l = none i n
  before i n (x ∷ xs) l =
      let other : (i == n) ≡ false = grind (arith, nat_tests) in
      step i n x xs ∙ ap (λ b. cond b (Some x) (from (i + 1) n xs)) other ∙ before (i + 1) n xs (omega arith)

  -- the record with number `i + k` is at place `k`
  at_place : (i n k : ℕ) (xs : List A) → n ≡ i + k → from i n xs ≡ slice_get xs k
  at_place i n k [] e = none i n
  at_place i n zero (x ∷ xs) e =
      step i n x xs ∙ ap (λ b. cond b (Some x) (from (i + 1) n xs)) (eq-eqb i n (omega (arith, e)))
  at_place i n (suc k) (x ∷ xs) e =
      let other : (i == n) ≡ false = grind (arith, nat_tests) in
      step i n x xs ∙ ap (λ b. cond b (Some x) (from (i + 1) n xs)) other ∙ at_place (i + 1) n k xs (omega (arith, e))

  by_number : (n : ℕ) (xs : List A) → from 1 n xs ≡ numbered n xs
  by_number zero xs = before 1 0 xs (omega arith)
  by_number (suc k) xs = at_place 1 (suc k) k xs (omega arith)

pub download_numbered : (n : ℕ) (ds : List Download) → download_from 1 n ds ≡ numbered n ds
download_numbered n ds = by_number download_from (λ i j. refl) (λ i j d rest. refl) n ds

pub entry_numbered : (n : ℕ) (es : List Entry) → entry_from 1 n es ≡ numbered n es
entry_numbered n es = by_number entry_from (λ i j. refl) (λ i j e rest. refl) n es

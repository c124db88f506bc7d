-- Drivers with numbers, keys and holders of their own: in another order, carried over, and found.
use Rattle.std.proofs.Common.{◌≡◌, ◌≢◌, ◌∙◌, ◌<◌, ◌==◌, ℕ, zero, suc, not, Bool, true, false, cond, List, [], ◌∷◌, length, get_or, filter}
use Rattle.std.proofs.Common.{map, Some, None, refl, sym, ap, subst, arith}
use Rattle.std.specs.List.{AllByRecursion, swap}
use Rattle.std.specs.List.Sorted.{IsPermutation}
use Rattle.std.specs.Str.{bytes_eq}
use Rattle.std.proofs.lemmas.Bool.Decides.{nat_tests}
use Rattle.std.proofs.lemmas.List.Edits.{Swapped, length-swap, swapped_from_swap}
use Rattle.std.proofs.lemmas.List.Elements.{All-filter, All-from_get_or, All-from_recursion, All-get_or}
use Rattle.std.proofs.lemmas.List.Elements.{All-map, All-weaker, recursion_from_All}
use Rattle.std.proofs.lemmas.List.Sorted.{IsPermutation-keeps}
use Rattle.tacho_state.specs.Distinct.{AreDistinct}
use Rattle.tacho_state.specs.State.{Driver, State, driver_of, driver_with_key, holding, put}
use Rattle.tacho_state.proofs.DistinctLemmas.{found_not}
use Rattle.tacho_state.proofs.EqualLemmas.{bytes_not, bytes_true, eq_false, eq_not, eq_self, eq_true}
use Rattle.tacho_carry.specs.Carried.{carried, carried_driver, is_left_out}

-- ---- drivers who are apart

-- the second driver has another number, key and holder than the first
abbrev pub IsOther : Driver → Driver → Type 0
IsOther x d = (d.number ≢ x.number) × (d.key ≢ x.key) × (d.holder ≢ x.holder)

-- then so has the first one
apart_back : (x d : Driver) → IsOther x d → IsOther d x
apart_back x d h = ((λ e. h.0 (sym e)), (λ e. h.1 (sym e)), (λ e. h.2 (sym e)))

-- of distinct drivers, those after the first are apart from the first
pub first_apart : (x : Driver) (s : State) → AreDistinct (x ∷ s) → AllByRecursion (IsOther x) s
first_apart x [] h = tt
first_apart x (d ∷ s) h = ((h.0.0, h.1.0, h.2.0), first_apart x s (h.0.1, h.1.1, h.2.1, h.3.3))

-- drivers stay distinct with one more before them who is apart from them
distinct_more : (x : Driver) (s : State) → AllByRecursion (IsOther x) s → AreDistinct s → AreDistinct (x ∷ s)
distinct_more x [] a h = (tt, tt, tt, tt)
distinct_more x (d ∷ s) a h = let more = distinct_more x s a.1 h.3 in ((a.0.0, more.0), (a.0.1, more.1), (a.0.2, more.2), h)

-- ---- drivers in another order

-- any two drivers are apart
abbrev AreApart : State → Type 0
AreApart s = (i j : ℕ) (d : Driver) → i < length s → j < length s → i ≢ j → IsOther (get_or s i d) (get_or s j d)

-- of distinct drivers any two are apart
distinct_apart : (s : State) → AreDistinct s → AreApart s
distinct_apart [] h i j d k l other = absurd (omega (arith, k))
distinct_apart (x ∷ s) h zero zero d k l other = absurd (other refl)
distinct_apart (x ∷ s) h zero (suc j) d k l other =
    All-get_or (IsOther x) s j d (omega (arith, l)) (All-from_recursion (IsOther x) s (first_apart x s h))
distinct_apart (x ∷ s) h (suc i) zero d k l other =
    apart_back x (get_or s i d) (All-get_or (IsOther x) s i d (omega (arith, k)) (All-from_recursion (IsOther x) s (first_apart x s h)))
distinct_apart (x ∷ s) h (suc i) (suc j) d k l other =
    distinct_apart s h.3 i j d (omega (arith, k)) (omega (arith, l)) (λ e. other (ap suc e))

-- drivers any two of whom are apart are distinct
apart_distinct : (s : State) → AreApart s → AreDistinct s
apart_distinct [] h = tt
apart_distinct (x ∷ s) h =
    distinct_more x s
    (recursion_from_All (IsOther x) s
    (All-from_get_or (IsOther x) s x (λ i l. h 0 (suc i) x (omega arith) (omega (arith, l)) (λ e. absurd (omega (arith, e))))))
    (apart_distinct s (λ i j d k l other. h (suc i) (suc j) d (omega (arith, k)) (omega (arith, l)) (λ e. other (omega (arith, e)))))

-- any two stay apart if two change places
swap_apart : (s : State) (a b : ℕ) → a < length s → b < length s → AreApart s → AreApart (swap s a b)
swap_apart s a b p q h i j d k l other =
    let long = length-swap s a b in
    rw (from i, from j) (h (place i) (place j) d (grind (arith, nat_tests)) (grind (arith, nat_tests))
    (λ e. let wrong : ⊥ = grind (arith, nat_tests) in wrong)) where
      place : ℕ → ℕ
      place m = cond (m == a) b (cond (m == b) a m)

      from : (m : ℕ) → get_or (swap s a b) m d ≡ get_or s (place m) d
      from m = go (m == a) refl (m == b) refl where
        moved : Swapped (λ n. get_or s n d) (λ n. get_or (swap s a b) n d) a b
        moved = swapped_from_swap s (swap s a b) a b d p q refl

        go : (t : Bool) → (m == a) ≡ t → (u : Bool) → (m == b) ≡ u → get_or (swap s a b) m d ≡ get_or s (cond t b (cond u a m)) d
        go true e u f = ap (λ n. get_or (swap s a b) n d) (eq_true m a e) ∙ moved.0
        go false e true f = ap (λ n. get_or (swap s a b) n d) (eq_true m b f) ∙ moved.1
        go false e false f = moved.2 m (eq_false m a e) (eq_false m b f)

-- distinct drivers are distinct in another order
pub distinct_ordered : (s t : State) → IsPermutation s t → AreDistinct s → AreDistinct t
distinct_ordered s t same h = apart_distinct t (IsPermutation-keeps s AreApart (distinct_apart s h) swap_apart t same)

-- ---- drivers who are carried

-- the driver is carried
abbrev is_carried : ℕ → Driver → Bool
is_carried day d = not (is_left_out day d)

-- what holds of all drivers, and stays so of each who is carried, holds of all who are carried
pub all_carried : (day : ℕ) (P : Driver → Type 0) (s : State) → ((d : Driver) → P d → P (carried_driver day d)) → AllByRecursion P s
    → AllByRecursion P (carried day s)
all_carried day P s to h =
    let kept = filter (is_carried day) s in
    let all = All-weaker P (λ d. P (carried_driver day d)) to kept (All-filter (is_carried day) P s (All-from_recursion P s h)) in
    recursion_from_All P (carried day s) (All-map P (carried_driver day) kept all)

-- distinct drivers who are carried are distinct
pub distinct_carried : (day : ℕ) (s : State) → AreDistinct s → AreDistinct (carried day s)
distinct_carried day [] h = tt
distinct_carried day (x ∷ s) h = go (is_carried day x) (distinct_carried day s h.3) where
  go : (b : Bool) → AreDistinct (carried day s)
      → AreDistinct (map (carried_driver day) (cond b (x ∷ filter (is_carried day) s) (filter (is_carried day) s)))
  go true more =
      distinct_more (carried_driver day x) (carried day s)
      (all_carried day (IsOther x) s (λ d f. f) (first_apart x s h)) more
  go false more = more

-- ---- drivers who are found

-- if all drivers are apart from one, none is found by that one's number, key and holder
pub apart_none : (d : Driver) (s : State) → AllByRecursion (IsOther d) s
    → (driver_of d.number s ≡ None) × (driver_with_key d.key s ≡ None) × (holding d.holder s ≡ None)
apart_none d [] h = (refl, refl, refl)
apart_none d (x ∷ s) h =
    let more = apart_none d s h.1 in (
      rw (eq_not x.number d.number h.0.0) more.0,
      rw (bytes_not x.key d.key h.0.1) more.1,
      rw (bytes_not x.holder d.holder h.0.2) more.2,
    )

-- the driver whose card has a holder has it, and is found by their number
pub holding_found : (holder : List ℕ) (s : State) (d : Driver) → AreDistinct s → holding holder s ≡ Some d
    → (d.holder ≡ holder) × (driver_of d.number s ≡ Some d)
holding_found holder [] d h e = cc
holding_found holder (x ∷ s) d h e = go (bytes_eq x.holder holder) refl e (holding_found holder s d h.3) where
  go : (b : Bool) → bytes_eq x.holder holder ≡ b → cond b (Some x) (holding holder s) ≡ Some d
      → (holding holder s ≡ Some d → (d.holder ≡ holder) × (driver_of d.number s ≡ Some d))
      → (d.holder ≡ holder) × (driver_of d.number (x ∷ s) ≡ Some d)
  go true o f more =
      let same : x ≡ d = cc in
      subst (λ (y : Driver). (y.holder ≡ holder) × (driver_of y.number (x ∷ s) ≡ Some y)) same
      (bytes_true x.holder holder o, ap (λ b. cond b (Some x) (driver_of x.number s)) (eq_self x.number))
  go false o f more =
      let it = more f in
      let other : x.number ≢ d.number = (λ e. found_not x.number s d (rw e it.1) h.0) in
      (it.0, ap (λ b. cond b (Some x) (driver_of d.number s)) (eq_not x.number d.number other) ∙ it.1)

-- ---- a driver is put in place of another

-- what holds of all drivers, and of the new one, holds of all then
pub all_put : (P : Driver → Type 0) (d : Driver) (s : State) → P d → AllByRecursion P s → AllByRecursion P (put d s)
all_put P d [] own h = tt
all_put P d (x ∷ s) own h = go (x.number == d.number) (all_put P d s own h.1) where
  go : (b : Bool) → AllByRecursion P (put d s) → AllByRecursion P (cond b (d ∷ s) (x ∷ put d s))
  go true more = (own, h.1)
  go false more = (h.0, more)

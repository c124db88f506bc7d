-- A state with another driver in place of the one with the same number.
use Rattle.std.proofs.Common.{◌≡◌, ◌≢◌, ℕ, ◌==◌, Bool, true, false, cond, List, [], ◌∷◌, Option, Some, refl, sym, ap, ◌∙◌, subst, bytes_eq}
use Rattle.std.specs.List.{AllByRecursion}
use Rattle.std.specs.Prelude.{option_map}
use Rattle.tacho_state.specs.State.{Driver, State, driver_of, driver_with_key, put}
use Rattle.tacho_state.proofs.EqualLemmas.{eq_not, eq_self, eq_true}

-- a driver who is found by a number has this number
pub found_number : (n : ℕ) (s : State) (d : Driver) → driver_of n s ≡ Some d → d.number ≡ n
found_number n [] d e = cc
found_number n (x ∷ s) d e = go (x.number == n) refl e (found_number n s d) where
  go : (b : Bool) → (x.number == n) ≡ b → cond b (Some x) (driver_of n s) ≡ Some d → (driver_of n s ≡ Some d → d.number ≡ n) → d.number ≡ n
  go true o f more = let same : x ≡ d = cc in ap (λ (y : Driver). y.number) (sym same) ∙ eq_true x.number n o
  go false o f more = more f

-- the new driver is found by the number
pub put_found : (d old : Driver) (s : State) → driver_of d.number s ≡ Some old → driver_of d.number (put d s) ≡ Some d
put_found d old [] e = cc
put_found d old (x ∷ s) e = go (x.number == d.number) refl e (put_found d old s) where
  go : (b : Bool) → (x.number == d.number) ≡ b → cond b (Some x) (driver_of d.number s) ≡ Some old
      → (driver_of d.number s ≡ Some old → driver_of d.number (put d s) ≡ Some d)
      → driver_of d.number (cond b (d ∷ s) (x ∷ put d s)) ≡ Some d
  go true o e more = ap (λ b. cond b (Some d) (driver_of d.number s)) (eq_self d.number)
  go false o e more = ap (λ b. cond b (Some x) (driver_of d.number (put d s))) o ∙ more e

-- drivers with other numbers stay
pub put_other : (d : Driver) (n : ℕ) (s : State) → n ≢ d.number → driver_of n (put d s) ≡ driver_of n s
put_other d n [] other = refl
put_other d n (x ∷ s) other = go (x.number == d.number) refl (put_other d n s other) where
  go : (b : Bool) → (x.number == d.number) ≡ b → driver_of n (put d s) ≡ driver_of n s
      → driver_of n (cond b (d ∷ s) (x ∷ put d s)) ≡ cond (x.number == n) (Some x) (driver_of n s)
  go true o more =
      ap (λ b. cond b (Some d) (driver_of n s)) (eq_not d.number n (λ e. other (sym e)))
      ∙ sym (ap (λ b. cond b (Some x) (driver_of n s)) (eq_not x.number n (λ e. other (sym e ∙ eq_true x.number d.number o))))
  go false o more = ap (λ (r : Option Driver). cond (x.number == n) (Some x) r) more

-- of two drivers with one number, the second stays
pub put_twice : (d first : Driver) (s : State) → first.number ≡ d.number → put d (put first s) ≡ put d s
put_twice d first [] same = refl
put_twice d first (x ∷ s) same = go (x.number == first.number) refl (put_twice d first s same) where
  go : (b : Bool) → (x.number == first.number) ≡ b → put d (put first s) ≡ put d s
      → put d (cond b (first ∷ s) (x ∷ put first s)) ≡ cond (x.number == d.number) (d ∷ s) (x ∷ put d s)
  go true o more =
      ap (λ b. cond b (d ∷ s) (first ∷ put d s)) (subst (λ (k : ℕ). (k == d.number) ≡ true) (sym same) (eq_self d.number))
      ∙ sym (ap (λ b. cond b (d ∷ s) (x ∷ put d s)) (subst (λ (k : ℕ). (x.number == k) ≡ true) same o))
  go false o more =
      let not_here : (x.number == d.number) ≡ false = subst (λ (k : ℕ). (x.number == k) ≡ false) same o in
      ap (λ b. cond b (d ∷ put first s) (x ∷ put d (put first s))) not_here ∙ ap (λ (r : State). x ∷ r) more
      ∙ sym (ap (λ b. cond b (d ∷ s) (x ∷ put d s)) not_here)

-- a driver who is put in their own place changes nothing
pub put_same : (d : Driver) (s : State) → driver_of d.number s ≡ Some d → put d s ≡ s
put_same d [] e = refl
put_same d (x ∷ s) e = go (x.number == d.number) refl e (put_same d s) where
  go : (b : Bool) → (x.number == d.number) ≡ b → cond b (Some x) (driver_of d.number s) ≡ Some d
      → (driver_of d.number s ≡ Some d → put d s ≡ s) → cond b (d ∷ s) (x ∷ put d s) ≡ x ∷ s
  go true o e more = let same : x ≡ d = cc in ap (λ (y : Driver). y ∷ s) (sym same)
  go false o e more = ap (λ (r : State). x ∷ r) (more e)

-- if the new driver has the key of the old one, each key is of the driver it was of
pub put_keys : (d old : Driver) (key : List ℕ) (s : State) → driver_of d.number s ≡ Some old → d.key ≡ old.key
    → option_map (λ (x : Driver). x.number) (driver_with_key key (put d s)) ≡ option_map (λ (x : Driver). x.number) (driver_with_key key s)
put_keys d old key [] e same = refl
put_keys d old key (x ∷ s) e same = go (x.number == d.number) refl e (λ f. put_keys d old key s f same) where
  go : (b : Bool) → (x.number == d.number) ≡ b → cond b (Some x) (driver_of d.number s) ≡ Some old
      → (driver_of d.number s ≡ Some old → option_map (λ (y : Driver). y.number) (driver_with_key key (put d s))
      ≡ option_map (λ (y : Driver). y.number) (driver_with_key key s))
      → option_map (λ (y : Driver). y.number) (driver_with_key key (cond b (d ∷ s) (x ∷ put d s)))
      ≡ option_map (λ (y : Driver). y.number) (cond (bytes_eq x.key key) (Some x) (driver_with_key key s))
  go true o f more =
      let is : x ≡ old = cc in
      let k : d.key ≡ x.key = same ∙ ap (λ (y : Driver). y.key) (sym is) in
      ap (λ (w : List ℕ). option_map (λ (y : Driver). y.number) (cond (bytes_eq w key) (Some d) (driver_with_key key s))) k
      ∙ here (bytes_eq x.key key) where
        here : (c : Bool) → option_map (λ (y : Driver). y.number) (cond c (Some d) (driver_with_key key s))
            ≡ option_map (λ (y : Driver). y.number) (cond c (Some x) (driver_with_key key s))
        here true = ap (λ (k : ℕ). Some k) (sym (eq_true x.number d.number o))
        here false = refl
  go false o f more = here (bytes_eq x.key key) where
    here : (c : Bool) → option_map (λ (y : Driver). y.number) (cond c (Some x) (driver_with_key key (put d s)))
        ≡ option_map (λ (y : Driver). y.number) (cond c (Some x) (driver_with_key key s))
    here true = refl
    here false = more f

-- what holds of all drivers holds of the one with a number
pub found_all : (P : Driver → Type 0) (n : ℕ) (s : State) (d : Driver) → AllByRecursion P s → driver_of n s ≡ Some d → P d
found_all P n [] d h e = cc
found_all P n (x ∷ s) d h e = go (x.number == n) e (found_all P n s d h.1) where
  go : (b : Bool) → cond b (Some x) (driver_of n s) ≡ Some d → (driver_of n s ≡ Some d → P d) → P d
  go true f more = let same : x ≡ d = cc in subst P same h.0
  go false f more = more f

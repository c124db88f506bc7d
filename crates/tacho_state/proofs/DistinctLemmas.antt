-- Drivers with numbers, keys and holders of their own, one of whom changes, and one more.
use Rattle.std.proofs.Common.{◌≡◌, ◌≢◌, ◌∙◌, ℕ, ◌==◌, not, Bool, true, false, cond, List, [], ◌∷◌, ◌++◌, Some, None, refl, sym, ap, subst, bytes_eq}
use Rattle.tacho_state.specs.Distinct.{HasNot, HasNoKey, IsHolderFree, AreDistinct}
use Rattle.tacho_state.specs.State.{Driver, State, driver_of, driver_with_key, holding, put}
use Rattle.tacho_state.specs.Steps.{is_another}
use Rattle.tacho_state.proofs.EqualLemmas.{bytes_false, bytes_true, eq_false, eq_true}

-- ---- one of the drivers

-- if the first driver has the number, it is the driver who is found
pub found_head : (n : ℕ) (x old : Driver) (s : State) → driver_of n (x ∷ s) ≡ Some old → (x.number == n) ≡ true → x ≡ old
found_head n x old s e t = let same : Some x ≡ Some old = sym (ap (λ b. cond b (Some x) (driver_of n s)) t) ∙ e in cc

-- if the first driver has another number, the search continues
pub found_tail : (n : ℕ) (x old : Driver) (s : State) → driver_of n (x ∷ s) ≡ Some old → (x.number == n) ≡ false → driver_of n s ≡ Some old
found_tail n x old s e t = sym (ap (λ b. cond b (Some x) (driver_of n s)) t) ∙ e

-- a number by which a driver is found is in the state
pub found_not : (n : ℕ) (s : State) (d : Driver) → driver_of n s ≡ Some d → HasNot n s → ⊥
found_not n [] d e h = cc
found_not n (x ∷ s) d e h = go (x.number == n) refl e (λ f. found_not n s d f h.1) where
  go : (b : Bool) → (x.number == n) ≡ b → cond b (Some x) (driver_of n s) ≡ Some d → (driver_of n s ≡ Some d → ⊥) → ⊥
  go true o f more = h.0 (eq_true x.number n o)
  go false o f more = more f

-- ---- a driver is put in place of another

-- no new number is added
pub has_put : (n : ℕ) (d : Driver) (s : State) → HasNot n s → HasNot n (put d s)
has_put n d [] h = tt
has_put n d (x ∷ s) h = go (x.number == d.number) refl (has_put n d s h.1) where
  go : (b : Bool) → (x.number == d.number) ≡ b → HasNot n (put d s) → HasNot n (cond b (d ∷ s) (x ∷ put d s))
  go true o more = ((λ e. h.0 (eq_true x.number d.number o ∙ e)), h.1)
  go false o more = (h.0, more)

-- no number is removed
pub put_has : (n : ℕ) (d : Driver) (s : State) → HasNot n (put d s) → HasNot n s
put_has n d [] h = tt
put_has n d (x ∷ s) h = go (x.number == d.number) refl h (put_has n d s) where
  go : (b : Bool) → (x.number == d.number) ≡ b → HasNot n (cond b (d ∷ s) (x ∷ put d s)) → (HasNot n (put d s) → HasNot n s)
      → HasNot n (x ∷ s)
  go true o w more = ((λ e. w.0 (sym (eq_true x.number d.number o) ∙ e)), w.1)
  go false o w more = (w.0, more w.1)

-- no driver with another number has the key
abbrev pub IsKeyFreeFor : ℕ → List ℕ → State → Type 0
IsKeyFreeFor n key [] = Unit {0}
IsKeyFreeFor n key (x ∷ s) = (x.number ≢ n → x.key ≢ key) × IsKeyFreeFor n key s

-- a key that nobody has is free for each driver
pub nobody_has : (n : ℕ) (key : List ℕ) (s : State) → HasNoKey key s → IsKeyFreeFor n key s
nobody_has n key [] h = tt
nobody_has n key (x ∷ s) h = ((λ o. h.0), nobody_has n key s h.1)

-- a key that is free for a driver who isn't in the state is nobody's
pub has_nobody : (n : ℕ) (key : List ℕ) (s : State) → HasNot n s → IsKeyFreeFor n key s → HasNoKey key s
has_nobody n key [] o h = tt
has_nobody n key (x ∷ s) o h = (h.0 o.0, has_nobody n key s o.1 h.1)

-- a driver who is found has a key that somebody has
pub found_key : (n : ℕ) (key : List ℕ) (s : State) (d : Driver) → driver_of n s ≡ Some d → HasNoKey key s → d.key ≢ key
found_key n key [] d e h = cc
found_key n key (x ∷ s) d e h = go (x.number == n) e (λ w. found_key n key s d w h.1) where
  go : (b : Bool) → cond b (Some x) (driver_of n s) ≡ Some d → (driver_of n s ≡ Some d → d.key ≢ key) → d.key ≢ key
  go true f more = let same : x ≡ d = cc in subst (λ (y : Driver). y.key ≢ key) same h.0
  go false f more = more f

-- a driver's own key is free for them
pub own_key : (n : ℕ) (s : State) (d : Driver) → driver_of n s ≡ Some d → AreDistinct s → IsKeyFreeFor n d.key s
own_key n [] d e h = tt
own_key n (x ∷ s) d e h = go (x.number == n) refl (λ w. own_key n s d w h.3) where
  go : (b : Bool) → (x.number == n) ≡ b → (driver_of n s ≡ Some d → IsKeyFreeFor n d.key s) → IsKeyFreeFor n d.key (x ∷ s)
  go true o more = (
    (λ other. absurd (other (eq_true x.number n o))),
    nobody_has n d.key s (subst (λ (y : Driver). HasNoKey y.key s) (found_head n x d s e o) h.1),
  )
  go false o more =
      let tail = found_tail n x d s e o in
      ((λ other same. found_key n x.key s d tail h.1 (sym same)), more tail)

-- no key is added but the new driver's
pub no_key_put : (key : List ℕ) (d : Driver) (s : State) → d.key ≢ key → HasNoKey key s → HasNoKey key (put d s)
no_key_put key d [] o h = tt
no_key_put key d (x ∷ s) o h = go (x.number == d.number) (no_key_put key d s o h.1) where
  go : (b : Bool) → HasNoKey key (put d s) → HasNoKey key (cond b (d ∷ s) (x ∷ put d s))
  go true more = (o, h.1)
  go false more = (h.0, more)

-- no new holder is added
pub no_holder_put : (holder : List ℕ) (n : ℕ) (d old : Driver) (s : State) → driver_of n s ≡ Some old → d.number ≡ n → d.holder ≡ old.holder
    → IsHolderFree holder s → IsHolderFree holder (put d s)
no_holder_put holder n d old [] e k same h = tt
no_holder_put holder n d old (x ∷ s) e k same h = go (x.number == d.number) refl (λ w. no_holder_put holder n d old s w k same h.1) where
  go : (b : Bool) → (x.number == d.number) ≡ b → (driver_of n s ≡ Some old → IsHolderFree holder (put d s))
      → IsHolderFree holder (cond b (d ∷ s) (x ∷ put d s))
  go true o more =
      let here : (x.number == n) ≡ true = subst (λ (j : ℕ). (x.number == j) ≡ true) k o in
      ((λ g. h.0 (ap (λ (y : Driver). y.holder) (found_head n x old s e here) ∙ sym same ∙ g)), h.1)
  go false o more = (h.0, more (found_tail n x old s e (subst (λ (j : ℕ). (x.number == j) ≡ false) k o)))

-- drivers stay distinct if nobody else has the new driver's key
pub distinct_put : (n : ℕ) (d old : Driver) (s : State) → driver_of n s ≡ Some old → d.number ≡ n → IsKeyFreeFor n d.key s
    → d.holder ≡ old.holder → AreDistinct s → AreDistinct (put d s)
distinct_put n d old [] e k free same h = tt
distinct_put n d old (x ∷ s) e k free same h =
    go (x.number == d.number) refl (λ w. distinct_put n d old s w k free.1 same h.3) where
      go : (b : Bool) → (x.number == d.number) ≡ b → (driver_of n s ≡ Some old → AreDistinct (put d s))
          → AreDistinct (cond b (d ∷ s) (x ∷ put d s))
      go true o more =
          let is = eq_true x.number d.number o in
          let head = found_head n x old s e (subst (λ (j : ℕ). (x.number == j) ≡ true) k o) in (
            subst (λ (j : ℕ). HasNot j s) is h.0,
            has_nobody n d.key s (subst (λ (j : ℕ). HasNot j s) (is ∙ k) h.0) free.1,
            subst (λ (j : List ℕ). IsHolderFree j s) (ap (λ (y : Driver). y.holder) head ∙ sym same) h.2,
            h.3,
          )
      go false o more =
          let there : (x.number == n) ≡ false = subst (λ (j : ℕ). (x.number == j) ≡ false) k o in
          let tail = found_tail n x old s e there in (
            has_put x.number d s h.0,
            no_key_put x.key d s (λ key. free.0 (eq_false x.number n there) (sym key)) h.1,
            no_holder_put x.holder n d old s tail k same h.2,
            more tail,
          )

-- ---- a driver at the end

-- a number that wasn't found isn't in the state
pub number_not : (n : ℕ) (s : State) → driver_of n s ≡ None → HasNot n s
number_not n [] e = tt
number_not n (x ∷ s) e = go (x.number == n) refl e (number_not n s) where
  go : (b : Bool) → (x.number == n) ≡ b → cond b (Some x) (driver_of n s) ≡ None → (driver_of n s ≡ None → HasNot n s) → HasNot n (x ∷ s)
  go true o f more = cc
  go false o f more = (eq_false x.number n o, more f)

-- a key that wasn't found isn't in the state
pub key_not : (key : List ℕ) (s : State) → driver_with_key key s ≡ None → HasNoKey key s
key_not key [] e = tt
key_not key (x ∷ s) e = go (bytes_eq x.key key) refl e (key_not key s) where
  go : (b : Bool) → bytes_eq x.key key ≡ b → cond b (Some x) (driver_with_key key s) ≡ None → (driver_with_key key s ≡ None → HasNoKey key s)
      → HasNoKey key (x ∷ s)
  go true o f more = cc
  go false o f more = (bytes_false x.key key o, more f)

-- a holder that wasn't found isn't in the state
pub holder_not : (holder : List ℕ) (s : State) → holding holder s ≡ None → IsHolderFree holder s
holder_not holder [] e = tt
holder_not holder (x ∷ s) e = go (bytes_eq x.holder holder) refl e (holder_not holder s) where
  go : (b : Bool) → bytes_eq x.holder holder ≡ b → cond b (Some x) (holding holder s) ≡ None
      → (holding holder s ≡ None → IsHolderFree holder s) → IsHolderFree holder (x ∷ s)
  go true o f more = cc
  go false o f more = (bytes_false x.holder holder o, more f)

-- the new driver has another number
pub has_added : (n : ℕ) (s : State) (d : Driver) → HasNot n s → d.number ≢ n → HasNot n (s ++ d ∷ [])
has_added n [] d h o = (o, tt)
has_added n (x ∷ s) d h o = (h.0, has_added n s d h.1 o)

-- the new driver has another key
pub no_key_added : (key : List ℕ) (s : State) (d : Driver) → HasNoKey key s → d.key ≢ key → HasNoKey key (s ++ d ∷ [])
no_key_added key [] d h o = (o, tt)
no_key_added key (x ∷ s) d h o = (h.0, no_key_added key s d h.1 o)

-- the new driver has another holder
pub no_holder_added : (holder : List ℕ) (s : State) (d : Driver) → IsHolderFree holder s → d.holder ≢ holder → IsHolderFree holder (s ++ d ∷ [])
no_holder_added holder [] d h o = (o, tt)
no_holder_added holder (x ∷ s) d h o = (h.0, no_holder_added holder s d h.1 o)

-- a number that isn't in the state with the new driver isn't in the state without them
pub added_has : (n : ℕ) (s : State) (d : Driver) → HasNot n (s ++ d ∷ []) → HasNot n s
added_has n [] d h = tt
added_has n (x ∷ s) d h = (h.0, added_has n s d h.1)

-- drivers stay distinct
pub distinct_added : (s : State) (d : Driver) → HasNot d.number s → HasNoKey d.key s → IsHolderFree d.holder s → AreDistinct s
    → AreDistinct (s ++ d ∷ [])
distinct_added [] d n k o h = (tt, tt, tt, tt)
distinct_added (x ∷ s) d n k o h = (
  has_added x.number s d h.0 (λ e. n.0 (sym e)),
  no_key_added x.key s d h.1 (λ e. k.0 (sym e)),
  no_holder_added x.holder s d h.2 (λ e. o.0 (sym e)),
  distinct_added s d n.1 k.1 o.1 h.3,
)

-- if the key isn't another driver's, it is free for the driver
pub key_free : (n : ℕ) (key : List ℕ) (s : State) → AreDistinct s → is_another n (driver_with_key key s) ≡ false → IsKeyFreeFor n key s
key_free n key [] h e = tt
key_free n key (x ∷ s) h e = go (bytes_eq x.key key) refl e (key_free n key s h.3) where
  own : (b : Bool) → (x.number == n) ≡ b → not b ≡ false → x.number ≡ n
  own true o f = eq_true x.number n o
  own false o f = cc

  go : (b : Bool) → bytes_eq x.key key ≡ b → is_another n (cond b (Some x) (driver_with_key key s)) ≡ false
      → (is_another n (driver_with_key key s) ≡ false → IsKeyFreeFor n key s) → IsKeyFreeFor n key (x ∷ s)
  go true o f more = (
    (λ other. absurd (other (own (x.number == n) refl f))),
    nobody_has n key s (subst (λ (k : List ℕ). HasNoKey k s) (bytes_true x.key key o) h.1),
  )
  go false o f more = ((λ _. bytes_false x.key key o), more f)

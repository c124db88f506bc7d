-- Whose a key is after a change of a driver's key.
use Rattle.std.proofs.Common.{◌≡◌, ◌≢◌, ◌∙◌, ◌==◌, ℕ, Bool, true, false, cond, not, List, [], ◌∷◌, Option, None, Some, Ok, bytes_eq, refl, sym, ap, subst}
use Rattle.std.specs.Prelude.{option_map}
use Rattle.tacho_state.specs.Distinct.{AreDistinct, HasNoKey}
use Rattle.tacho_state.specs.State.{Driver, State, driver_of, driver_with_key, put, with_key}
use Rattle.tacho_state.specs.Steps.{is_another, owner, own_turn, refusal_turn, rekey_own, rekey_step}
use Rattle.tacho_state.specs.declared.fault.StoreFault.TheVariants.{KeyTaken}
use Rattle.tacho_state.proofs.EqualLemmas.{bytes_eq_self, bytes_not}
use Rattle.tacho_state.proofs.DistinctLemmas.{found_key}
use Rattle.tacho_state.proofs.PutLemmas.{found_number}

-- a key that nobody has is found of nobody
not_found : (key : List ℕ) (s : State) → HasNoKey key s → driver_with_key key s ≡ None
not_found key [] h = refl
not_found key (x ∷ s) h =
    ap (λ b. cond b (Some x) (driver_with_key key s)) (bytes_not x.key key h.0) ∙ not_found key s h.1

-- a change of a key that was done: its driver is there, no other driver has the key, and the driver gets it
done : (n : ℕ) (key : List ℕ) (s : State) → (rekey_step n key s).answer ≡ Ok tt
    → (d : Driver) × (driver_of n s ≡ Some d) × (is_another n (driver_with_key key s) ≡ false)
    × ((rekey_step n key s).after ≡ put (with_key key d) s)
done n key s ok = go (is_another n (driver_with_key key s)) refl (driver_of n s) refl ok where
  go : (b : Bool) → is_another n (driver_with_key key s) ≡ b → (o : Option Driver) → driver_of n s ≡ o
      → (cond b (refusal_turn KeyTaken s) (own_turn (rekey_own key) s o)).answer ≡ Ok tt
      → (d : Driver) × (driver_of n s ≡ Some d) × (is_another n (driver_with_key key s) ≡ false)
      × ((rekey_step n key s).after ≡ put (with_key key d) s)
  go true taken o is answer = cc
  go false free None is answer = cc
  go false free (Some d) is answer = (d, is, free, rw (free, is) refl)

-- the driver who gets the key is found by it
found_by_key : (key : List ℕ) (d : Driver) (s : State) → driver_of d.number s ≡ Some d
    → is_another d.number (driver_with_key key s) ≡ false → driver_with_key key (put (with_key key d) s) ≡ Some (with_key key d)
found_by_key key d [] is free = cc
found_by_key key d (x ∷ s) is free = go (x.number == d.number) refl (bytes_eq x.key key) refl is free (found_by_key key d s) where
  go : (b : Bool) → (x.number == d.number) ≡ b → (c : Bool) → bytes_eq x.key key ≡ c → cond b (Some x) (driver_of d.number s) ≡ Some d
      → is_another d.number (cond c (Some x) (driver_with_key key s)) ≡ false
      → (driver_of d.number s ≡ Some d → is_another d.number (driver_with_key key s) ≡ false
      → driver_with_key key (put (with_key key d) s) ≡ Some (with_key key d))
      → driver_with_key key (cond b (with_key key d ∷ s) (x ∷ put (with_key key d) s)) ≡ Some (with_key key d)
  go true o c p f h more = ap (λ y. cond y (Some (with_key key d)) (driver_with_key key s)) (bytes_eq_self key)
  go false o true p f h more = let other : not false ≡ false = subst (λ y. not y ≡ false) o h in cc
  go false o false p f h more =
      ap (λ y. cond y (Some x) (driver_with_key key (put (with_key key d) s))) p ∙ more f h

-- the key before is nobody's
before_gone : (key : List ℕ) (d : Driver) (s : State) → AreDistinct s → driver_of d.number s ≡ Some d → key ≢ d.key
    → HasNoKey d.key (put (with_key key d) s)
before_gone key d [] distinct is other = tt
before_gone key d (x ∷ s) distinct is other = go (x.number == d.number) is (before_gone key d s distinct.3) where
  go : (b : Bool) → cond b (Some x) (driver_of d.number s) ≡ Some d
      → (driver_of d.number s ≡ Some d → key ≢ d.key → HasNoKey d.key (put (with_key key d) s))
      → HasNoKey d.key (cond b (with_key key d ∷ s) (x ∷ put (with_key key d) s))
  go true f more = let same : x ≡ d = cc in (other, subst (λ (y : Driver). HasNoKey y.key s) same distinct.1)
  go false f more = ((λ e. found_key d.number x.key s d f distinct.1 (sym e)), more f other)

-- a driver who was found, found by their own number
own_number : (n : ℕ) (s : State) (d : Driver) → driver_of n s ≡ Some d → driver_of d.number s ≡ Some d
own_number n s d is = subst (λ k. driver_of k s ≡ Some d) (sym (found_number n s d is)) is

-- the new key is the driver's
pub is_theirs : (s : State) (n : ℕ) (key : List ℕ) → (rekey_step n key s).answer ≡ Ok tt
    → owner key (rekey_step n key s).after ≡ Ok (Some n)
is_theirs s n key ok =
    let it = done n key s ok in
    let number = found_number n s it.0 it.1 in
    let found = found_by_key key it.0 s (own_number n s it.0 it.1)
    (subst (λ k. is_another k (driver_with_key key s) ≡ false) (sym number) it.2) in
    ap (owner key) it.3 ∙ ap (λ (o : Option Driver). Ok (option_map (λ (d : Driver). d.number) o)) found ∙ ap (λ k. Ok (Some k)) number

-- the one before is nobody's
pub is_nobodys : (s : State) (n : ℕ) (key : List ℕ) (d : Driver) → AreDistinct s → driver_of n s ≡ Some d → key ≢ d.key
    → (rekey_step n key s).answer ≡ Ok tt → owner d.key (rekey_step n key s).after ≡ Ok None
is_nobodys s n key d distinct is other ok =
    let it = done n key s ok in
    let same : it.0 ≡ d = cc (sym it.1 ∙ is) in
    let after = it.3 ∙ ap (λ (x : Driver). put (with_key key x) s) same in
    ap (owner d.key) after ∙ ap (λ (o : Option Driver). Ok (option_map (λ (x : Driver). x.number) o))
    (not_found d.key (put (with_key key d) s) (before_gone key d s distinct (own_number n s d is) other))

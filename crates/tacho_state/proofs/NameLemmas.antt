-- A change of a driver's name.
use Rattle.std.proofs.Common.{◌≡◌, ◌≢◌, ℕ, ◌==◌, Bool, true, false, List, Option, Some, None, Result, Ok, refl, sym, ap, ◌∙◌, subst, arith}
use Rattle.std.proofs.lemmas.Bool.Decides.{nat_tests}
use Rattle.tacho_time.specs.declared.span.Mark.{Mark}
use Rattle.tacho_state.specs.declared.fault.StoreFault.{StoreFault}
use Rattle.tacho_state.specs.State.{Driver, State, driver_of, held_mark, put, with_name}
use Rattle.tacho_state.specs.Steps.{own_turn, rename_own, rename_step, reading_of, name_reading, line_reading, owner}
use Rattle.tacho_state.proofs.PutLemmas.{found_number, put_found, put_other, put_keys}

module _ (n : ℕ) (name : List ℕ) (s : State) where
  -- the state after a change of the name of a driver who is there
  renamed : (d : Driver) → driver_of n s ≡ Some d → (rename_step n name s).after ≡ put (with_name name d) s
  renamed d is = ap (λ o. (own_turn (rename_own name) s o).after) is

  -- the driver is found with the new name
  found_renamed : (d : Driver) → driver_of n s ≡ Some d → driver_of n (rename_step n name s).after ≡ Some (with_name name d)
  found_renamed d is =
      let number = found_number n s d is in
      ap (driver_of n) (renamed d is)
      ∙ subst (λ (k : ℕ). driver_of k s ≡ Some d → driver_of k (put (with_name name d) s) ≡ Some (with_name name d)) number
      (put_found (with_name name d) d s) is

  -- nothing changes if there is no such driver
  not_renamed : driver_of n s ≡ None → (rename_step n name s).after ≡ s
  not_renamed is = ap (λ o. (own_turn (rename_own name) s o).after) is

  -- other drivers stay as they were
  pub others_stay : (i : ℕ) → i ≢ n → driver_of i (rename_step n name s).after ≡ driver_of i s
  others_stay i other = go (driver_of n s) refl where
    go : (o : Option Driver) → driver_of n s ≡ o → driver_of i (rename_step n name s).after ≡ driver_of i s
    go None is = ap (driver_of i) (not_renamed is)
    go (Some d) is =
        ap (driver_of i) (renamed d is) ∙ put_other (with_name name d) i s (λ e. other (e ∙ found_number n s d is))

  -- the name is the driver's
  pub is_named : (rename_step n name s).answer ≡ Ok tt → name_reading n (rename_step n name s).after ≡ Ok name
  is_named ok = go (driver_of n s) refl where
    go : (o : Option Driver) → driver_of n s ≡ o → name_reading n (rename_step n name s).after ≡ Ok name
    go None is = let wrong = sym (ap (λ o. (own_turn (rename_own name) s o).answer) is) ∙ ok in cc
    go (Some d) is = ap (reading_of (λ (x : Driver). Ok x.name)) (found_renamed d is)

  -- each driver holds what they held
  pub same_line : (i : ℕ) → line_reading i (rename_step n name s).after ≡ line_reading i s
  same_line i = go (driver_of n s) refl where
    read : Option Driver → Result (ℕ → Option Mark) StoreFault
    read = reading_of (λ d. Ok (held_mark d))

    go : (o : Option Driver) → driver_of n s ≡ o → line_reading i (rename_step n name s).after ≡ line_reading i s
    go None is = ap (line_reading i) (not_renamed is)
    go (Some d) is = own (i == n) refl where
      own : (b : Bool) → (i == n) ≡ b → line_reading i (rename_step n name s).after ≡ line_reading i s
      own true e =
          let same : i ≡ n = grind (arith, nat_tests) in
          subst (λ (k : ℕ). line_reading k (rename_step n name s).after ≡ line_reading k s) (sym same)
          (ap read (found_renamed d is) ∙ sym (ap read is))
      own false e = ap read (others_stay i (λ f. differ e f)) where
        differ : (i == n) ≡ false → i ≡ n → ⊥
        differ e f = let g : (i == n) ≡ true = grind (arith, nat_tests) in cc

  -- each key is of the driver it was of
  pub same_owner : (key : List ℕ) → owner key (rename_step n name s).after ≡ owner key s
  same_owner key = go (driver_of n s) refl where
    go : (o : Option Driver) → driver_of n s ≡ o → owner key (rename_step n name s).after ≡ owner key s
    go None is = ap (owner key) (not_renamed is)
    go (Some d) is =
        let own : driver_of d.number s ≡ Some d = subst (λ (k : ℕ). driver_of k s ≡ Some d) (sym (found_number n s d is)) is in
        ap (owner key) (renamed d is) ∙ ap Ok (put_keys (with_name name d) d key s own refl)

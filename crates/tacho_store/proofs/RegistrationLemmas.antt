-- What a registration answers, by what look-ups find.
use Rattle.std.proofs.Common.{◌≡◌, ℕ, List, [], ◌∷◌, ◌++◌, Bool, true, false, cond, Option, Some, None, Result, Ok, Err, refl, sym, subst}
use Rattle.std.specs.Prelude.{is_some}
use Rattle.sqlite.specs.Tree.{Trees}
use Rattle.tacho_state.specs.declared.fault.StoreFault.{StoreFault}
use Rattle.tacho_state.specs.declared.fault.StoreFault.TheVariants.{DriverTaken, KeyTaken, HolderTaken, NotMonday}
use Rattle.tacho_state.specs.Acts.{IsOfNoFile}
use Rattle.tacho_state.specs.State.{Driver, State, driver_of, driver_with_key, holding}
use Rattle.tacho_state.specs.Steps.{register_step, is_monday}
use Rattle.tacho_tables.specs.Tables.{Tables, HasTables}
use Rattle.tacho_reading.specs.Finding.{IsFound, IsOfDriver}
use Rattle.tacho_reading.specs.Standing.{Represents, Follows, driver_columns}
use Rattle.tacho_store.specs.Registering.{AreFree}
use Rattle.tacho_store.proofs.RegistrationTablesLemmas.{registered_is}
use Rattle.tacho_store.proofs.JoinLemmas.{driver_follows}

-- the state has a driver iff the look-up found one
pub taken : {X : Type 0} (is : X → Driver → Type 0) (o : Option Driver) (found : Option X) → IsOfDriver is o found → is_some o ≡ is_some found
taken is o None none = rw none refl
taken is o (Some x) some = rw some.1 refl

-- whose number, key or holder is taken is refused: S1, S2, S3
abbrev pub free_of : (number key holder : Bool) → Result (Unit {0}) StoreFault
free_of number key holder = cond number (Err DriverTaken) (cond key (Err KeyTaken) (cond holder (Err HolderTaken) (Ok tt)))

pub free_no_file : (a b c : Bool) (r : Result (Unit {0}) StoreFault) → r ≡ free_of a b c → IsOfNoFile r
free_no_file true b c r is = subst IsOfNoFile (sym is) tt
free_no_file false true c r is = subst IsOfNoFile (sym is) tt
free_no_file false false true r is = subst IsOfNoFile (sym is) tt
free_no_file false false false r is = subst IsOfNoFile (sym is) tt

-- nothing was found
nobody : {X : Type 0} (o : Option X) → is_some o ≡ false → o ≡ None
nobody None is = refl
nobody (Some x) is = absurd (let both = is in cc)

module _ (number : ℕ) (holder key : List ℕ) (base : ℕ) (name : List ℕ) (s : State) where
  -- nobody has them, or that is refused as the step answers
  abbrev pub IsAsked : Result (Unit {0}) StoreFault → Type 0
  IsAsked = IsFound (λ (u : Unit {0}). AreFree s number key holder) (register_step number holder key base name s).answer

  -- which of these it is, by what look-ups found
  pub free_answer : (a b c : Bool) (r : Result (Unit {0}) StoreFault) → r ≡ free_of a b c → is_some (driver_of number s) ≡ a
      → is_some (driver_with_key key s) ≡ b → is_some (holding holder s) ≡ c
      → IsAsked r
  free_answer true b c r is n k h = subst IsAsked (sym is) (record { found = tt; refused = rw n refl })
  free_answer false true c r is n k h = subst IsAsked (sym is) (record { found = tt; refused = rw (n, k) refl })
  free_answer false false true r is n k h = subst IsAsked (sym is) (record { found = tt; refused = rw (n, k, h) refl })
  free_answer false false false r is n k h = subst IsAsked (sym is) (record {
    found = record { new_number = nobody _ n; new_key = nobody _ k; new_holder = nobody _ h };
    refused = tt;
  })

  module _ (free : AreFree s number key holder) where
    -- not a Monday: S9
    pub no_monday : is_monday base ≡ false → (register_step number holder key base name s).answer ≡ Err NotMonday
    no_monday is = rw (free.new_number, free.new_key, free.new_holder, is) refl

    -- the driver is registered
    pub goes_in : is_monday base ≡ true → (register_step number holder key base name s).answer ≡ Ok tt
    goes_in is = rw (free.new_number, free.new_key, free.new_holder, is) refl

    -- tables with the driver's row represent the state after the registration
    pub row_added : (db next : Trees) → is_monday base ≡ true → Represents db s
        → ((a : Tables) → HasTables db a → HasTables next
        (record a { drivers = record { driver = number; holder = holder; secret = key; base = base; name = name; downloads = 0; entries = 0 } ∷ a.drivers }))
        → Follows db next s (register_step number holder key base name s).after
    unfolding Represents
    row_added db next is (t, stand, of) turn =
        let d : Driver = record { number = number; holder = holder; key = key; base = base; name = name; downloads = []; entries = [] } in
        let after : (register_step number holder key base name s).after ≡ s ++ d ∷ [] = rw
        (free.new_number, free.new_key, free.new_holder, is) refl in
        subst (Follows db next s) (sym after) (driver_follows db next (driver_columns d) t s (s ++ d ∷ []) stand of (turn t stand)
        (registered_is t s d of free.new_number free.new_key free.new_holder refl refl))

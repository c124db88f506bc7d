-- What a change of a driver's own row answers, and what the tables represent after it.
use Rattle.std.proofs.Common.{◌≡◌, ◌∙◌, ◌==◌, ℕ, List, Bool, true, false, cond, not, Option, Some, None, option_map, Result, Ok, Err, refl, ap, map, subst}
use Rattle.std.specs.Prelude.{MatchOption}
use Rattle.sqlite.specs.Tree.{Trees}
use Rattle.tacho_state.specs.declared.fault.StoreFault.{StoreFault}
use Rattle.tacho_state.specs.declared.fault.StoreFault.TheVariants.{KeyTaken, NotMonday, UnknownDriver}
use Rattle.tacho_state.specs.State.{Driver, State, driver_of, driver_with_key, put, with_base}
use Rattle.tacho_state.specs.Steps.{Own, is_another, is_monday, own_turn, rebase_own, rebase_step, rekey_step}
use Rattle.tacho_tables.specs.Rows.{DriverRow}
use Rattle.tacho_tables.specs.Tables.{Tables, HasTables}
use Rattle.tacho_reading.specs.Finding.{IsOfDriver}
use Rattle.tacho_reading.specs.Standing.{Represents, TablesRepresent, Follows}
use Rattle.tacho_store.proofs.OthersLemmas.{followed}
use Rattle.tacho_store.proofs.RefusalLemmas.{failed, passed}

module _ (n : ℕ) (s : State) (d next : Driver) (f : Own (Unit {0})) (is : driver_of n s ≡ Some d) (done : f d ≡ Ok (tt, next)) where
  -- the change is done
  pub own_answer : (own_turn f s (driver_of n s)).answer ≡ Ok tt
  own_answer = rw (is, done) refl

  -- tables with the row changed represent the state after the change
  pub own_follows : (change : DriverRow → DriverRow)
      → ((t : Tables) → TablesRepresent t s → TablesRepresent (record t { drivers = map change t.drivers }) (put next s))
      → (db after : Trees) → Represents db s
      → ((t : Tables) → HasTables db t → HasTables after (record t { drivers = map change t.drivers }))
      → Follows db after s (own_turn f s (driver_of n s)).after
  unfolding Represents
  own_follows change represent db after (t, stand, of) turn =
      rw (is, done) (followed db after t (record t { drivers = map change t.drivers }) s (put next s) stand of (turn t stand) (represent t of)
      (λ j same. record { card_spans = refl; held = refl }))

-- ---- the base

-- not a Monday: S9
pub no_monday : (n base : ℕ) (s : State) (d : Driver) → driver_of n s ≡ Some d → is_monday base ≡ false
    → (rebase_step n base s).answer ≡ Err NotMonday
no_monday n base s d is other = rw (is, other) refl

-- a Monday is the driver's new base
pub is_based : (base : ℕ) (d : Driver) → is_monday base ≡ true → rebase_own base d ≡ Ok (tt, with_base base d)
is_based base d monday = rw monday refl

-- ---- the key

-- a look-up by key finds the number of the driver who has the key
pub owner_is : (key : List ℕ) (s : State) (found : Option ℕ)
    → IsOfDriver (λ n d. n ≡ d.number) (driver_with_key key s) found
    → found ≡ option_map (λ (x : Driver). x.number) (driver_with_key key s)
owner_is key s None h = rw h refl
owner_is key s (Some n) h = rw (h.1, h.2) refl

-- an unknown driver: S4
pub no_driver : (n : ℕ) (key : List ℕ) (s : State) → is_another n (driver_with_key key s) ≡ false → driver_of n s ≡ None
    → (rekey_step n key s).answer ≡ Err UnknownDriver
no_driver n key s free none = rw (free, none) refl

-- the key is another driver's: S2
pub key_taken : (n : ℕ) (key : List ℕ) (s : State) → is_another n (driver_with_key key s) ≡ true
    → (rekey_step n key s).answer ≡ Err KeyTaken
key_taken n key s taken = rw taken refl

-- what is decided of the owner's number: the key is another driver's, or it isn't
pub owner_refused : (n : ℕ) (owner : Option ℕ) (fault : StoreFault)
    → MatchOption owner (◌≡◌ {A = Result (Unit {0}) StoreFault} (Err fault) (Ok tt))
    (λ number. ◌≡◌ {A = Result (Unit {0}) StoreFault} (Err fault) (cond (number == n) (Ok tt) (Err KeyTaken)))
    → (KeyTaken ≡ fault) × ((o : Option Driver) → owner ≡ option_map (λ (x : Driver). x.number) o → is_another n o ≡ true)
owner_refused n None fault e = absurd (let both = e in cc)
owner_refused n (Some number) fault e = let other = failed (number == n) tt KeyTaken fault e in (other.1, another (number == n) refl other.0) where
  another : (b : Bool) → (number == n) ≡ b → b ≡ false → (o : Option Driver) → Some number ≡ option_map (λ (x : Driver). x.number) o
      → is_another n o ≡ true
  another b is other None same = absurd (let both = same in cc)
  another b is other (Some d) same =
      let number_is : number ≡ d.number = (let both = same in cc) in ap not (subst (λ k. (k == n) ≡ b) number_is is ∙ other)

pub owner_passed : (n : ℕ) (owner : Option ℕ) (x : Unit {0})
    → MatchOption owner (◌≡◌ {A = Result (Unit {0}) StoreFault} (Ok x) (Ok tt))
    (λ number. ◌≡◌ {A = Result (Unit {0}) StoreFault} (Ok x) (cond (number == n) (Ok tt) (Err KeyTaken)))
    → (o : Option Driver) → owner ≡ option_map (λ (x : Driver). x.number) o → is_another n o ≡ false
owner_passed n None x e None same = refl
owner_passed n None x e (Some d) same = absurd (let both = same in cc)
owner_passed n (Some number) x e None same = absurd (let both = same in cc)
owner_passed n (Some number) x e (Some d) same =
    let number_is : number ≡ d.number = (let both = same in cc) in
    ap not (subst (λ k. (k == n) ≡ true) number_is (passed (number == n) x tt KeyTaken e))

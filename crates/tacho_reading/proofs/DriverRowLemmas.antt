-- Drivers are found by tests of their rows.
use Rattle.std.proofs.Common.{◌≡◌, ℕ, ◌==◌, ◌↔◌, Bool, true, false, cond, List, [], ◌∷◌, Option, Some, None, map, filter, refl, sym, ap, ◌∙◌, subst}
use Rattle.std.specs.List.{Contains}
use Rattle.std.specs.Str.{bytes_eq}
use Rattle.tacho_state.specs.Distinct.{HasNot, HasNoKey, IsHolderFree, AreDistinct}
use Rattle.tacho_state.specs.State.{Driver, State, driver_of, driver_with_key, holding}
use Rattle.tacho_state.proofs.EqualLemmas.{bytes_not, bytes_true, eq_not, eq_self, eq_true}
use Rattle.tacho_state.proofs.DistinctLemmas.{found_not}
use Rattle.tacho_tables.specs.Rows.{DriverRow}
use Rattle.tacho_tables.specs.Tables.{Tables, has_number, has_secret, has_holder}
use Rattle.tacho_reading.specs.Standing.{driver_columns, TablesRepresent}
use Rattle.tacho_reading.proofs.PassingLemmas.{PassesOnce, first_passing, none_passes, row_passes}

-- ---- by number, key and holder

-- the first driver with a number is `driver_of`
by_number : (n : ℕ) (s : State) → first_passing driver_columns (has_number n) s ≡ driver_of n s
by_number n [] = refl
by_number n (d ∷ s) = ap (λ (x : Option Driver). cond (d.number == n) (Some d) x) (by_number n s)

-- the first driver with a key is `driver_with_key`
by_key : (key : List ℕ) (s : State) → first_passing driver_columns (has_secret key) s ≡ driver_with_key key s
by_key key [] = refl
by_key key (d ∷ s) = ap (λ (x : Option Driver). cond (bytes_eq d.key key) (Some d) x) (by_key key s)

-- the first driver with a holder is `holding`
by_holder : (holder : List ℕ) (s : State) → first_passing driver_columns (has_holder holder) s ≡ holding holder s
by_holder holder [] = refl
by_holder holder (d ∷ s) = ap (λ (x : Option Driver). cond (bytes_eq d.holder holder) (Some d) x) (by_holder holder s)

-- ---- drivers are distinct

-- no row has the number of a driver who isn't in the state
pub no_number_row : (n : ℕ) (s : State) → HasNot n s → filter (has_number n) (map driver_columns s) ≡ []
no_number_row n [] h = refl
no_number_row n (d ∷ s) h =
    ap (λ b. cond b (driver_columns d ∷ filter (has_number n) (map driver_columns s)) (filter (has_number n) (map driver_columns s)))
    (eq_not d.number n h.0) ∙ no_number_row n s h.1

-- no row has a key that isn't in the state
no_key_row : (key : List ℕ) (s : State) → HasNoKey key s → filter (has_secret key) (map driver_columns s) ≡ []
no_key_row key [] h = refl
no_key_row key (d ∷ s) h =
    ap (λ b. cond b (driver_columns d ∷ filter (has_secret key) (map driver_columns s)) (filter (has_secret key) (map driver_columns s)))
    (bytes_not d.key key h.0) ∙ no_key_row key s h.1

-- no row has a holder who isn't in the state
no_holder_row : (holder : List ℕ) (s : State) → IsHolderFree holder s → filter (has_holder holder) (map driver_columns s) ≡ []
no_holder_row holder [] h = refl
no_holder_row holder (d ∷ s) h =
    ap (λ b. cond b (driver_columns d ∷ filter (has_holder holder) (map driver_columns s))
    (filter (has_holder holder) (map driver_columns s))) (bytes_not d.holder holder h.0) ∙ no_holder_row holder s h.1

-- at most one row has a number
once_number : (n : ℕ) (s : State) → AreDistinct s → PassesOnce driver_columns (has_number n) s
once_number n [] h = tt
once_number n (d ∷ s) h = ((λ e. no_number_row n s (subst (λ (k : ℕ). HasNot k s) (eq_true d.number n e) h.0)), once_number n s h.3)

-- at most one row has a key
once_key : (key : List ℕ) (s : State) → AreDistinct s → PassesOnce driver_columns (has_secret key) s
once_key key [] h = tt
once_key key (d ∷ s) h = ((λ e. no_key_row key s (subst (λ (k : List ℕ). HasNoKey k s) (bytes_true d.key key e) h.1)), once_key key s h.3)

-- at most one row has a holder
once_holder : (holder : List ℕ) (s : State) → AreDistinct s → PassesOnce driver_columns (has_holder holder) s
once_holder holder [] h = tt
once_holder holder (d ∷ s) h = (
  (λ e. no_holder_row holder s
      (subst (λ (k : List ℕ). IsHolderFree k s) (bytes_true d.holder holder e) h.2)),
  once_holder holder s h.3,
)

-- a driver who is found by a test is also found by their number
passing_number : (p : DriverRow → Bool) (s : State) (d : Driver) → AreDistinct s → first_passing driver_columns p s ≡ Some d
    → driver_of d.number s ≡ Some d
passing_number p [] d h e = cc
passing_number p (x ∷ s) d h e = go (p (driver_columns x)) e (passing_number p s d h.3) where
  go : (b : Bool) → cond b (Some x) (first_passing driver_columns p s) ≡ Some d
      → (first_passing driver_columns p s ≡ Some d → driver_of d.number s ≡ Some d)
      → driver_of d.number (x ∷ s) ≡ Some d
  go true f more = let same : x ≡ d = cc in subst (λ (y : Driver). driver_of y.number (x ∷ s) ≡ Some y) same
      (ap (λ b. cond b (Some x) (driver_of x.number s)) (eq_self x.number))
  go false f more =
      ap (λ b. cond b (Some x) (driver_of d.number s))
      (eq_not x.number d.number (λ g. found_not d.number s d (more f) (subst (λ (k : ℕ). HasNot k s) g h.0))) ∙ more f

-- ---- in the tables

-- the driver whom a test of the rows finds is the one whom the state finds
module _ (p : DriverRow → Bool) (t : Tables) (s : State) (o : Option Driver) (h : TablesRepresent t s)
    (is : first_passing driver_columns p s ≡ o) where
  -- no row of the tables passes iff there is none
  none_found : (filter p t.drivers ≡ []) ↔ (o ≡ None)
  none_found = subst (λ (x : Option Driver). (filter p t.drivers ≡ []) ↔ (x ≡ None)) is
      (subst (λ (rows : List DriverRow). (filter p rows ≡ []) ↔ (first_passing driver_columns p s ≡ None)) (sym h.drivers)
      (none_passes driver_columns p s))

  -- a row of the tables that passes is that driver's
  one_found : (row : DriverRow) → PassesOnce driver_columns p s → Contains (filter p t.drivers) row
      → (d : Driver) × (o ≡ Some d) × (row ≡ driver_columns d)
  one_found row once w =
      let it = row_passes driver_columns p s row once (subst (λ (rows : List DriverRow). Contains (filter p rows) row) h.drivers w) in
      (it.0, sym is ∙ it.1, it.2)

-- no row has the number iff there is no such driver
pub number_none : (t : Tables) (s : State) (n : ℕ) → TablesRepresent t s → (filter (has_number n) t.drivers ≡ []) ↔ (driver_of n s ≡ None)
number_none t s n h = none_found (has_number n) t s (driver_of n s) h (by_number n s)

-- no row has the key iff there is no such driver
pub key_none : (t : Tables) (s : State) (key : List ℕ) → TablesRepresent t s → (filter (has_secret key) t.drivers ≡ []) ↔ (driver_with_key key s ≡ None)
key_none t s key h = none_found (has_secret key) t s (driver_with_key key s) h (by_key key s)

-- no row has the holder iff there is no such driver
pub holder_none : (t : Tables) (s : State) (holder : List ℕ) → TablesRepresent t s
    → (filter (has_holder holder) t.drivers ≡ []) ↔ (holding holder s ≡ None)
holder_none t s holder h = none_found (has_holder holder) t s (holding holder s) h (by_holder holder s)

-- a row with the number is that of the driver with this number
pub number_some : (t : Tables) (s : State) (n : ℕ) (row : DriverRow) → TablesRepresent t s → Contains (filter (has_number n) t.drivers) row
    → (d : Driver) × (driver_of n s ≡ Some d) × (row ≡ driver_columns d)
number_some t s n row h = one_found (has_number n) t s (driver_of n s) h (by_number n s) row (once_number n s h.distinct)

-- a row with the key is that of the driver with this key
pub key_some : (t : Tables) (s : State) (key : List ℕ) (row : DriverRow) → TablesRepresent t s → Contains (filter (has_secret key) t.drivers) row
    → (d : Driver) × (driver_with_key key s ≡ Some d) × (row ≡ driver_columns d)
key_some t s key row h = one_found (has_secret key) t s (driver_with_key key s) h (by_key key s) row (once_key key s h.distinct)

-- the driver with a holder is also found by their number
pub holder_number : (s : State) (holder : List ℕ) (d : Driver) → AreDistinct s → holding holder s ≡ Some d → driver_of d.number s ≡ Some d
holder_number s holder d h is = passing_number (has_holder holder) s d h (by_holder holder s ∙ is)

-- a row with the holder is that of the driver with this holder
pub holder_some : (t : Tables) (s : State) (holder : List ℕ) (row : DriverRow) → TablesRepresent t s
    → Contains (filter (has_holder holder) t.drivers) row
    → (d : Driver) × (holding holder s ≡ Some d) × (driver_of d.number s ≡ Some d) × (row ≡ driver_columns d)
holder_some t s holder row h w =
    let it = one_found (has_holder holder) t s (holding holder s) h (by_holder holder s) row (once_holder holder s h.distinct) w in
    (it.0, it.1, holder_number s holder it.0 h.distinct it.1, it.2)

-- What look-ups find, in terms of the state that the tables represent.
use Rattle.std.proofs.Common.{◌≡◌, ◌∙◌, ◌↔◌, ℕ, [], filter, Bool, false, Option, Some, None, Result, Ok, Err, refl, sym, ap, subst}
use Rattle.std.specs.Prelude.{Contains, MatchOption, is_some, ok_or, IsErr, IsErrAnd}
use Rattle.sqlite.specs.Tree.{Trees}
use Rattle.tacho_state.specs.declared.fault.StoreFault.{StoreFault}
use Rattle.tacho_state.specs.declared.fault.StoreFault.TheVariants.{Memory, Store, UnknownDriver}
use Rattle.tacho_state.specs.Acts.{Answers, IsOfNoFile}
use Rattle.tacho_state.specs.Distinct.{AreDistinct}
use Rattle.tacho_state.specs.State.{Driver, State, driver_of}
use Rattle.tacho_state.specs.Steps.{known_driver}
use Rattle.tacho_tables.specs.declared.rows.StoredDriver.{StoredDriver}
use Rattle.tacho_tables.specs.Rows.{DriverRow}
use Rattle.tacho_tables.specs.Tables.{ListedDriver, Tables, HasTables, listed_driver, told_driver}
use Rattle.tacho_reading.specs.Standing.{Represents, TablesRepresent, driver_columns}
use Rattle.tacho_reading.specs.Finding.{IsDriver, IsFindingFault, IsFound, IsOfDriver, IsStored}
use Rattle.tacho_reading.specs.Kept.{HasGivenUp}

-- a look-up of the rows that pass a test finds the driver whom the state has
pub looked_up : {X : Type 0} (of : X → DriverRow → Type 0) (is : X → Driver → Type 0) (db : Trees) (s : State) (p : DriverRow → Bool)
    (o : Option Driver) (found : Option X) → Represents db s
    → ((t : Tables) → TablesRepresent t s → (filter p t.drivers ≡ []) ↔ (o ≡ None))
    → ((t : Tables) (row : DriverRow) → TablesRepresent t s → Contains (filter p t.drivers) row
    → (d : Driver) × (o ≡ Some d) × (row ≡ driver_columns d))
    → (AreDistinct s → (x : X) (d : Driver) → o ≡ Some d → of x (driver_columns d) → is x d)
    → ((t : Tables) → HasTables db t → MatchOption found (filter p t.drivers ≡ [])
    (λ x. (r : DriverRow) × Contains (filter p t.drivers) r × of x r))
    → IsOfDriver is o found
unfolding Represents
looked_up of is db s p o None (t, stand, represent) none some told h = (none t represent).0 (h t stand)
looked_up of is db s p o (Some x) (t, stand, represent) none some told h =
    let found = h t stand in
    let d = some t found.0 represent found.1 in
    (d.0, d.1, told represent.distinct x d.0 d.1 (subst (of x) d.2 found.2))

-- a stored driver that is listed as a driver's row is that driver's
pub is_stored : (it : StoredDriver) (d : Driver) → told_driver it ≡ listed_driver (driver_columns d) → IsStored it d
is_stored it d same = record {
  number = ap (λ (x : ListedDriver). x.driver) same;
  holder = ap (λ (x : ListedDriver). x.holder) same;
  base = ap (λ (x : ListedDriver). x.base) same;
  name = ap (λ (x : ListedDriver). x.name) same;
  downloads = ap (λ (x : ListedDriver). x.downloads) same;
  entries = ap (λ (x : ListedDriver). x.entries) same;
}

-- ---- what a call found

-- such a fault, handed on
pub found_on : {A B : Type 0} (is : A → Type 0) (told : Result B StoreFault) (fault : StoreFault) (r : Result A StoreFault)
    → IsFindingFault fault told → IsErr r × IsErrAnd r (λ found. found ≡ fault) → IsFound is told r
found_on is told fault (Ok it) h e = let wrong = e.0 in cc
found_on is told fault (Err found) h e = record { found = tt; refused = subst (λ f. IsFindingFault f told) (sym e.1) h }

-- a fault of a call that gave up
pub given_up : {B : Type 0} (fault : StoreFault) (told : Result B StoreFault) → HasGivenUp fault → IsFindingFault fault told
given_up Memory told up = tt
given_up Store told up = tt
given_up fault told up = absurd up

pub answers_given_up : {A B : Type 0} (view : A → B) (fault : StoreFault) (told : Result B StoreFault) → HasGivenUp fault
    → Answers view (Err fault) told
answers_given_up view Memory told up = tt
answers_given_up view Store told up = tt
answers_given_up view fault told up = absurd up

-- what is told is this fault
pub is_told : {B : Type 0} (fault : StoreFault) (told : Result B StoreFault) → told ≡ Err fault → IsFindingFault fault told
is_told Memory told is = tt
is_told Store told is = tt
is_told fault told is = is

-- what is told instead has the same fault
pub finding_as : {A B : Type 0} (fault : StoreFault) (told : Result A StoreFault) (other : Result B StoreFault)
    → (told ≡ Err fault → other ≡ Err fault) → IsFindingFault fault told → IsFindingFault fault other
finding_as Memory told other same h = tt
finding_as Store told other same h = tt
finding_as fault told other same h = same h

-- ---- the driver with a number, or S4

-- the result of a look-up by number, with S4 if nothing was found
pub driver_found : (n : ℕ) (s : State) (found : Option StoredDriver) → IsOfDriver IsStored (driver_of n s) found
    → IsDriver s n (ok_or found UnknownDriver)
driver_found n s None none = record { found = tt; refused = ap known_driver none }
driver_found n s (Some it) h = record { found = h; refused = tt }

-- the fault of a look-up that found nothing is S4, and not of a card file
pub unknown_told : {X : Type 0} (is : X → Driver → Type 0) (o : Option Driver) (found : Option X) (fault : StoreFault)
    → IsOfDriver is o found → Err fault ≡ ok_or found UnknownDriver → known_driver o ≡ Err fault
unknown_told is o None fault none e = ap known_driver none ∙ (let same : UnknownDriver ≡ fault = (let both = e in cc) in ap Err same)
unknown_told is o (Some x) fault some e = absurd (let both = e in cc)

pub unknown_no_file : {X : Type 0} (found : Option X) → IsOfNoFile (ok_or found UnknownDriver)
unknown_no_file None = tt
unknown_no_file (Some x) = tt

-- a look-up that answered found something
pub was_found : {X : Type 0} (found : Option X) (x : X) → Ok x ≡ ok_or found UnknownDriver → found ≡ Some x
was_found None x e = absurd (let both = e in cc)
was_found (Some y) x e = let same : y ≡ x = (let both = e in cc) in ap Some same

-- a step that answers S4 if nobody has the number is refused as the look-up was
pub unknown_refuses : {A : Type 0} (n : ℕ) (s : State) (fault : StoreFault) (told : Result A StoreFault)
    → (driver_of n s ≡ None → told ≡ Err UnknownDriver) → IsDriver s n (Err fault) → IsFindingFault fault told
unknown_refuses n s fault told none h = finding_as fault (known_driver (driver_of n s)) told (go (driver_of n s) none) h.refused where
  go : (o : Option Driver) → (o ≡ None → told ≡ Err UnknownDriver) → known_driver o ≡ Err fault → told ≡ Err fault
  go None none e = let same : UnknownDriver ≡ fault = cc in none refl ∙ ap Err same
  go (Some d) none e = cc

-- a fault that is passed on is the step's answer, or the call gave up
pub handed_on : {A B : Type 0} (view : A → B) (fault : StoreFault) (r : Result A StoreFault) (told : Result B StoreFault)
    → IsFindingFault fault told → IsErr r × IsErrAnd r (λ found. found ≡ fault) → Answers view r told
handed_on view fault (Ok x) told h e = let wrong = e.0 in cc
handed_on view fault (Err found) told h e = subst (λ f. Answers view (Err f) told) (sym e.1) (go fault h) where
  go : (f : StoreFault) → IsFindingFault f told → Answers view (Err f) told
  go Memory h = tt
  go Store h = tt
  go f h = h

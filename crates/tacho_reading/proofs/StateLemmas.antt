-- One driver of a state changes, and the rows of that driver change too.
use Rattle.std.proofs.Common.{◌≡◌, ◌≢◌, ℕ, ◌==◌, Bool, true, false, cond, List, [], ◌∷◌, Some, map, refl, sym, ap, ◌∙◌, subst}
use Rattle.std.specs.List.{AllByRecursion}
use Rattle.tacho_time.specs.declared.span.Span.{Span}
use Rattle.tacho_state.specs.Content.{AreRead}
use Rattle.tacho_state.specs.Distinct.{HasNot, AreDistinct}
use Rattle.tacho_state.specs.Disjoint.{GiveExactly}
use Rattle.tacho_state.specs.State.{Driver, State, IsDownloaded, Held, driver_of, put}
use Rattle.tacho_state.proofs.EqualLemmas.{eq_false, eq_not, eq_true}
use Rattle.tacho_state.proofs.DistinctLemmas.{IsKeyFreeFor, distinct_put, found_head, found_not, found_tail, own_key, put_has}
use Rattle.tacho_tables.specs.Rows.{DriverRow}
use Rattle.tacho_tables.specs.Tables.{Tables}
use Rattle.tacho_reading.specs.Standing.{driver_columns, downloads_of, driver_entry_rows, spans_of, RowsRepresent, RowsRepresentEach, AreKnown, AreMarked, TablesRepresent}

-- both tables have the same rows of this driver
pub record SameOfDriver (n : ℕ) (t u : Tables) : Type 0 where
  pub downloads : downloads_of n u.downloads ≡ downloads_of n t.downloads
  pub entries : driver_entry_rows n u.entries ≡ driver_entry_rows n t.entries
  pub card_spans : spans_of n u.card_spans ≡ spans_of n t.card_spans
  pub held : spans_of n u.held ≡ spans_of n t.held

-- tables with the same rows of a driver still represent the driver
moved : (t u : Tables) (d : Driver) → SameOfDriver d.number t u → RowsRepresent t d → RowsRepresent u d
moved t u d s h = record {
  downloads = s.downloads ∙ h.downloads;
  read = h.read;
  entries = s.entries ∙ h.entries;
  full = h.full;
  card_spans = subst (λ (x : List Span). GiveExactly x (IsDownloaded d)) (sym s.card_spans) h.card_spans;
  held = subst (λ (x : List Span). GiveExactly x (Held d)) (sym s.held) h.held;
}

-- likewise for all drivers with other numbers than the changed one
moved_each : (t u : Tables) (n : ℕ) (s : State) → HasNot n s → ((j : ℕ) → j ≢ n → SameOfDriver j t u) → RowsRepresentEach t s → RowsRepresentEach u s
moved_each t u n [] o f h = tt
moved_each t u n (d ∷ s) o f h = (moved t u d (f d.number o.0) h.0, moved_each t u n s o.1 f h.1)

-- the tables represent the driver who is found
pub found_of : (t : Tables) (n : ℕ) (s : State) (d : Driver) → driver_of n s ≡ Some d → RowsRepresentEach t s → RowsRepresent t d
found_of t n [] d e h = cc
found_of t n (x ∷ s) d e h = go (x.number == n) e (λ f. found_of t n s d f h.1) where
  go : (b : Bool) → cond b (Some x) (driver_of n s) ≡ Some d → (driver_of n s ≡ Some d → RowsRepresent t d) → RowsRepresent t d
  go true f more = let same : x ≡ d = cc in subst (RowsRepresent t) same h.0
  go false f more = more f

-- ---- a driver is put in place of another

-- the tables represent each driver
each_put : (t u : Tables) (n : ℕ) (d : Driver) (s : State) → d.number ≡ n → AreDistinct s → RowsRepresentEach t s → RowsRepresent u d
    → ((j : ℕ) → j ≢ n → SameOfDriver j t u) → RowsRepresentEach u (put d s)
each_put t u n d [] e k h own f = tt
each_put t u n d (x ∷ s) e k h own f = go (x.number == d.number) refl (each_put t u n d s e k.3 h.1 own f) where
  go : (b : Bool) → (x.number == d.number) ≡ b → RowsRepresentEach u (put d s) → RowsRepresentEach u (cond b (d ∷ s) (x ∷ put d s))
  go true o more = (own, moved_each t u n s (subst (λ (m : ℕ). HasNot m s) (eq_true x.number d.number o ∙ e) k.0) f h.1)
  go false o more = (moved t u x (f x.number (λ g. eq_false x.number d.number o (g ∙ sym e))) h.0, more)

-- no row is without its driver
known_put : (t u : Tables) (n : ℕ) (d old : Driver) (s : State) → driver_of n s ≡ Some old → AreKnown t s
    → ((j : ℕ) → j ≢ n → SameOfDriver j t u) → AreKnown u (put d s)
known_put t u n d old s e h f = record {
  downloads = (λ j o. let w = put_has j d s o in (f j (other j w)).downloads ∙ h.downloads j w);
  entries = (λ j o. let w = put_has j d s o in (f j (other j w)).entries ∙ h.entries j w);
  card_spans = (λ j o. let w = put_has j d s o in (f j (other j w)).card_spans ∙ h.card_spans j w);
  held = (λ j o. let w = put_has j d s o in (f j (other j w)).held ∙ h.held j w);
} where
  other : (j : ℕ) → HasNot j s → j ≢ n
  other j w g = found_not n s old e (subst (λ (m : ℕ). HasNot m s) g w)

-- if one driver changes, and no rows but that driver's, the tables represent the new state, unless another driver has the new key
pub put_with_key : (t u : Tables) (n : ℕ) (d old : Driver) (s : State) → TablesRepresent t s → driver_of n s ≡ Some old → d.number ≡ n
    → IsKeyFreeFor n d.key s → d.holder ≡ old.holder → u.drivers ≡ map driver_columns (put d s) → RowsRepresent u d
    → ((j : ℕ) → j ≢ n → SameOfDriver j t u) → AreMarked u → TablesRepresent u (put d s)
put_with_key t u n d old s h e k free same r own f marked = record {
  drivers = r;
  distinct = distinct_put n d old s e k free same h.distinct;
  each = each_put t u n d s k h.distinct h.each own f;
  known = known_put t u n d old s e h.known f;
  marked = marked;
}

-- the new driver has the key and the holder of the old one
pub record SamePerson (d old : Driver) : Type 0 where
  pub key : d.key ≡ old.key
  pub holder : d.holder ≡ old.holder

-- likewise if the driver keeps their key
pub put_is : (t u : Tables) (n : ℕ) (d old : Driver) (s : State) → TablesRepresent t s → driver_of n s ≡ Some old → d.number ≡ n → SamePerson d old
    → u.drivers ≡ map driver_columns (put d s) → RowsRepresent u d → ((j : ℕ) → j ≢ n → SameOfDriver j t u) → AreMarked u
    → TablesRepresent u (put d s)
put_is t u n d old s h e k same r own f marked =
    put_with_key t u n d old s h e k (subst (λ (key : List ℕ). IsKeyFreeFor n key s) (sym same.key) (own_key n s old e h.distinct))
    same.holder r own f marked

-- ---- rows of drivers

-- the row of the driver with a number is updated, and no other
abbrev pub updated : ℕ → (DriverRow → DriverRow) → DriverRow → DriverRow
updated n f r = cond (r.driver == n) (f r) r

-- the rows of other drivers stay
others_stay : (f : DriverRow → DriverRow) (n : ℕ) (s : State) → HasNot n s
    → map (updated n f) (map driver_columns s) ≡ map driver_columns s
others_stay f n [] o = refl
others_stay f n (x ∷ s) o =
    ap (λ b. cond b (f (driver_columns x)) (driver_columns x) ∷ map (updated n f) (map driver_columns s)) (eq_not x.number n o.0)
    ∙ ap (λ (y : List DriverRow). driver_columns x ∷ y) (others_stay f n s o.1)

-- an update that makes the old driver's row the new driver's puts the new driver in place of the old one
pub rows_put : (f : DriverRow → DriverRow) (n : ℕ) (d old : Driver) (s : State) → driver_of n s ≡ Some old → d.number ≡ n → AreDistinct s
    → f (driver_columns old) ≡ driver_columns d → map (updated n f) (map driver_columns s) ≡ map driver_columns (put d s)
rows_put f n d old [] e k u r = refl
rows_put f n d old (x ∷ s) e k u r = go (x.number == d.number) refl (λ w. rows_put f n d old s w k u.3 r) where
  go : (b : Bool) → (x.number == d.number) ≡ b
      → (driver_of n s ≡ Some old → map (updated n f) (map driver_columns s) ≡ map driver_columns (put d s))
      → updated n f (driver_columns x) ∷ map (updated n f) (map driver_columns s) ≡ map driver_columns (cond b (d ∷ s) (x ∷ put d s))
  go true o more =
      let here : (x.number == n) ≡ true = subst (λ (j : ℕ). (x.number == j) ≡ true) k o in
      let same : x ≡ old = found_head n x old s e here in
      ap (λ (y : DriverRow). y ∷ map (updated n f) (map driver_columns s))
      (ap (λ b. cond b (f (driver_columns x)) (driver_columns x)) here ∙ ap (λ (y : Driver). f (driver_columns y)) same ∙ r)
      ∙ ap (λ (y : List DriverRow). driver_columns d ∷ y)
      (others_stay f n s (subst (λ (j : ℕ). HasNot j s) (eq_true x.number n here) u.0))
  go false o more =
      let there : (x.number == n) ≡ false = subst (λ (j : ℕ). (x.number == j) ≡ false) k o in
      ap (λ (y : DriverRow). y ∷ map (updated n f) (map driver_columns s)) (ap (λ b. cond b (f (driver_columns x)) (driver_columns x)) there)
      ∙ ap (λ (y : List DriverRow). driver_columns x ∷ y) (more (found_tail n x old s e there))

-- the card files of each driver are read
pub files_read : (t : Tables) (s : State) → RowsRepresentEach t s → AllByRecursion (λ (d : Driver). AreRead d.downloads) s
files_read t [] each = tt
files_read t (d ∷ s) each = (each.0.read, files_read t s each.1)

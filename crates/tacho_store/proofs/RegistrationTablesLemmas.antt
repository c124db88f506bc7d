-- The tables after a registration, and after a change of a base, of a key or of a name.
use Rattle.std.proofs.Common.{◌≡◌, ℕ, false, List, [], ◌∷◌, ◌++◌, Some, None, map, refl, sym, ap, ◌∙◌, subst}
use Rattle.std.proofs.lemmas.List.{map-append}
use Rattle.tacho_time.specs.declared.span.Span.{Span}
use Rattle.tacho_time.specs.Spans.{Gives}
use Rattle.tacho_state.specs.Distinct.{HasNot}
use Rattle.tacho_state.specs.Disjoint.{GiveExactly}
use Rattle.tacho_state.specs.State.{Download, Entry, Driver, State, driver_of, driver_with_key, holding, put, with_base, with_key, with_name}
use Rattle.tacho_state.specs.Steps.{is_another}
use Rattle.tacho_tables.specs.Rows.{DriverRow}
use Rattle.tacho_tables.specs.Tables.{Tables}
use Rattle.tacho_reading.specs.Standing.{driver_columns, RowsRepresent, RowsRepresentEach, AreKnown, TablesRepresent}
use Rattle.tacho_state.proofs.DistinctLemmas.{IsKeyFreeFor, added_has, distinct_added, holder_not, key_free, key_not, number_not, own_key}
use Rattle.tacho_state.proofs.PutLemmas.{found_number}
use Rattle.tacho_reading.proofs.StateLemmas.{found_of, put_with_key, rows_put, updated}
use Rattle.tacho_store.specs.After.{with_driver, with_rebased, with_rekeyed, with_renamed}

-- ---- a driver at the end

-- the tables represent the other drivers, whose rows are as they were, and the new one
each_added : (t : Tables) (row : DriverRow) (s : State) (d : Driver) → RowsRepresentEach t s → RowsRepresent (with_driver row t) d
    → RowsRepresentEach (with_driver row t) (s ++ d ∷ [])
each_added t row [] d h own = (own, tt)
each_added t row (x ∷ s) d h own = (record { downloads = h.0.downloads; read = h.0.read; entries = h.0.entries; full = h.0.full; card_spans = h.0.card_spans; held = h.0.held }, each_added t row s d h.1 own)

-- the empty list of spans keeps what nothing gives
nothing_kept : GiveExactly [] (Gives [])
nothing_kept = record { disjoint = tt; same = λ m k. (λ g. g, λ g. g) }

-- a driver without downloads and entries needs no rows
new_is : (t : Tables) (s : State) (d : Driver) (downloads : List Download) (entries : List Entry) → downloads ≡ [] → entries ≡ []
    → AreKnown t s → HasNot d.number s
    → RowsRepresent (with_driver (driver_columns d) t) (record d { downloads = downloads; entries = entries })
new_is t s d downloads entries none empty known free =
    subst (λ (ds : List Download). RowsRepresent (with_driver (driver_columns d) t) (record d { downloads = ds; entries = entries }))
    (sym none)
    (subst (λ (es : List Entry). RowsRepresent (with_driver (driver_columns d) t) (record d { downloads = []; entries = es })) (sym empty)
    (record {
      downloads = known.downloads d.number free;
      read = tt;
      entries = known.entries d.number free;
      full = tt;
      card_spans = subst (λ (x : List Span). GiveExactly x (Gives [])) (sym (known.card_spans d.number free)) nothing_kept;
      held = subst (λ (x : List Span). GiveExactly x (Gives [])) (sym (known.held d.number free)) nothing_kept;
    }))

-- the tables with a new driver's row represent the state with that driver
pub registered_is : (t : Tables) (s : State) (d : Driver) → TablesRepresent t s → driver_of d.number s ≡ None → driver_with_key d.key s ≡ None
    → holding d.holder s ≡ None
    → d.downloads ≡ [] → d.entries ≡ [] → TablesRepresent (with_driver (driver_columns d) t) (s ++ d ∷ [])
registered_is t s d h n k o none empty =
    let free = number_not d.number s n in
    record {
      drivers = ap (λ (x : List DriverRow). x ++ driver_columns d ∷ []) h.drivers ∙ sym (map-append driver_columns s (d ∷ []));
      distinct = distinct_added s d free (key_not d.key s k) (holder_not d.holder s o) h.distinct;
      each = each_added t (driver_columns d) s d h.each (new_is t s d d.downloads d.entries none empty h.known free);
      known = record {
        downloads = λ j w. h.known.downloads j (added_has j s d w);
        entries = λ j w. h.known.entries j (added_has j s d w);
        card_spans = λ j w. h.known.card_spans j (added_has j s d w);
        held = λ j w. h.known.held j (added_has j s d w);
      };
      marked = record { card_spans = h.marked.card_spans; held = h.marked.held };
    }

-- ---- another base, another key, another name

-- the driver with this base, key and name
abbrev renewed : ℕ → List ℕ → List ℕ → Driver → Driver
renewed base key name d = record d { base = base; key = key; name = name }

-- tables in which a driver's own row is updated represent the state with the driver's new base, key and name
updated_is : (f : DriverRow → DriverRow) (base : ℕ) (key name : List ℕ) (t : Tables) (s : State) (n : ℕ) (d : Driver) → TablesRepresent t s
    → driver_of n s ≡ Some d → IsKeyFreeFor n key s → f (driver_columns d) ≡ driver_columns (renewed base key name d)
    → TablesRepresent (record t { drivers = map (updated n f) t.drivers }) (put (renewed base key name d) s)
updated_is f base key name t s n d of is free same =
    let number = found_number n s d is in
    let own = found_of t n s d is of.each in
    put_with_key t (record t { drivers = map (updated n f) t.drivers }) n (renewed base key name d) d s of is number free refl
    (ap (λ (x : List DriverRow). map (updated n f) x) of.drivers ∙ rows_put f n (renewed base key name d) d s is number of.distinct same)
    (record { downloads = own.downloads; read = own.read; entries = own.entries; full = own.full; card_spans = own.card_spans; held = own.held })
    (λ j other. record { downloads = refl; entries = refl; card_spans = refl; held = refl })
    (record { card_spans = of.marked.card_spans; held = of.marked.held })

-- the tables with another base in the driver's row represent the state with that base
pub rebased_is : (t : Tables) (s : State) (n base : ℕ) (d : Driver) → TablesRepresent t s → driver_of n s ≡ Some d
    → TablesRepresent (with_rebased n base t) (put (with_base base d) s)
rebased_is t s n base d of is =
    updated_is (λ r. record r { base = base }) base d.key d.name t s n d of is (own_key n s d is of.distinct) refl

-- likewise with another key that no other driver has
pub rekeyed_is : (t : Tables) (s : State) (n : ℕ) (key : List ℕ) (d : Driver) → TablesRepresent t s → driver_of n s ≡ Some d
    → is_another n (driver_with_key key s) ≡ false → TablesRepresent (with_rekeyed n key t) (put (with_key key d) s)
rekeyed_is t s n key d of is free =
    updated_is (λ r. record r { secret = key }) d.base key d.name t s n d of is (key_free n key s of.distinct free) refl

-- likewise with another name
pub renamed_is : (t : Tables) (s : State) (n : ℕ) (name : List ℕ) (d : Driver) → TablesRepresent t s → driver_of n s ≡ Some d
    → TablesRepresent (with_renamed n name t) (put (with_name name d) s)
renamed_is t s n name d of is =
    updated_is (λ r. record r { name = name }) d.base d.key name t s n d of is (own_key n s d is of.distinct) refl

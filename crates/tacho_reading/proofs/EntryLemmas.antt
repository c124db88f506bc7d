-- Entries by number, in the tables and in the state.
use Rattle.std.proofs.Common.{◌≡◌, ℕ, ◌+◌, ◌==◌, ◌↔◌, cond, List, [], ◌∷◌, Option, Some, None, filter, map, refl, sym, ap, ◌∙◌, subst}
use Rattle.std.specs.List.{Contains}
use Rattle.tacho_state.specs.State.{Entry, Driver, State, driver_of, entry_from}
use Rattle.tacho_tables.specs.Rows.{EntryRow}
use Rattle.tacho_tables.specs.Tables.{Tables, is_entry}
use Rattle.tacho_reading.specs.Standing.{entry_row, rows_of_entries, driver_entry_rows, TablesRepresent}
use Rattle.tacho_reading.proofs.PassingLemmas.{filter_both, number_none, number_some, numbered, with_number}
use Rattle.tacho_state.proofs.PutLemmas.{found_number}
use Rattle.tacho_reading.proofs.StateLemmas.{found_of}

-- the rows of entries are those of numbered entries
rows_numbered : (n i : ℕ) (es : List Entry) → rows_of_entries n i es ≡ map (λ (e : ℕ × Entry). entry_row n e.0 e.1) (numbered i es)
rows_numbered n i [] = refl
rows_numbered n i (e ∷ es) = ap (λ (rows : List EntryRow). entry_row n i e ∷ rows) (rows_numbered n (i + 1) es)

-- the entry with a number is found by it
by_number : (i number : ℕ) (es : List Entry) → with_number i number es ≡ entry_from i number es
by_number i number [] = refl
by_number i number (e ∷ es) = ap (λ (o : Option Entry). cond (i == number) (Some e) o) (by_number (i + 1) number es)

-- a driver's rows are those of the driver's entries
pub entry_all : (t : Tables) (s : State) (n : ℕ) (d : Driver) → TablesRepresent t s → driver_of n s ≡ Some d
    → driver_entry_rows n t.entries ≡ rows_of_entries n 1 d.entries
entry_all t s n d h k = subst (λ (j : ℕ). driver_entry_rows j t.entries ≡ rows_of_entries j 1 d.entries) (found_number n s d k)
    (found_of t n s d k h.each).entries

module _ (t : Tables) (s : State) (n number : ℕ) (d : Driver) (h : TablesRepresent t s) (k : driver_of n s ≡ Some d) where
  -- a driver's rows with a number are rows of the driver's entries
  own_numbered : filter (is_entry n number) t.entries
      ≡ filter (λ r. r.number == number) (map (λ (e : ℕ × Entry). entry_row n e.0 e.1) (numbered 1 d.entries))
  own_numbered = filter_both (λ r. r.driver == n) (λ r. r.number == number) t.entries
      ∙ ap (λ (x : List EntryRow). filter (λ r. r.number == number) x) (entry_all t s n d h k ∙ rows_numbered n 1 d.entries)

  -- the driver has no such entry iff no row has the number
  pub entry_none : (filter (is_entry n number) t.entries ≡ []) ↔ (entry_from 1 number d.entries ≡ None)
  entry_none =
      let both = number_none (entry_row n) (λ r. r.number == number) number (λ i e. refl) 1 d.entries in (
        λ e. sym (by_number 1 number d.entries) ∙ both.0 (sym own_numbered ∙ e),
        λ e. own_numbered ∙ both.1 (by_number 1 number d.entries ∙ e),
      )

-- a row with the number is that of the driver's entry
pub entry_some : (t : Tables) (s : State) (n number : ℕ) (d : Driver) (row : EntryRow) → TablesRepresent t s → driver_of n s ≡ Some d
    → Contains (filter (is_entry n number) t.entries) row
    → (e : Entry) × (entry_from 1 number d.entries ≡ Some e) × (row ≡ entry_row n number e)
entry_some t s n number d row h k w =
    let it = number_some (entry_row n) (λ r. r.number == number) number (λ i e. refl) 1 d.entries row
    (subst (λ (rows : List EntryRow). Contains rows row) (own_numbered t s n number d h k) w) in
    (it.0, sym (by_number 1 number d.entries) ∙ it.1, it.2)

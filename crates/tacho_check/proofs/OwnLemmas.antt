-- A driver's rows are sound up to a table exactly if there are none, or if they are those of a member.
use Rattle.std.proofs.Common.{◌≡◌, ◌∙◌, ℕ, ℤ, pos, negsuc, ◌==◌, ◌≤◌, inl, inr, Bool, true, false, cond, List, [], ◌∷◌, map, filter, flat_map, Option, None, Some, refl, sym, ap, ap₂, subst, arith}
use Rattle.std.specs.List.{All}
use Rattle.std.specs.List.Sorted.{IsPermutation}
use Rattle.std.specs.Ordering.{int_eq}
use Rattle.std.proofs.lemmas.Int.{ints}
use Rattle.std.proofs.lemmas.List.Elements.{All-head, All-tail, filter_agree}
use Rattle.std.proofs.lemmas.List.Sorted.{length_permutation}
use Rattle.sqlite.specs.declared.types.Value.TheVariants.{Int}
use Rattle.sqlite.specs.Order.{Row, column}
use Rattle.sqlite.specs.Tree.{Trees}
use Rattle.sqlite_trees.proofs.ListLemmas.{filter-map, filter_none, IsPermutation-same}
use Rattle.sqlite_rules.proofs.ListLemmas.{all_from}
use Rattle.tacho_state.specs.Distinct.{HasNot, AreDistinct}
use Rattle.tacho_state.specs.State.{Driver, State, driver_of}
use Rattle.tacho_state.proofs.EqualLemmas.{eq_false, eq_true}
use Rattle.tacho_state.proofs.NumberLemmas.{mark_there}
use Rattle.tacho_tables.specs.Schema.{Layout}
use Rattle.tacho_tables.specs.Rows.{SpanRow, DownloadRow, EntryRow, DriverRow, span_columns, download_columns, entry_columns, driver_row}
use Rattle.tacho_tables.specs.Tables.{Tables, has_number}
use Rattle.tacho_reading.specs.Standing.{row_span, span_row, spans_of, driver_columns, RowsRepresent, TablesRepresent}
use Rattle.tacho_state.specs.Numbers.{IsMark}
use Rattle.tacho_tables.specs.declared.table.TableName.{TableName}
use Rattle.tacho_tables.specs.declared.table.TableName.TheVariants.{Drivers, Downloads, CardSpans, EntryRows, Held}
use Rattle.tacho_tables.specs.Readable.{is_number, is_own, own_rows, stored_rows}
use Rattle.tacho_tables.specs.Ask.{own_in}
use Rattle.tacho_state.proofs.PutLemmas.{found_all, found_number}
use Rattle.tacho_reading.proofs.StateLemmas.{found_of}
use Rattle.tacho_reading.proofs.DriverRowLemmas.{no_number_row}
use Rattle.tacho_check.specs.Check.{place, typed_rows, Agree, IsWithinUpTo, IsSoundAt}
use Rattle.tacho_check.specs.Member.{Member, IsWhole, downloads_in, cards_in, entries_in, held_in, member_rows, state_of, tables_of, HasNoRows, IsOwnSound}
use Rattle.tacho_check.proofs.MemberLemmas.{pass_all, one_of, downloads_own, entries_own, spans_own, members_represent}

-- ---- the driver's number in a row

own_eq : (a b : ℕ) → int_eq (pos a) (pos b) ≡ (a == b)
own_eq a b = grind (arith, ints)

own_negative : (a b : ℕ) → int_eq (pos a) (negsuc b) ≡ false
own_negative a b = grind (arith, ints)

-- an empty list has no elements in another order
pub none_moved : {X : Type 0} (xs : List X) → IsPermutation [] xs → xs ≡ []
none_moved [] same = refl
none_moved (x ∷ xs) same = absurd (let e = length_permutation [] (x ∷ xs) same in omega (arith, e))

module _ {X : Type 0} (columns : X → Row) (key : X → ℕ) (first : (x : X) → column (columns x) 0 ≡ Int (pos (key x))) where
  -- the stored rows of a driver are those of the driver's typed rows
  pub own_typed : (n : ℕ) (xs : List X) → own_rows (pos n) (map columns xs) ≡ map columns (filter (λ x. key x == n) xs)
  own_typed n xs = filter-map (is_own (pos n)) columns xs
      ∙ ap (map columns) (filter_agree (λ x. is_own (pos n) (columns x)) (λ x. key x == n)
      (λ x. ap (is_number (pos n)) (first x) ∙ own_eq (key x) n) xs)

  -- no row has a negative number
  own_typed_none : (n : ℕ) (xs : List X) → own_rows (negsuc n) (map columns xs) ≡ []
  own_typed_none n xs = filter-map (is_own (negsuc n)) columns xs
      ∙ ap (map columns) (filter_none (λ x. is_own (negsuc n) (columns x)) xs
      (all_from (λ x. is_own (negsuc n) (columns x) ≡ false) xs
      (λ x there. ap (is_number (negsuc n)) (first x) ∙ own_negative (key x) n)))

-- ---- rows of spans

-- the row of the span of a row is that row
row_there : (n : ℕ) (r : SpanRow) → r.driver ≡ n → IsMark r.mark → r ≡ span_row n (row_span r)
row_there n r is mark =
    ap (λ (k : ℕ). record { driver = k; start = r.start; past = r.past; mark = r.mark }) is
    ∙ ap (λ (k : ℕ). record { driver = n; start = r.start; past = r.past; mark = k }) (sym (mark_there r.mark mark))

-- a driver's rows are those of the driver's spans
pub rows_back : (n : ℕ) (rows : List SpanRow) → All (λ r. IsMark r.mark) rows
    → filter (λ r. r.driver == n) rows ≡ map (span_row n) (spans_of n rows)
rows_back n [] h = refl
rows_back n (r ∷ rows) h = go (r.driver == n) refl (rows_back n rows (All-tail (λ x. IsMark x.mark) r rows h)) where
  kept : List SpanRow
  kept = filter (λ r. r.driver == n) rows

  go : (b : Bool) → (r.driver == n) ≡ b → kept ≡ map (span_row n) (spans_of n rows)
      → cond b (r ∷ kept) kept ≡ map (span_row n) (cond b (row_span r ∷ spans_of n rows) (spans_of n rows))
  go true e more = ap₂ (λ (x : SpanRow) (xs : List SpanRow). x ∷ xs)
      (row_there n r (eq_true r.driver n e) (All-head (λ x. IsMark x.mark) r rows h)) more
  go false e more = more

-- ---- the rows of one driver in tables that represent a state

-- who isn't found isn't there
not_found : (n : ℕ) (s : State) → driver_of n s ≡ None → HasNot n s
not_found n [] e = tt
not_found n (d ∷ s) e = go (d.number == n) refl e (not_found n s) where
  go : (b : Bool) → (d.number == n) ≡ b → cond b (Some d) (driver_of n s) ≡ None → (driver_of n s ≡ None → HasNot n s) → HasNot n (d ∷ s)
  go true is f more = absurd (let g = f in cc)
  go false is f more = (eq_false d.number n is, more f)

-- the row of the driver who is found
one_row : (n : ℕ) (s : State) (d : Driver) → AreDistinct s → driver_of n s ≡ Some d
    → filter (has_number n) (map driver_columns s) ≡ driver_columns d ∷ []
one_row n [] d h e = absurd (let g = e in cc)
one_row n (x ∷ s) d h e = go (x.number == n) refl e (one_row n s d h.3) where
  kept : List DriverRow
  kept = filter (has_number n) (map driver_columns s)

  go : (b : Bool) → (x.number == n) ≡ b → cond b (Some x) (driver_of n s) ≡ Some d → (driver_of n s ≡ Some d → kept ≡ driver_columns d ∷ [])
      → cond b (driver_columns x ∷ kept) kept ≡ driver_columns d ∷ []
  go true is f more =
      let same : x ≡ d = cc in
      let others : kept ≡ [] = no_number_row n s (subst (λ (k : ℕ). HasNot k s) (eq_true x.number n is) h.0) in
      ap₂ (λ (y : Driver) (ys : List DriverRow). driver_columns y ∷ ys) same others
  go false is f more = more f

module _ (t : Tables) (s : State) (h : TablesRepresent t s) where
  -- no row has a negative number
  none_negative : (n : ℕ) (j : TableName) → own_rows (negsuc n) (typed_rows j t) ≡ []
  none_negative n Drivers = own_typed_none driver_row (λ r. r.driver) (λ r. refl) n t.drivers
  none_negative n Downloads = own_typed_none download_columns (λ r. r.driver) (λ r. refl) n t.downloads
  none_negative n CardSpans = own_typed_none span_columns (λ r. r.driver) (λ r. refl) n t.card_spans
  none_negative n EntryRows = own_typed_none entry_columns (λ r. r.driver) (λ r. refl) n t.entries
  none_negative n Held = own_typed_none span_columns (λ r. r.driver) (λ r. refl) n t.held

  -- who isn't in the state has no rows
  none_unknown : (n : ℕ) → HasNot n s → (j : TableName) → own_rows (pos n) (typed_rows j t) ≡ []
  none_unknown n none Drivers = own_typed driver_row (λ r. r.driver) (λ r. refl) n t.drivers
      ∙ ap (map driver_row) (ap (filter (has_number n)) h.drivers ∙ no_number_row n s none)
  none_unknown n none Downloads = own_typed download_columns (λ r. r.driver) (λ r. refl) n t.downloads
      ∙ ap (map download_columns) (h.known.downloads n none)
  none_unknown n none CardSpans = own_typed span_columns (λ r. r.driver) (λ r. refl) n t.card_spans
      ∙ ap (map span_columns) (rows_back n t.card_spans h.marked.card_spans ∙ ap (map (span_row n)) (h.known.card_spans n none))
  none_unknown n none EntryRows = own_typed entry_columns (λ r. r.driver) (λ r. refl) n t.entries
      ∙ ap (map entry_columns) (h.known.entries n none)
  none_unknown n none Held = own_typed span_columns (λ r. r.driver) (λ r. refl) n t.held
      ∙ ap (map span_columns) (rows_back n t.held h.marked.held ∙ ap (map (span_row n)) (h.known.held n none))

  -- a driver of the state with the spans of their rows
  abbrev found : Driver → Member
  found d = record { driver = d; cards = spans_of d.number t.card_spans; held = spans_of d.number t.held }

  -- they are whole
  found_whole : (d : Driver) → RowsRepresent t d → IsWhole (found d)
  found_whole d rows = record { read = rows.read; full = rows.full; cards = rows.card_spans; held = rows.held }

  -- and have their rows
  found_rows : (d : Driver) → driver_of d.number s ≡ Some d → RowsRepresent t d → (j : TableName)
      → own_rows (pos d.number) (typed_rows j t) ≡ member_rows j (found d)
  found_rows d is rows Drivers = own_typed driver_row (λ r. r.driver) (λ r. refl) d.number t.drivers
      ∙ ap (map driver_row) (ap (filter (has_number d.number)) h.drivers ∙ one_row d.number s d h.distinct is)
  found_rows d is rows Downloads = own_typed download_columns (λ r. r.driver) (λ r. refl) d.number t.downloads
      ∙ ap (map download_columns) rows.downloads
  found_rows d is rows CardSpans = own_typed span_columns (λ r. r.driver) (λ r. refl) d.number t.card_spans
      ∙ ap (map span_columns) (rows_back d.number t.card_spans h.marked.card_spans)
  found_rows d is rows EntryRows = own_typed entry_columns (λ r. r.driver) (λ r. refl) d.number t.entries
      ∙ ap (map entry_columns) rows.entries
  found_rows d is rows Held = own_typed span_columns (λ r. r.driver) (λ r. refl) d.number t.held
      ∙ ap (map span_columns) (rows_back d.number t.held h.marked.held)

-- ---- from a state to a member

module _ (layout : Layout) (db : Trees) (k : TableName) where
  -- rows that the tables don't have aren't stored
  none_stored : (n : ℤ) (t : Tables) → ((j : TableName) → own_rows n (typed_rows j t) ≡ [])
      → ((j : TableName) → place j ≤ place k → Agree layout db n t j)
      → HasNoRows (own_in layout db n) k
  none_stored n t none agree j before =
      none_moved (own_rows n (stored_rows layout j db))
      (subst (λ (xs : List Row). IsPermutation xs (own_rows n (stored_rows layout j db))) (none j) (agree j before))

  -- what is sound is so by one driver alone
  pub sound_own : (n : ℤ) → IsSoundAt layout db n k → IsOwnSound (own_in layout db n) n k
  sound_own (negsuc n) h = inl (none_stored (negsuc n) h.1 (none_negative h.1 h.0 h.2 n) h.3)
  sound_own (pos n) h = go (driver_of n h.0) refl where
    go : (found_one : Option Driver) → driver_of n h.0 ≡ found_one → IsOwnSound (own_in layout db (pos n)) (pos n) k
    go None e = inl (none_stored (pos n) h.1 (none_unknown h.1 h.0 h.2 n (not_found n h.0 e)) h.3)
    go (Some d) e =
        let number : d.number ≡ n = found_number n h.0 d e in
        let is : driver_of d.number h.0 ≡ Some d = ap (λ (m : ℕ). driver_of m h.0) number ∙ e in
        let rows = found_of h.1 n h.0 d e h.2.each in
        inr (record {
          member = found h.1 h.0 h.2 d;
          whole = found_whole h.1 h.0 h.2 d rows;
          number = ap pos (sym number);
          within = found_all (IsWithinUpTo k) n h.0 d h.4 e;
          same = λ j before. subst (λ (xs : List Row). IsPermutation xs (own_rows (pos n) (stored_rows layout j db)))
              (subst (λ (m : ℕ). own_rows (pos m) (typed_rows j h.1) ≡ member_rows j (found h.1 h.0 h.2 d)) number
              (found_rows h.1 h.0 h.2 d is rows j)) (h.3 j before);
        })

-- ---- from a member to a state

-- tables without members have no rows
empty_typed : (n : ℤ) (j : TableName) → own_rows n (typed_rows j (tables_of [])) ≡ []
empty_typed n Drivers = refl
empty_typed n Downloads = refl
empty_typed n CardSpans = refl
empty_typed n EntryRows = refl
empty_typed n Held = refl

module _ (m : Member) (whole : IsWhole m) where
  alone : AreDistinct (state_of (m ∷ []))
  alone = (tt, tt, tt, tt)

  -- the tables of one member have its rows
  one_typed : (j : TableName) → own_rows (pos m.driver.number) (typed_rows j (tables_of (m ∷ []))) ≡ member_rows j m
  one_typed Drivers = own_typed driver_row (λ r. r.driver) (λ r. refl) m.driver.number (driver_columns m.driver ∷ [])
      ∙ ap (map driver_row) (pass_all (λ (r : DriverRow). r.driver) m.driver.number (driver_columns m.driver ∷ []) (refl, tt))
  one_typed Downloads = own_typed download_columns (λ r. r.driver) (λ r. refl) m.driver.number (flat_map downloads_in (m ∷ []))
      ∙ ap (map download_columns) (one_of (λ (r : DownloadRow). r.driver) downloads_in
      (λ x. downloads_own x.driver.number x.driver.downloads 1) (m ∷ []) m alone (inl refl))
  one_typed CardSpans = own_typed span_columns (λ r. r.driver) (λ r. refl) m.driver.number (flat_map cards_in (m ∷ []))
      ∙ ap (map span_columns) (one_of (λ (r : SpanRow). r.driver) cards_in (λ x. spans_own x.driver.number x.cards) (m ∷ []) m alone
      (inl refl))
  one_typed EntryRows = own_typed entry_columns (λ r. r.driver) (λ r. refl) m.driver.number (flat_map entries_in (m ∷ []))
      ∙ ap (map entry_columns) (one_of (λ (r : EntryRow). r.driver) entries_in (λ x. entries_own x.driver.number x.driver.entries 1)
      (m ∷ []) m alone (inl refl))
  one_typed Held = own_typed span_columns (λ r. r.driver) (λ r. refl) m.driver.number (flat_map held_in (m ∷ []))
      ∙ ap (map span_columns) (one_of (λ (r : SpanRow). r.driver) held_in (λ x. spans_own x.driver.number x.held) (m ∷ []) m alone
      (inl refl))

-- what is so by one driver alone is sound
pub own_sound : (layout : Layout) (db : Trees) (k : TableName) (n : ℤ) → IsOwnSound (own_in layout db n) n k → IsSoundAt layout db n k
own_sound layout db k n (inl none) = (
  [],
  tables_of [],
  members_represent [] tt tt,
  (λ j before. IsPermutation-same _ _ (empty_typed n j ∙ sym (none j before))),
  tt,
)
own_sound layout db k n (inr it) =
    let m = it.member in (
      state_of (m ∷ []),
      tables_of (m ∷ []),
      members_represent (m ∷ []) (it.whole, tt) (tt, tt, tt, tt),
      (λ j before.
          let same : own_rows n (typed_rows j (tables_of (m ∷ []))) ≡ member_rows j m =
          subst (λ (z : ℤ). own_rows z (typed_rows j (tables_of (m ∷ []))) ≡ member_rows j m) (sym it.number) (one_typed m it.whole j) in
          subst (λ (xs : List Row). IsPermutation xs (own_rows n (stored_rows layout j db))) (sym same) (it.same j before)),
      (it.within, tt),
    )

-- The tables after a withdrawal represent the state after it.
use Rattle.std.proofs.Common.{◌≡◌, ◌≢◌, ℕ, ◌+◌, ◌<◌, ◌≤◌, ◌==◌, ◌&&◌, ◌⊎◌, inl, inr, nat_lt, not, Bool, true, false, cond, List, [], ◌∷◌, ◌++◌, Some, length, map, filter, refl, sym, ap, ◌∙◌, subst, arith}
use Rattle.std.specs.List.Sorted.{IsPermutation}
use Rattle.std.proofs.lemmas.List.Elements.{All-filter}
use Rattle.std.proofs.lemmas.List.Sorted.{IsPermutation-sym, IsPermutation-map}
use Rattle.tacho_time.specs.declared.span.Span.{Span}
use Rattle.tacho_time.specs.declared.span.Mark.{Mark}
use Rattle.tacho_time.specs.Spans.{Gives, IsCanonicalOf}
use Rattle.tacho_line.specs.Line.{IsWithin}
use Rattle.tacho_line.proofs.MergeLemmas.{append_gives, front_gives, back_gives}
use Rattle.tacho_state.specs.Disjoint as disjoint
use Rattle.tacho_state.specs.Disjoint.{GiveExactly, near, far, outside}
use Rattle.tacho_state.specs.State.{Entry, Driver, State, Held, AreFull, driver_of, entry_from, entry_span, entered_spans, marked_from, put, with_marked}
use Rattle.tacho_state.proofs.DisjointLemmas.{disjoint_canonical}
use Rattle.tacho_state.proofs.NumberLemmas.{single_back}
use Rattle.tacho_state.proofs.OrderLemmas.{kept_again}
use Rattle.tacho_state.proofs.WithdrawLemmas.{withdrawn_held}
use Rattle.tacho_state.proofs.EqualLemmas.{eq_not, eq_self, eq_true}
use Rattle.tacho_tables.specs.declared.rows.StoredSpan.{StoredSpan}
use Rattle.tacho_tables.specs.Rows.{DriverRow, EntryRow, SpanRow}
use Rattle.tacho_tables.specs.Tables.{Tables, is_row_near, is_kept_near, span_of, entry_span_of, with_withdrawn}
use Rattle.tacho_reading.specs.Standing.{driver_columns, entry_row, rows_of_entries, driver_entry_rows, row_span, span_row, spans_of, stored_span, IsReadNear, IsKeptNear, RowsRepresent, TablesRepresent}
use Rattle.tacho_state.specs.Numbers.{IsMark}
use Rattle.tacho_reading.proofs.RowLemmas.{added_own, added_other, added_marks, near_spans}
use Rattle.tacho_reading.proofs.NearRowLemmas.{permuted_gives}
use Rattle.tacho_state.proofs.PutLemmas.{found_number}
use Rattle.tacho_reading.proofs.StateLemmas.{SameOfDriver, found_of, put_is, rows_put, updated}
use Rattle.tacho_store.specs.After.{with_renewed}

-- ---- rows that are not near a range

-- the rows that a withdrawal keeps
abbrev far_rows : ℕ → ℕ → ℕ → List SpanRow → List SpanRow
far_rows n a b rows = filter (λ r. not (is_row_near n a b r)) rows

-- one more row of the driver adds its span
row_own : (n : ℕ) (r : SpanRow) (rows : List SpanRow) → (r.driver == n) ≡ true → spans_of n (r ∷ rows) ≡ row_span r ∷ spans_of n rows
row_own n r rows e = ap (λ b. cond b (row_span r ∷ spans_of n rows) (spans_of n rows)) e

-- a row of another driver adds none
row_other : (n : ℕ) (r : SpanRow) (rows : List SpanRow) → (r.driver == n) ≡ false → spans_of n (r ∷ rows) ≡ spans_of n rows
row_other n r rows e = ap (λ b. cond b (row_span r ∷ spans_of n rows) (spans_of n rows)) e

-- the driver's rows that are kept give the driver's spans that aren't near the range
far_spans : (n a b : ℕ) (rows : List SpanRow) → spans_of n (far_rows n a b rows) ≡ far a b (spans_of n rows)
far_spans n a b [] = refl
far_spans n a b (r ∷ rows) = go (r.driver == n) refl (far_spans n a b rows) where
  own : (v : Bool) → (r.driver == n) ≡ true → spans_of n (far_rows n a b rows) ≡ far a b (spans_of n rows)
      → spans_of n (cond (not v) (r ∷ far_rows n a b rows) (far_rows n a b rows)) ≡ cond (not v)
      (row_span r ∷ far a b (spans_of n rows)) (far a b (spans_of n rows))
  own true o e = e
  own false o e = row_own n r (far_rows n a b rows) o ∙ ap (λ (x : List Span). row_span r ∷ x) e

  go : (o : Bool) → (r.driver == n) ≡ o → spans_of n (far_rows n a b rows) ≡ far a b (spans_of n rows)
      → spans_of n (cond (not (o && disjoint.is_near a b (row_span r))) (r ∷ far_rows n a b rows) (far_rows n a b rows))
      ≡ far a b (cond o (row_span r ∷ spans_of n rows) (spans_of n rows))
  go true o e = own (disjoint.is_near a b (row_span r)) o e
  go false o e = row_other n r (far_rows n a b rows) o ∙ e

-- all rows of another driver are kept
far_other : (j n a b : ℕ) (rows : List SpanRow) → j ≢ n → spans_of j (far_rows n a b rows) ≡ spans_of j rows
far_other j n a b [] d = refl
far_other j n a b (r ∷ rows) d = go (r.driver == n) refl (far_other j n a b rows d) where
  kept : (v : Bool) → spans_of j (far_rows n a b rows) ≡ spans_of j rows
      → cond v (row_span r ∷ spans_of j (far_rows n a b rows)) (spans_of j (far_rows n a b rows)) ≡ cond v
      (row_span r ∷ spans_of j rows) (spans_of j rows)
  kept true e = ap (λ (x : List Span). row_span r ∷ x) e
  kept false e = e

  -- a row of the driver isn't one of the other driver
  apart : (r.driver == n) ≡ true → (r.driver == j) ≡ false
  apart o = eq_not r.driver j (λ f. d (sym f ∙ eq_true r.driver n o))

  own : (v : Bool) → (r.driver == j) ≡ false → spans_of j (far_rows n a b rows) ≡ spans_of j rows
      → spans_of j (cond (not v) (r ∷ far_rows n a b rows) (far_rows n a b rows)) ≡ spans_of j rows
  own true o e = e
  own false o e = row_other j r (far_rows n a b rows) o ∙ e

  go : (o : Bool) → (r.driver == n) ≡ o → spans_of j (far_rows n a b rows) ≡ spans_of j rows
      → spans_of j (cond (not (o && disjoint.is_near a b (row_span r))) (r ∷ far_rows n a b rows) (far_rows n a b rows))
      ≡ spans_of j (r ∷ rows)
  go true o e = own (disjoint.is_near a b (row_span r)) (apart o) e ∙ sym (row_other j r rows (apart o))
  go false o e = kept (r.driver == j) e

-- the driver's rows after a withdrawal
renewed_own : (n a b : ℕ) (spans : List Span) (rows : List SpanRow)
    → spans_of n (far_rows n a b rows ++ map (span_row n) spans) ≡ far a b (spans_of n rows) ++ spans
renewed_own n a b spans rows =
    added_own n (far_rows n a b rows) spans ∙ ap (λ (x : List Span). x ++ spans) (far_spans n a b rows)

-- the rows of another driver after a withdrawal
renewed_other : (j n a b : ℕ) (spans : List Span) (rows : List SpanRow) → j ≢ n
    → spans_of j (far_rows n a b rows ++ map (span_row n) spans) ≡ spans_of j rows
renewed_other j n a b spans rows d = added_other j n (far_rows n a b rows) spans d ∙ far_other j n a b rows d

-- ---- rows of entries, one of them marked

-- a marked row keeps its driver
marked_driver : (n number : ℕ) (r : EntryRow) → (with_withdrawn n number r).driver ≡ r.driver
marked_driver n number r = go ((r.driver == n) && (r.number == number)) where
  go : (b : Bool) → (cond b (record r { withdrawn = 1 }) r).driver ≡ r.driver
  go true = refl
  go false = refl

-- a row of another driver is not marked
marked_not : (n number : ℕ) (r : EntryRow) → (r.driver == n) ≡ false → with_withdrawn n number r ≡ r
marked_not n number r e = ap (λ b. cond (b && (r.number == number)) (record r { withdrawn = 1 }) r) e

-- the driver's rows, one of them marked
marked_own : (n number : ℕ) (rows : List EntryRow)
    → driver_entry_rows n (map (with_withdrawn n number) rows) ≡ map (with_withdrawn n number) (driver_entry_rows n rows)
marked_own n number [] = refl
marked_own n number (r ∷ rows) =
    let now = with_withdrawn n number r in
    let more = driver_entry_rows n (map (with_withdrawn n number) rows) in
    ap (λ (k : ℕ). cond (k == n) (now ∷ more) more) (marked_driver n number r)
    ∙ go (r.driver == n) (marked_own n number rows) where
      go : (o : Bool) → driver_entry_rows n (map (with_withdrawn n number) rows) ≡ map (with_withdrawn n number) (driver_entry_rows n rows)
          → cond o (with_withdrawn n number r ∷ driver_entry_rows n (map (with_withdrawn n number) rows))
          (driver_entry_rows n (map (with_withdrawn n number) rows))
          ≡ map (with_withdrawn n number) (cond o (r ∷ driver_entry_rows n rows) (driver_entry_rows n rows))
      go true more = ap (λ (x : List EntryRow). with_withdrawn n number r ∷ x) more
      go false more = more

-- the rows of another driver aren't marked
marked_other : (j n number : ℕ) (rows : List EntryRow) → j ≢ n
    → driver_entry_rows j (map (with_withdrawn n number) rows) ≡ driver_entry_rows j rows
marked_other j n number [] d = refl
marked_other j n number (r ∷ rows) d =
    let now = with_withdrawn n number r in
    let more = driver_entry_rows j (map (with_withdrawn n number) rows) in
    ap (λ (k : ℕ). cond (k == j) (now ∷ more) more) (marked_driver n number r)
    ∙ go (r.driver == j) refl (marked_other j n number rows d) where
      go : (o : Bool) → (r.driver == j) ≡ o → driver_entry_rows j (map (with_withdrawn n number) rows) ≡ driver_entry_rows j rows
          → cond o (with_withdrawn n number r ∷ driver_entry_rows j (map (with_withdrawn n number) rows))
          (driver_entry_rows j (map (with_withdrawn n number) rows)) ≡ cond o (r ∷ driver_entry_rows j rows) (driver_entry_rows j rows)
      go true o more =
          ap (λ (x : EntryRow). x ∷ driver_entry_rows j (map (with_withdrawn n number) rows))
          (marked_not n number r (eq_not r.driver n (λ f. d (sym (eq_true r.driver j o) ∙ f))))
          ∙ ap (λ (x : List EntryRow). r ∷ x) more
      go false o more = more

-- rows with later numbers stay as they are
later_marked : (n i number : ℕ) (es : List Entry) → number < i
    → map (with_withdrawn n number) (rows_of_entries n i es) ≡ rows_of_entries n i es
later_marked n i number [] l = refl
later_marked n i number (e ∷ es) l =
    let other : (i == number) ≡ false = eq_not i number (λ f. absurd (omega (arith, f, l))) in
    let row = entry_row n i e in
    let more = map (with_withdrawn n number) (rows_of_entries n (i + 1) es) in
    ap (λ b. cond (b && (i == number)) (record row { withdrawn = 1 }) row ∷ more) (eq_self n)
    ∙ ap (λ b. cond b (record row { withdrawn = 1 }) row ∷ more) other
    ∙ ap (λ (x : List EntryRow). row ∷ x) (later_marked n (i + 1) number es (omega (arith, l)))

-- the rows of entries, one of them marked, are the rows of the entries with that one withdrawn
marked_rows : (n i number : ℕ) (es : List Entry)
    → map (with_withdrawn n number) (rows_of_entries n i es) ≡ rows_of_entries n i (marked_from i number es)
marked_rows n i number [] = refl
marked_rows n i number (e ∷ es) =
    let row = entry_row n i e in
    let more = map (with_withdrawn n number) (rows_of_entries n (i + 1) es) in
    ap (λ b. cond (b && (i == number)) (record row { withdrawn = 1 }) row ∷ more) (eq_self n)
    ∙ go (i == number) refl (marked_rows n (i + 1) number es) where
      here : (i == number) ≡ true → number < i + 1
      here o = let f = eq_true i number o in omega (arith, f)

      go : (o : Bool) → (i == number) ≡ o
          → map (with_withdrawn n number) (rows_of_entries n (i + 1) es) ≡ rows_of_entries n (i + 1) (marked_from (i + 1) number es)
          → cond o (record (entry_row n i e) { withdrawn = 1 }) (entry_row n i e)
          ∷ map (with_withdrawn n number) (rows_of_entries n (i + 1) es)
          ≡ rows_of_entries n i (cond o (record e { withdrawn = true } ∷ es) (e ∷ marked_from (i + 1) number es))
      go true o more =
          ap (λ (x : List EntryRow). record (entry_row n i e) { withdrawn = 1 } ∷ x) (later_marked n (i + 1) number es (here o))
      go false o more = ap (λ (x : List EntryRow). entry_row n i e ∷ x) more

-- ---- entries near a range

-- a row, of any driver, that is not withdrawn and has a minute in the range
abbrev is_kept : ℕ → ℕ → EntryRow → Bool
is_kept a b r = (r.withdrawn == 0) && (nat_lt r.start b && nat_lt a r.past)

-- a driver's rows near a range are found among the driver's own
kept_own : (n a b : ℕ) (rows : List EntryRow) → filter (is_kept_near n a b) rows ≡ filter (is_kept a b) (driver_entry_rows n rows)
kept_own n a b [] = refl
kept_own n a b (r ∷ rows) = go (r.driver == n) (kept_own n a b rows) where
  go : (o : Bool) → filter (is_kept_near n a b) rows ≡ filter (is_kept a b) (driver_entry_rows n rows)
      → cond (o && is_kept a b r) (r ∷ filter (is_kept_near n a b) rows) (filter (is_kept_near n a b) rows) ≡ filter
      (is_kept a b) (cond o (r ∷ driver_entry_rows n rows) (driver_entry_rows n rows))
  go true e = ap (λ (x : List EntryRow). cond (is_kept a b r) (r ∷ x) x) e
  go false e = e

-- the span of an entry's row is the entry's
entry_back : (n i : ℕ) (e : Entry) → stored_span (entry_span_of (entry_row n i e)) ≡ entry_span e
entry_back n i e = ap (λ (k : Mark). record { start = e.start; past = e.past; mark = k }) (single_back e.activity)

-- the rows near a range give the spans of the entries near it
rows_near : (n i a b : ℕ) (es : List Entry)
    → map stored_span (map entry_span_of (filter (is_kept a b) (rows_of_entries n i es))) ≡ near a b (entered_spans es)
rows_near n i a b [] = refl
rows_near n i a b (e ∷ es) = go e.withdrawn (rows_near n (i + 1) a b es) where
  own : (v : Bool)
      → map stored_span (map entry_span_of (filter (is_kept a b) (rows_of_entries n (i + 1) es))) ≡ near a b (entered_spans es)
      → map stored_span (map entry_span_of (cond v (entry_row n i e ∷ filter (is_kept a b) (rows_of_entries n (i + 1) es))
      (filter (is_kept a b) (rows_of_entries n (i + 1) es))))
      ≡ cond v (entry_span e ∷ near a b (entered_spans es)) (near a b (entered_spans es))
  own true more =
      ap (λ (x : Span). x ∷ map stored_span (map entry_span_of (filter (is_kept a b) (rows_of_entries n (i + 1) es))))
      (entry_back n i e)
      ∙ ap (λ (x : List Span). entry_span e ∷ x) more
  own false more = more

  go : (w : Bool)
      → map stored_span (map entry_span_of (filter (is_kept a b) (rows_of_entries n (i + 1) es))) ≡ near a b (entered_spans es)
      → map stored_span (map entry_span_of (cond ((cond w 1 0 == 0) && disjoint.is_near a b (entry_span e))
      (entry_row n i e ∷ filter (is_kept a b) (rows_of_entries n (i + 1) es)) (filter (is_kept a b) (rows_of_entries n (i + 1) es))))
      ≡ near a b (cond w (entered_spans es) (entry_span e ∷ entered_spans es))
  go true more = more
  go false more = own (disjoint.is_near a b (entry_span e)) more

-- what is read of a driver's rows near a range, as spans
near_read : (rows : List SpanRow) (n a b : ℕ) (found : List StoredSpan) → IsReadNear rows n a b found
    → IsPermutation (near a b (spans_of n rows)) (map stored_span found)
near_read rows n a b found p = subst (λ (x : List Span). IsPermutation x (map stored_span found)) (near_spans n a b rows)
    (IsPermutation-map stored_span (map span_of (filter (is_row_near n a b) rows)) found p)

-- likewise for the driver's entries
near_kept : (rows : List EntryRow) (n a b : ℕ) (es : List Entry) (found : List StoredSpan) → driver_entry_rows n rows ≡ rows_of_entries n 1 es
    → IsKeptNear rows n a b found
    → IsPermutation (near a b (entered_spans es)) (map stored_span found)
near_kept rows n a b es found e p = subst (λ (x : List Span). IsPermutation x (map stored_span found))
    (ap (λ (x : List EntryRow). map stored_span (map entry_span_of x))
    (kept_own n a b rows ∙ ap (λ (x : List EntryRow). filter (is_kept a b) x) e)
    ∙ rows_near n 1 a b es)
    (IsPermutation-map stored_span (map entry_span_of (filter (is_kept_near n a b) rows)) found p)

-- if two lists are reordered, they still give the same together
both_give : (xs ys us vs : List Span) (m : ℕ) (k : Mark) → IsPermutation xs us → IsPermutation ys vs → Gives (xs ++ ys) m k
    → Gives (us ++ vs) m k
both_give xs ys us vs m k p q g = go (append_gives xs ys m k g) where
  go : Gives xs m k ⊎ Gives ys m k → Gives (us ++ vs) m k
  go (inl x) = front_gives us vs m k (permuted_gives xs us m k p x)
  go (inr y) = back_gives us vs m k (permuted_gives ys vs m k q y)

-- so the canonical list of what both give within a range stays the same
both_line : (a b : ℕ) (xs ys us vs inside : List Span) → IsPermutation xs us → IsPermutation ys vs
    → IsCanonicalOf (λ m k. IsWithin a b m × Gives (us ++ vs) m k) inside
    → IsCanonicalOf (λ m k. IsWithin a b m × Gives (xs ++ ys) m k) inside
both_line a b xs ys us vs inside p q h = record {
  canonical = h.canonical;
  same = λ m k. (
    λ g. let d = (h.same m k).0 g in (d.0, both_give us vs xs ys m k (IsPermutation-sym xs us p) (IsPermutation-sym ys vs q) d.1),
    λ d. (h.same m k).1 (d.0, both_give xs ys us vs m k p q d.1),
  );
}

-- ---- entries, one of them withdrawn

-- none of them is empty
full_marked : (i number : ℕ) (es : List Entry) → AreFull es → AreFull (marked_from i number es)
full_marked i number [] h = tt
full_marked i number (e ∷ es) h = go (i == number) (full_marked (i + 1) number es h.1) where
  go : (b : Bool) → AreFull (marked_from (i + 1) number es)
      → AreFull (cond b (record e { withdrawn = true } ∷ es) (e ∷ marked_from (i + 1) number es))
  go true more = h
  go false more = (h.0, more)

-- the entry that was found isn't empty
full_found : (i number : ℕ) (es : List Entry) (e : Entry) → entry_from i number es ≡ Some e → AreFull es → e.start < e.past
full_found i number [] e f h = cc
full_found i number (x ∷ es) e f h = go (i == number) f (λ g. full_found (i + 1) number es e g h.1) where
  go : (b : Bool) → cond b (Some x) (entry_from (i + 1) number es) ≡ Some e
      → (entry_from (i + 1) number es ≡ Some e → e.start < e.past) → e.start < e.past
  go true g more = let same : x ≡ e = cc in subst (λ (y : Entry). y.start < y.past) same h.0
  go false g more = more g

-- the number of entries stays the same
marked_length : (i number : ℕ) (es : List Entry) → length (marked_from i number es) ≡ length es
marked_length i number [] = refl
marked_length i number (e ∷ es) = go (i == number) (marked_length (i + 1) number es) where
  go : (b : Bool) → length (marked_from (i + 1) number es) ≡ length es
      → length (cond b (record e { withdrawn = true } ∷ es) (e ∷ marked_from (i + 1) number es)) ≡ length (e ∷ es)
  go true h = refl
  go false h = omega (arith, h)

-- ---- the tables after a withdrawal

-- what a withdrawal reads near the entry, and what it puts inside it
pub record IsRenewed (t : Tables) (n number : ℕ) (e : Entry) (cards others helds : List StoredSpan) (inside : List Span)
    : Type 0 where
  pub cards_near : IsReadNear t.card_spans n e.start e.past cards
  pub others_near : IsKeptNear (map (with_withdrawn n number) t.entries) n e.start e.past others
  pub helds_near : IsReadNear t.held n e.start e.past helds
  pub is_inside : IsCanonicalOf (λ m k. IsWithin e.start e.past m
      × Gives (map stored_span cards ++ map stored_span others) m k) inside

-- the tables represent the driver with the entry withdrawn
withdrawn_own : (t : Tables) (d : Driver) (number : ℕ) (e : Entry) (cards others helds : List StoredSpan) (inside : List Span)
    → RowsRepresent t d → entry_from 1 number d.entries ≡ Some e → IsRenewed t d.number number e cards others helds inside
    → RowsRepresent (with_renewed d.number number e.start e.past (outside e.start e.past (map stored_span helds) ++ inside) t)
    (with_marked number d)
withdrawn_own t d number e cards others helds inside h f r = record {
  downloads = h.downloads;
  read = h.read;
  entries = rows;
  full = full_marked 1 number d.entries h.full;
  card_spans = h.card_spans;
  held = subst (λ (x : List Span). GiveExactly x (Held (with_marked number d)))
      (sym (renewed_own d.number e.start e.past (outside e.start e.past (map stored_span helds) ++ inside) t.held))
      (kept_again (spans_of d.number t.held) (map stored_span helds) inside (Held (with_marked number d)) e.start e.past full
      h.held.disjoint (near_read t.held d.number e.start e.past helds r.helds_near)
      (disjoint_canonical inside r.is_inside.canonical) (λ m k g. ((r.is_inside.same m k).0 g).0)
      (withdrawn_held d number e (spans_of d.number t.card_spans) (spans_of d.number t.held) inside h.card_spans h.held f full
      line));
} where
  rows : driver_entry_rows d.number (map (with_withdrawn d.number number) t.entries)
      ≡ rows_of_entries d.number 1 (marked_from 1 number d.entries)
  rows =
      marked_own d.number number t.entries
      ∙ ap (λ (x : List EntryRow). map (with_withdrawn d.number number) x) h.entries
      ∙ marked_rows d.number 1 number d.entries

  full : e.start ≤ e.past
  full = let l = full_found 1 number d.entries e f h.full in omega (arith, l)

  line : IsCanonicalOf (λ m k. IsWithin e.start e.past m × Gives (near e.start e.past (spans_of d.number t.card_spans)
      ++ near e.start e.past (entered_spans (marked_from 1 number d.entries))) m k) inside
  line =
      both_line e.start e.past (near e.start e.past (spans_of d.number t.card_spans))
      (near e.start e.past (entered_spans (marked_from 1 number d.entries)))
      (map stored_span cards) (map stored_span others) inside
      (near_read t.card_spans d.number e.start e.past cards r.cards_near)
      (near_kept (map (with_withdrawn d.number number) t.entries) d.number e.start e.past (marked_from 1 number d.entries)
      others rows r.others_near)
      r.is_inside

-- no row of another driver changes
withdrawn_other : (t : Tables) (n number a b : ℕ) (spans : List Span) (j : ℕ) → j ≢ n
    → SameOfDriver j t (with_renewed n number a b spans t)
withdrawn_other t n number a b spans j d = record {
  downloads = refl;
  entries = marked_other j n number t.entries d;
  card_spans = refl;
  held = renewed_other j n a b spans t.held d;
}

-- an update that changes no column leaves the rows of drivers as they were
same_rows : (n : ℕ) (rows : List DriverRow) → map (updated n (λ (x : DriverRow). x)) rows ≡ rows
same_rows n [] = refl
same_rows n (r ∷ rows) =
    ap (λ (x : DriverRow). x ∷ map (updated n (λ (x : DriverRow). x)) rows) (go (r.driver == n))
    ∙ ap (λ (x : List DriverRow). r ∷ x) (same_rows n rows) where
      go : (b : Bool) → cond b r r ≡ r
      go true = refl
      go false = refl

-- the tables represent the state after a withdrawal, by the driver's own number
withdrawn_at : (t : Tables) (s : State) (d : Driver) (number : ℕ) (e : Entry) (cards others helds : List StoredSpan)
    (inside : List Span) → TablesRepresent t s → driver_of d.number s ≡ Some d → entry_from 1 number d.entries ≡ Some e
    → IsRenewed t d.number number e cards others helds inside
    → TablesRepresent (with_renewed d.number number e.start e.past (outside e.start e.past (map stored_span helds) ++ inside) t)
    (put (with_marked number d) s)
withdrawn_at t s d number e cards others helds inside h k f r =
    let n = d.number in
    let next = with_marked number d in
    let spans = outside e.start e.past (map stored_span helds) ++ inside in
    put_is t (with_renewed n number e.start e.past spans t) n next d s h k refl (record { key = refl; holder = refl })
    (h.drivers ∙ sym (same_rows n (map driver_columns s))
    ∙ rows_put (λ (x : DriverRow). x) n next d s k refl h.distinct
    (ap (λ (y : ℕ). record (driver_columns d) { entries = y }) (sym (marked_length 1 number d.entries))))
    (withdrawn_own t d number e cards others helds inside (found_of t n s d k h.each) f r)
    (λ j o. withdrawn_other t n number e.start e.past spans j o)
    (record {
      card_spans = h.marked.card_spans;
      held = added_marks n (filter (λ r. not (is_row_near n e.start e.past r)) t.held) spans
          (All-filter (λ r. not (is_row_near n e.start e.past r)) (λ r. IsMark r.mark) t.held h.marked.held);
    })

-- the tables after a withdrawal represent the state after it
pub withdrawn_is : (t : Tables) (s : State) (n : ℕ) (d : Driver) (number : ℕ) (e : Entry) (cards others helds : List StoredSpan)
    (inside : List Span) → TablesRepresent t s → driver_of n s ≡ Some d → entry_from 1 number d.entries ≡ Some e
    → IsReadNear t.card_spans n e.start e.past cards
    → IsKeptNear (map (with_withdrawn n number) t.entries) n e.start e.past others
    → IsReadNear t.held n e.start e.past helds
    → IsCanonicalOf (λ m k. IsWithin e.start e.past m × Gives (map stored_span cards ++ map stored_span others) m k) inside
    → TablesRepresent (with_renewed n number e.start e.past (outside e.start e.past (map stored_span helds) ++ inside) t)
    (put (with_marked number d) s)
withdrawn_is t s n d number e cards others helds inside h k f c o r i =
    subst (λ (j : ℕ). driver_of j s ≡ Some d → IsRenewed t j number e cards others helds inside
    → TablesRepresent (with_renewed j number e.start e.past (outside e.start e.past (map stored_span helds) ++ inside) t)
    (put (with_marked number d) s))
    (found_number n s d k) (λ k r. withdrawn_at t s d number e cards others helds inside h k f r) k
    (record { cards_near = c; others_near = o; helds_near = r; is_inside = i })

-- The tables after a batch of entries.
use Rattle.std.proofs.Common.{◌≡◌, ◌≢◌, ℕ, ◌+◌, ◌==◌, cond, List, [], ◌∷◌, ◌++◌, Some, length, map, refl, sym, ap, ◌∙◌, subst, arith}
use Rattle.std.proofs.lemmas.List.{append-nil}
use Rattle.std.proofs.lemmas.List.Elements.{filter-append}
use Rattle.tacho_time.specs.declared.span.Span.{Span}
use Rattle.tacho_time.specs.Spans.{Gives, IsCanonicalOf}
use Rattle.tacho_line.specs.Line.{AreGains}
use Rattle.tacho_state.specs.Disjoint.{GiveExactly, near, AreInRange}
use Rattle.tacho_state.specs.State.{Entry, Driver, State, Held, AreFull, driver_of, entered_spans, put, with_batch}
use Rattle.tacho_state.proofs.GainLemmas.{batch_kept}
use Rattle.tacho_state.proofs.EqualLemmas.{eq_not, eq_self}
use Rattle.tacho_tables.specs.Rows.{DriverRow, EntryRow}
use Rattle.tacho_tables.specs.Tables.{Tables, with_entries}
use Rattle.tacho_reading.specs.Standing.{driver_columns, entry_row, rows_of_entries, driver_entry_rows, spans_of, RowsRepresent, TablesRepresent}
use Rattle.tacho_reading.proofs.RowLemmas.{added_own, added_other, added_marks}
use Rattle.tacho_state.proofs.PutLemmas.{found_number}
use Rattle.tacho_reading.proofs.StateLemmas.{SameOfDriver, found_of, put_is, rows_put}
use Rattle.tacho_store.specs.After.{with_entered}

-- ---- rows of a batch

-- the rows of appended entries come after the rows of the entries before them
rows_append : (n i : ℕ) (es fs : List Entry) → rows_of_entries n i (es ++ fs) ≡ rows_of_entries n i es ++ rows_of_entries n (i + length es) fs
rows_append n i [] fs = ap (λ (k : ℕ). rows_of_entries n k fs) (omega arith)
rows_append n i (e ∷ es) fs =
    let d : (i + 1) + length es ≡ i + length (e ∷ es) = omega arith in
    ap (λ (y : List EntryRow). entry_row n i e ∷ y) (rows_append n (i + 1) es fs)
    ∙ ap (λ (k : ℕ). entry_row n i e ∷ (rows_of_entries n (i + 1) es ++ rows_of_entries n k fs)) d

-- the rows of a driver's entries have the driver's number
own_rows : (n i : ℕ) (es : List Entry) → driver_entry_rows n (rows_of_entries n i es) ≡ rows_of_entries n i es
own_rows n i [] = refl
own_rows n i (e ∷ es) =
    let more = driver_entry_rows n (rows_of_entries n (i + 1) es) in
    ap (λ b. cond b (entry_row n i e ∷ more) more) (eq_self n)
    ∙ ap (λ (x : List EntryRow). entry_row n i e ∷ x) (own_rows n (i + 1) es)

-- none of them has another driver's number
other_rows : (j n i : ℕ) (es : List Entry) → j ≢ n → driver_entry_rows j (rows_of_entries n i es) ≡ []
other_rows j n i [] d = refl
other_rows j n i (e ∷ es) d =
    let more = driver_entry_rows j (rows_of_entries n (i + 1) es) in
    ap (λ b. cond b (entry_row n i e ∷ more) more) (eq_not n j (λ f. d (sym f))) ∙ other_rows j n (i + 1) es d

-- the entries are counted
more_entries : (es fs : List Entry) → length es + length fs ≡ length (es ++ fs)
more_entries [] fs = omega arith
more_entries (e ∷ es) fs = let d = more_entries es fs in omega (arith, d)

-- if no entry of either list is empty, none of the joined list is
full_append : (es fs : List Entry) → AreFull es → AreFull fs → AreFull (es ++ fs)
full_append [] fs h f = f
full_append (e ∷ es) fs h f = (h.0, full_append es fs h.1 f)

-- ---- the tables after a batch

-- the tables represent the driver with the batch
entered_own : (t : Tables) (d : Driver) (batch : List Entry) (line gains : List Span) (a b : ℕ) → RowsRepresent t d → AreFull batch
    → AreInRange a b (entered_spans batch)
    → IsCanonicalOf (Gives (near a b (spans_of d.number t.held))) line → AreGains line (entered_spans batch) gains
    → RowsRepresent (with_entered d.number (1 + length d.entries) (length d.entries + length batch) batch gains t) (with_batch batch d)
entered_own t d batch line gains a b h w r l g = record {
  downloads = h.downloads;
  read = h.read;
  entries =
      filter-append (λ (x : EntryRow). x.driver == d.number) t.entries (rows_of_entries d.number (1 + length d.entries) batch)
      ∙ ap (λ (x : List EntryRow). x ++ driver_entry_rows d.number (rows_of_entries d.number (1 + length d.entries) batch)) h.entries
      ∙ ap (λ (x : List EntryRow). rows_of_entries d.number 1 d.entries ++ x) (own_rows d.number (1 + length d.entries) batch)
      ∙ sym (rows_append d.number 1 d.entries batch);
  full = full_append d.entries batch h.full w;
  card_spans = h.card_spans;
  held = subst (λ (x : List Span). GiveExactly x (Held (with_batch batch d))) (sym (added_own d.number t.held gains))
      (batch_kept d (spans_of d.number t.held) line gains batch a b h.held r l g);
}

-- no row of another driver changes
entered_other : (t : Tables) (n first count : ℕ) (batch : List Entry) (gains : List Span) (j : ℕ) → j ≢ n
    → SameOfDriver j t (with_entered n first count batch gains t)
entered_other t n first count batch gains j d = record {
  downloads = refl;
  entries =
      filter-append (λ (x : EntryRow). x.driver == j) t.entries (rows_of_entries n first batch)
      ∙ ap (λ (x : List EntryRow). driver_entry_rows j t.entries ++ x) (other_rows j n first batch d)
      ∙ append-nil (driver_entry_rows j t.entries);
  card_spans = refl;
  held = added_other j n t.held gains d;
}

-- the tables represent the state after a batch, by the driver's own number
entered_at : (t : Tables) (s : State) (d : Driver) (batch : List Entry) (line gains : List Span) (a b : ℕ) → TablesRepresent t s
    → driver_of d.number s ≡ Some d → AreFull batch → AreInRange a b (entered_spans batch)
    → IsCanonicalOf (Gives (near a b (spans_of d.number t.held))) line → AreGains line (entered_spans batch) gains
    → TablesRepresent (with_entered d.number (1 + length d.entries) (length d.entries + length batch) batch gains t)
    (put (with_batch batch d) s)
entered_at t s d batch line gains a b h k w r l g =
    let n = d.number in
    let count = length d.entries + length batch in
    let next = with_batch batch d in
    put_is t (with_entered n (1 + length d.entries) count batch gains t) n next d s h k refl (record { key = refl; holder = refl })
    (ap (λ (x : List DriverRow). map (with_entries n count) x) h.drivers
    ∙ rows_put (λ r. record r { entries = count }) n next d s k refl h.distinct
    (ap (λ (y : ℕ). record (driver_columns d) { entries = y }) (more_entries d.entries batch)))
    (entered_own t d batch line gains a b (found_of t n s d k h.each) w r l g)
    (λ j o. entered_other t n (1 + length d.entries) count batch gains j o)
    (record { card_spans = h.marked.card_spans; held = added_marks n t.held gains h.marked.held })

-- the tables after a batch represent the state after it
pub entered_is : (t : Tables) (s : State) (n : ℕ) (d : Driver) (batch : List Entry) (line gains : List Span) (a b : ℕ)
    → TablesRepresent t s → driver_of n s ≡ Some d → AreFull batch → AreInRange a b (entered_spans batch)
    → IsCanonicalOf (Gives (near a b (spans_of n t.held))) line → AreGains line (entered_spans batch) gains
    → TablesRepresent (with_entered n (1 + length d.entries) (length d.entries + length batch) batch gains t) (put (with_batch batch d) s)
entered_is t s n d batch line gains a b h k w r l g =
    subst (λ (j : ℕ). driver_of j s ≡ Some d → IsCanonicalOf (Gives (near a b (spans_of j t.held))) line
    → TablesRepresent (with_entered j (1 + length d.entries) (length d.entries + length batch) batch gains t)
    (put (with_batch batch d) s))
    (found_number n s d k) (λ k l. entered_at t s d batch line gains a b h k w r l g) k l

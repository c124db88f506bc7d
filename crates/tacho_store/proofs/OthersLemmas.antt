-- If a step changes nothing of a driver, it keeps that driver's rows.
use Rattle.std.proofs.Common.{◌≡◌, ◌≢◌, ◌∙◌, ◌⊎◌, inl, inr, ℕ, ◌==◌, ◌&&◌, nat_lt, Bool, true, false, cond, List, [], ◌∷◌, ◌++◌, map, filter, not, Option, Some, None, refl, sym, ap, subst, arith}
use Rattle.std.proofs.lemmas.List.{append-nil}
use Rattle.std.proofs.lemmas.List.Elements.{filter-append}
use Rattle.sqlite.specs.Tree.{Trees}
use Rattle.tacho_time.specs.declared.span.Span.{Span}
use Rattle.tacho_line.specs.Line.{AreGains}
use Rattle.tacho_state.specs.Distinct.{AreDistinct}
use Rattle.tacho_state.specs.State.{Entry, Driver, State, driver_of, entered_spans, put, with_download, with_batch}
use Rattle.tacho_state.proofs.EqualLemmas.{eq_not, eq_true}
use Rattle.tacho_state.proofs.DistinctLemmas.{number_not}
use Rattle.tacho_tables.specs.Rows.{SpanRow, DownloadRow, EntryRow, DriverRow}
use Rattle.tacho_tables.specs.Tables.{Tables, HasTables, has_number, is_of, is_row_near}
use Rattle.tacho_reading.specs.Standing.{Represents, TablesRepresent, HaveSameRowsOf, KeepsRowsOf, Follows, driver_columns, downloads_of, driver_entry_rows, rows_of_downloads, rows_of_entries, span_row}
use Rattle.tacho_store.specs.Withdrawing.{HaveSameSpansOf}
use Rattle.tacho_state.proofs.PutLemmas.{found_number, put_found}
use Rattle.tacho_reading.proofs.StateLemmas.{found_of}
use Rattle.tacho_reading.proofs.DriverRowLemmas.{no_number_row}
use Rattle.tacho_reading.proofs.EntryLemmas.{entry_all}

-- ---- rows of a state

-- the row of a driver
abbrev driver_told : Option Driver → List DriverRow
driver_told None = []
driver_told (Some d) = driver_columns d ∷ []

-- the rows of the driver's downloads
abbrev downloads_told : ℕ → Option Driver → List DownloadRow
downloads_told n None = []
downloads_told n (Some d) = rows_of_downloads n 1 d.downloads

-- the rows of the driver's entries
abbrev entries_told : ℕ → Option Driver → List EntryRow
entries_told n None = []
entries_told n (Some d) = rows_of_entries n 1 d.entries

-- the rows with a driver's number, among those of a state, are that driver's row
own_row : (n : ℕ) (s : State) → AreDistinct s → filter (has_number n) (map driver_columns s) ≡ driver_told (driver_of n s)
own_row n [] h = refl
own_row n (x ∷ s) h = go (x.number == n) refl (own_row n s h.3) where
  go : (b : Bool) → (x.number == n) ≡ b → filter (has_number n) (map driver_columns s) ≡ driver_told (driver_of n s)
      → cond b (driver_columns x ∷ filter (has_number n) (map driver_columns s)) (filter (has_number n) (map driver_columns s))
      ≡ driver_told (cond b (Some x) (driver_of n s))
  go true o more = ap (λ (rows : List DriverRow). driver_columns x ∷ rows)
      (subst (λ (k : ℕ). filter (has_number k) (map driver_columns s) ≡ []) (eq_true x.number n o) (no_number_row x.number s h.0))
  go false o more = more

-- the rows with a driver's number, in the table, are those of the state
drivers_are : (t : Tables) (s : State) (n : ℕ) → TablesRepresent t s → filter (has_number n) t.drivers ≡ driver_told (driver_of n s)
drivers_are t s n of = ap (λ (rows : List DriverRow). filter (has_number n) rows) of.drivers ∙ own_row n s of.distinct

-- likewise for the driver's downloads
downloads_are : (t : Tables) (s : State) (n : ℕ) → TablesRepresent t s → downloads_of n t.downloads ≡ downloads_told n (driver_of n s)
downloads_are t s n of = go (driver_of n s) refl where
  go : (o : Option Driver) → driver_of n s ≡ o → downloads_of n t.downloads ≡ downloads_told n o
  go None e = of.known.downloads n (number_not n s e)
  go (Some d) e = subst (λ (j : ℕ). downloads_of j t.downloads ≡ rows_of_downloads j 1 d.downloads) (found_number n s d e)
      (found_of t n s d e of.each).downloads

-- likewise for the driver's entries
entries_are : (t : Tables) (s : State) (n : ℕ) → TablesRepresent t s → driver_entry_rows n t.entries ≡ entries_told n (driver_of n s)
entries_are t s n of = go (driver_of n s) refl where
  go : (o : Option Driver) → driver_of n s ≡ o → driver_entry_rows n t.entries ≡ entries_told n o
  go None e = of.known.entries n (number_not n s e)
  go (Some d) e = entry_all t s n d of e

-- ---- what follows

-- if two states agree on a driver, their tables have the same rows of that driver, other than spans
same_rows : (t u : Tables) (s after : State) (n : ℕ) → TablesRepresent t s → TablesRepresent u after → driver_of n after ≡ driver_of n s
    → HaveSameSpansOf n t u → HaveSameRowsOf n t u
same_rows t u s after n of is same spans = record {
  drivers = drivers_are t s n of ∙ ap driver_told (sym same) ∙ sym (drivers_are u after n is);
  downloads = downloads_are t s n of ∙ ap (downloads_told n) (sym same) ∙ sym (downloads_are u after n is);
  card_spans = spans.card_spans;
  entries = entries_are t s n of ∙ ap (entries_told n) (sym same) ∙ sym (entries_are u after n is);
  held = spans.held;
}

-- so tables with the same rows of spans follow
pub followed : (db next : Trees) (t u : Tables) (s after : State) → HasTables db t → TablesRepresent t s → HasTables next u → TablesRepresent u after
    → ((n : ℕ) → driver_of n after ≡ driver_of n s → HaveSameSpansOf n t u) → Follows db next s after
unfolding Represents KeepsRowsOf
followed db next t u s after stand of stand_next is spans = record {
  stands = (u, stand_next, is);
  others = λ n same. (t, u, stand, stand_next, same_rows t u s after n of is same (spans n same));
}

-- tables that haven't changed have the same rows
pub kept_rows : (n : ℕ) (db : Trees) (s : State) → Represents db s → KeepsRowsOf n db db
unfolding Represents KeepsRowsOf
kept_rows n db s (t, stand, of) =
    (t, t, stand, stand, record { drivers = refl; downloads = refl; card_spans = refl; entries = refl; held = refl })

-- unchanged tables follow
pub unchanged_follows : (db : Trees) (s : State) → Represents db s → Follows db db s s
unchanged_follows db s stands = record { stands = stands; others = λ n same. kept_rows n db s stands }

-- ---- rows of another driver

-- another driver's number finds none of the driver's rows
none_other : (j n : ℕ) (spans : List Span) → j ≢ n → filter (is_of j) (map (span_row n) spans) ≡ []
none_other j n [] d = refl
none_other j n (x ∷ spans) d =
    let more = filter (is_of j) (map (span_row n) spans) in
    ap (λ b. cond b (span_row n x ∷ more) more) (eq_not n j (λ e. d (sym e))) ∙ none_other j n spans d

-- so if the driver gets more rows, another driver's stay as they were
pub added_kept : (j n : ℕ) (rows : List SpanRow) (spans : List Span) → j ≢ n
    → filter (is_of j) rows ≡ filter (is_of j) (rows ++ map (span_row n) spans)
added_kept j n rows spans d = sym
    (filter-append (is_of j) rows (map (span_row n) spans)
    ∙ ap (λ (x : List SpanRow). filter (is_of j) rows ++ x) (none_other j n spans d)
    ∙ append-nil (filter (is_of j) rows))

-- if no removed row is a driver's, all rows of that driver remain
own_left : (p q : SpanRow → Bool) (rows : List SpanRow) → ((r : SpanRow) → p r ≡ false → q r ≡ false)
    → filter q rows ≡ filter q (filter p rows)
own_left p q [] h = refl
own_left p q (r ∷ rows) h = go (p r) refl (own_left p q rows h) where
  go : (b : Bool) → p r ≡ b → filter q rows ≡ filter q (filter p rows)
      → filter q (r ∷ rows) ≡ filter q (cond b (r ∷ filter p rows) (filter p rows))
  go true e more = ap (λ (x : List SpanRow). cond (q r) (r ∷ x) x) more
  go false e more = ap (λ b. cond b (r ∷ filter q rows) (filter q rows)) (h r e) ∙ more

-- the rows that are removed near a range are the driver's
near_is_own : (n a b : ℕ) (r : SpanRow) → not (is_row_near n a b r) ≡ false → r.driver ≡ n
near_is_own n a b r near = go (r.driver == n) refl near where
  go : (o : Bool) → (r.driver == n) ≡ o → not (o && (nat_lt r.start b && nat_lt a r.past)) ≡ false → r.driver ≡ n
  go true o near = eq_true r.driver n o
  go false o near = absurd (let wrong = near in cc)

-- so another driver's rows remain
far_kept : (j n a b : ℕ) (rows : List SpanRow) → j ≢ n
    → filter (is_of j) rows ≡ filter (is_of j) (filter (λ r. not (is_row_near n a b r)) rows)
far_kept j n a b rows d =
    own_left (λ r. not (is_row_near n a b r)) (is_of j) rows
    (λ r near. eq_not r.driver j (λ e. d (sym e ∙ near_is_own n a b r near)))

-- likewise if some of the driver's rows are removed and others added
pub renewed_kept : (j n a b : ℕ) (rows : List SpanRow) (spans : List Span) → j ≢ n
    → filter (is_of j) rows ≡ filter (is_of j) (filter (λ r. not (is_row_near n a b r)) rows ++ map (span_row n) spans)
renewed_kept j n a b rows spans d =
    far_kept j n a b rows d ∙ added_kept j n (filter (λ r. not (is_row_near n a b r)) rows) spans d

-- ---- a driver who is changed

-- if a step changes one driver, a driver whom it leaves as they were is a different one
pub is_another : (n : ℕ) (d next : Driver) (s : State) → driver_of n s ≡ Some d → next.number ≡ n → next ≢ d
    → (j : ℕ) → driver_of j (put next s) ≡ driver_of j s → j ≢ n
is_another n d next s is number changed j same e =
    let now : driver_of n (put next s) ≡ Some next =
    subst (λ (k : ℕ). driver_of k s ≡ Some d → driver_of k (put next s) ≡ Some next) number (put_found next d s) is in
    let still : driver_of n (put next s) ≡ driver_of n s = subst (λ (k : ℕ). driver_of k (put next s) ≡ driver_of k s) e same in
    let both : Some next ≡ Some d = sym now ∙ still ∙ is in
    changed (cc)

-- a list with more elements after it is a different list
more_after : {A : Type 0} (xs ys : List A) (y : A) → xs ++ y ∷ ys ≢ xs
more_after [] ys y e = cc
more_after (x ∷ xs) ys y e = let rest : xs ++ y ∷ ys ≡ xs = cc in more_after xs ys y rest

-- so a download changes its driver
pub download_changes : (part : ℕ) (file : List ℕ) (spans : List Span) (d : Driver) → with_download part file spans d ≢ d
download_changes part file spans d e =
    more_after d.downloads [] (record { part = part; file = file; spans = spans }) (ap (λ (x : Driver). x.downloads) e)

-- a batch that isn't empty changes its driver
pub batch_changes : (first : Entry) (batch : List Entry) (d : Driver) → with_batch (first ∷ batch) d ≢ d
batch_changes first batch d e = more_after d.entries batch first (ap (λ (x : Driver). x.entries) e)

-- ---- a batch without lines

-- a list without spans has no gains
no_gains : (line gains : List Span) → AreGains line [] gains → gains ≡ []
no_gains line [] h = refl
no_gains line (x ∷ gains) h =
    let full = h.new.canonical.0 in
    absurd ((h.new.same x.start x.mark).0 (inl ((omega arith, full), refl))).0

-- if a batch leaves a driver as they were, it is a different driver's, or it has no lines and gives nothing
pub another_or_none : (n : ℕ) (d : Driver) (s : State) (batch : List Entry) (line gains : List Span) → driver_of n s ≡ Some d
    → AreGains line (entered_spans batch) gains
    → (j : ℕ) → driver_of j (put (with_batch batch d) s) ≡ driver_of j s → (gains ≡ []) ⊎ (j ≢ n)
another_or_none n d s [] line gains is gained j same = inl (no_gains line gains gained)
another_or_none n d s (first ∷ batch) line gains is gained j same =
    inr (is_another n d (with_batch (first ∷ batch) d) s is (found_number n s d is) (batch_changes first batch d) j same)

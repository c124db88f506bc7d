-- The tables of whole members represent their state.
use Rattle.std.proofs.Common.{◌≡◌, ◌≢◌, ◌∙◌, ℕ, ◌+◌, ◌==◌, inl, inr, Bool, true, false, cond, List, [], ◌∷◌, ◌++◌, map, filter, flat_map, refl, sym, ap, subst}
use Rattle.std.specs.List.{All, AllByRecursion}
use Rattle.std.proofs.lemmas.List.{append-nil}
use Rattle.std.proofs.lemmas.List.Elements.{All-nil, All-append, filter-append}
use Rattle.sqlite_rules.specs.Lists.{Has}
use Rattle.sqlite_keyed.proofs.ListLemmas.{all_weaker}
use Rattle.sqlite_trees.proofs.ListLemmas.{map-map, filter_all, filter_none}
use Rattle.tacho_time.specs.declared.span.Span.{Span}
use Rattle.tacho_state.specs.Distinct.{HasNot, AreDistinct}
use Rattle.tacho_state.specs.State.{Download, Entry, IsDownloaded, Held}
use Rattle.tacho_state.specs.Disjoint.{GiveExactly}
use Rattle.tacho_state.proofs.EqualLemmas.{eq_not, eq_self}
use Rattle.tacho_tables.specs.Rows.{SpanRow, DownloadRow, EntryRow}
use Rattle.tacho_reading.specs.Standing.{RowsRepresentEach, TablesRepresent, driver_columns, rows_of_downloads, rows_of_entries, row_span, span_row, spans_of}
use Rattle.tacho_state.specs.Numbers.{IsMark}
use Rattle.tacho_reading.proofs.RowLemmas.{added_own, added_marks}
use Rattle.tacho_check.specs.Member.{Member, IsWhole, downloads_in, entries_in, state_of, tables_of}

-- ---- rows of a list of members

-- a member of the list has another number than a driver who isn't in the state
pub not_there : (n : ℕ) (ms : List Member) (m : Member) → HasNot n (state_of ms) → Has ms m → m.driver.number ≢ n
not_there n [] m h has = absurd has
not_there n (x ∷ ms) m h (inl is) = subst (λ (y : Member). y.driver.number ≢ n) (sym is) h.0
not_there n (x ∷ ms) m h (inr later) = not_there n ms m h.1 later

module _ {X : Type 0} (key : X → ℕ) where
  -- all of these rows are a driver's
  pub pass_all : (n : ℕ) (xs : List X) → AllByRecursion (λ x. key x ≡ n) xs → filter (λ x. key x == n) xs ≡ xs
  pass_all n xs h = filter_all (λ x. key x == n) xs (all_weaker (λ x. key x ≡ n) (λ x. (key x == n) ≡ true) (λ x e. rw e (eq_self n)) xs h)

  -- none of these rows is another driver's
  pub pass_none : (n k : ℕ) (xs : List X) → k ≢ n → AllByRecursion (λ x. key x ≡ k) xs → filter (λ x. key x == n) xs ≡ []
  pass_none n k xs other h =
      filter_none (λ x. key x == n) xs (all_weaker (λ x. key x ≡ k) (λ x. (key x == n) ≡ false) (λ x e. rw e (eq_not k n other)) xs h)

  module _ (f : Member → List X) (own : (m : Member) → AllByRecursion (λ x. key x ≡ m.driver.number) (f m)) where
    -- a driver who isn't in the state has no rows
    pub none_of : (n : ℕ) (ms : List Member) → HasNot n (state_of ms) → filter (λ x. key x == n) (flat_map f ms) ≡ []
    none_of n [] h = refl
    none_of n (m ∷ ms) h =
        filter-append (λ x. key x == n) (f m) (flat_map f ms)
        ∙ ap (λ (xs : List X). xs ++ filter (λ x. key x == n) (flat_map f ms)) (pass_none n m.driver.number (f m) h.0 (own m))
        ∙ none_of n ms h.1

    -- a member's rows are its own
    pub one_of : (ms : List Member) (m : Member) → AreDistinct (state_of ms) → Has ms m
        → filter (λ x. key x == m.driver.number) (flat_map f ms) ≡ f m
    one_of [] m d has = absurd has
    one_of (x ∷ ms) m d (inl is) =
        let n = m.driver.number in
        let none : HasNot n (state_of ms) = subst (λ (y : Member). HasNot y.driver.number (state_of ms)) (sym is) d.0 in
        filter-append (λ x. key x == n) (f x) (flat_map f ms)
        ∙ ap (λ (xs : List X). filter (λ x. key x == n) (f x) ++ xs) (none_of n ms none)
        ∙ append-nil (filter (λ x. key x == n) (f x))
        ∙ subst (λ (y : Member). filter (λ x. key x == n) (f y) ≡ f m) is (pass_all n (f m) (own m))
    one_of (x ∷ ms) m d (inr later) =
        let n = m.driver.number in
        let other : x.driver.number ≢ n = λ e. not_there x.driver.number ms m d.0 later (sym e) in
        filter-append (λ x. key x == n) (f x) (flat_map f ms)
        ∙ ap (λ (xs : List X). xs ++ filter (λ x. key x == n) (flat_map f ms)) (pass_none n x.driver.number (f x) other (own x))
        ∙ one_of ms m d.3 later

-- ---- whose the rows are

pub downloads_own : (n : ℕ) (ds : List Download) (i : ℕ) → AllByRecursion (λ (r : DownloadRow). r.driver ≡ n) (rows_of_downloads n i ds)
downloads_own n [] i = tt
downloads_own n (d ∷ ds) i = (refl, downloads_own n ds (i + 1))

pub entries_own : (n : ℕ) (es : List Entry) (i : ℕ) → AllByRecursion (λ (r : EntryRow). r.driver ≡ n) (rows_of_entries n i es)
entries_own n [] i = tt
entries_own n (e ∷ es) i = (refl, entries_own n es (i + 1))

pub spans_own : (n : ℕ) (ss : List Span) → AllByRecursion (λ (r : SpanRow). r.driver ≡ n) (map (span_row n) ss)
spans_own n [] = tt
spans_own n (s ∷ ss) = (refl, spans_own n ss)

-- ---- spans of rows

-- a driver's spans are those of the driver's rows
spans_filtered : (n : ℕ) (rows : List SpanRow) → spans_of n rows ≡ spans_of n (filter (λ r. r.driver == n) rows)
spans_filtered n [] = refl
spans_filtered n (r ∷ rows) = go (r.driver == n) refl (spans_filtered n rows) where
  kept : List SpanRow
  kept = filter (λ r. r.driver == n) rows

  go : (b : Bool) → (r.driver == n) ≡ b → spans_of n rows ≡ spans_of n kept
      → cond b (row_span r ∷ spans_of n rows) (spans_of n rows) ≡ spans_of n (cond b (r ∷ kept) kept)
  go true e more = ap (λ (xs : List Span). row_span r ∷ xs) more ∙ sym (ap (λ b. cond b (row_span r ∷ spans_of n kept) (spans_of n kept)) e)
  go false e more = more

module _ (g : Member → List Span) where
  -- the rows of spans of a member
  abbrev rows_in : Member → List SpanRow
  rows_in m = map (span_row m.driver.number) (g m)

  spans_none : (n : ℕ) (ms : List Member) → HasNot n (state_of ms) → spans_of n (flat_map rows_in ms) ≡ []
  spans_none n ms h = spans_filtered n (flat_map rows_in ms)
      ∙ ap (spans_of n) (none_of (λ (r : SpanRow). r.driver) rows_in (λ m. spans_own m.driver.number (g m)) n ms h)

  spans_one : (ms : List Member) (m : Member) → AreDistinct (state_of ms) → Has ms m → spans_of m.driver.number (flat_map rows_in ms) ≡ g m
  spans_one ms m d has = spans_filtered m.driver.number (flat_map rows_in ms)
      ∙ ap (spans_of m.driver.number) (one_of (λ (r : SpanRow). r.driver) rows_in (λ x. spans_own x.driver.number (g x)) ms m d has)
      ∙ added_own m.driver.number [] (g m)

  -- all of them have the numbers of marks
  spans_marked : (ms : List Member) → All (λ r. IsMark r.mark) (flat_map rows_in ms)
  spans_marked [] = All-nil (λ r. IsMark r.mark)
  spans_marked (m ∷ ms) = All-append (λ r. IsMark r.mark) (rows_in m) (flat_map rows_in ms)
      (added_marks m.driver.number [] (g m) (All-nil (λ r. IsMark r.mark))) (spans_marked ms)

-- ---- the state of members

-- the rows of each member represent it
each_member : (ms some : List Member) → AreDistinct (state_of ms) → ((m : Member) → Has some m → Has ms m) → AllByRecursion IsWhole some
    → RowsRepresentEach (tables_of ms) (state_of some)
each_member ms [] d within whole = tt
each_member ms (m ∷ some) d within whole =
    let has = within m (inl refl) in (
      record {
        downloads = one_of (λ (r : DownloadRow). r.driver) downloads_in
            (λ x. downloads_own x.driver.number x.driver.downloads 1) ms m d has;
        read = whole.0.read;
        entries = one_of (λ (r : EntryRow). r.driver) entries_in (λ x. entries_own x.driver.number x.driver.entries 1) ms m d has;
        full = whole.0.full;
        card_spans = subst (λ (ss : List Span). GiveExactly ss (IsDownloaded m.driver)) (sym (spans_one (λ x. x.cards) ms m d has)) whole.0.cards;
        held = subst (λ (ss : List Span). GiveExactly ss (Held m.driver)) (sym (spans_one (λ x. x.held) ms m d has)) whole.0.held;
      },
      each_member ms some d (λ x later. within x (inr later)) whole.1,
    )

-- the tables of whole members represent their state
pub members_represent : (ms : List Member) → AllByRecursion IsWhole ms → AreDistinct (state_of ms)
    → TablesRepresent (tables_of ms) (state_of ms)
members_represent ms whole d = record {
  drivers = sym (map-map driver_columns (λ m. m.driver) ms);
  distinct = d;
  each = each_member ms ms d (λ m has. has) whole;
  known = record {
    downloads = λ n h. none_of (λ (r : DownloadRow). r.driver) downloads_in
        (λ x. downloads_own x.driver.number x.driver.downloads 1) n ms h;
    entries = λ n h. none_of (λ (r : EntryRow). r.driver) entries_in (λ x. entries_own x.driver.number x.driver.entries 1) n ms h;
    card_spans = λ n h. spans_none (λ x. x.cards) n ms h;
    held = λ n h. spans_none (λ x. x.held) n ms h;
  };
  marked = record { card_spans = spans_marked (λ x. x.cards) ms; held = spans_marked (λ x. x.held) ms };
}

-- A driver whose row is stored has a member up to a table exactly if the rows of each table up to it fit.
use Rattle.std.proofs.Common.{◌≡◌, ◌∙◌, ℕ, zero, suc, pos, ◌≤◌, ◌⊎◌, inl, inr, List, [], ◌∷◌, ◌++◌, append-nil, map, length, refl, sym, ap, subst, arith}
use Rattle.std.specs.List.{AllByRecursion}
use Rattle.std.specs.List.Sorted.{IsPermutation}
use Rattle.sqlite.specs.Order.{Row}
use Rattle.sqlite_trees.proofs.ListLemmas.{IsPermutation-same}
use Rattle.tacho_time.specs.declared.span.Span.{Span}
use Rattle.tacho_time.specs.Spans.{Gives, IsCanonicalOf, IsFirstConflict}
use Rattle.tacho_time.proofs.ExistenceLemmas.{list_or_conflict}
use Rattle.tacho_card.specs.declared.file.Part.TheVariants.{Both}
use Rattle.tacho_state.specs.State.{Download, Entry, given_spans, entered_spans, AreFull}
use Rattle.tacho_state.specs.Disjoint.{GiveExactly}
use Rattle.tacho_state.proofs.DisjointLemmas.{disjoint_canonical, disjoint_agrees}
use Rattle.tacho_tables.specs.Rows.{DriverRow, driver_row, span_columns, download_columns, entry_columns}
use Rattle.tacho_state.specs.Content.{AreRead}
use Rattle.tacho_state.specs.Within.{AreColumns, HasColumns, IsEntry, IsOf}
use Rattle.tacho_tables.specs.declared.table.TableName.{TableName}
use Rattle.tacho_tables.specs.declared.table.TableName.TheVariants.{Drivers, Downloads, CardSpans, EntryRows, Held}
use Rattle.tacho_reading.specs.Standing.{driver_columns, rows_of_downloads, rows_of_entries, span_row}
use Rattle.tacho_check.specs.Check.{place}
use Rattle.tacho_check.specs.Registered.{HasOwnColumns, registration_in}
use Rattle.tacho_check.specs.Member.{Member, member_rows, HasMember}
use Rattle.tacho_check.specs.Fits.{Agrees, DownloadsFit, EntriesFit, SpansFit}
use Rattle.tacho_check.proofs.AbsentLemmas.{up_to}
use Rattle.tacho_check.proofs.SpreadLemmas.{single}
use Rattle.tacho_check.proofs.WitnessLemmas.{blank_tells, blank_holder, blank_downloads, blank_count, blank_given, blank_entries, entry_count, blank_entered, blank_full}

-- ---- spans that keep what others give

-- spans that agree have a list that keeps what they give
kept_list : (spans : List Span) → Agrees spans → (line : List Span) × GiveExactly line (Gives spans)
kept_list spans agrees = go (list_or_conflict spans) where
  go : ((runs : List Span) × IsCanonicalOf (Gives spans) runs) ⊎ ((m : ℕ) × IsFirstConflict (Gives spans) m) → (line : List Span)
      × GiveExactly line (Gives spans)
  go (inl it) = (it.0, record { disjoint = disjoint_canonical it.0 it.1.canonical; same = it.1.same })
  go (inr it) = absurd (agrees it.0 it.1.0)

-- what is kept agrees
kept_agrees : (line spans : List Span) → GiveExactly line (Gives spans) → Agrees spans
kept_agrees line spans keeps m c =
    disjoint_agrees line m keeps.disjoint (c.0, c.1, (keeps.same m c.0).1 c.2, (keeps.same m c.1).1 c.3, c.4)

-- no spans keep what no spans give
nothing_kept : (spans : List Span) → spans ≡ [] → GiveExactly [] (Gives spans)
nothing_kept spans none = subst (λ (xs : List Span). GiveExactly [] (Gives xs)) (sym none)
    (record { disjoint = tt; same = λ m k. ((λ g. g), (λ g. g)) })

-- entries that give nothing change nothing
without_entries : (line spans more : List Span) → more ≡ [] → GiveExactly line (Gives spans) → GiveExactly line (Gives (spans ++ more))
without_entries line spans more none keeps =
    subst (λ (xs : List Span). GiveExactly line (Gives xs)) (sym (ap (λ (xs : List Span). spans ++ xs) none ∙ append-nil spans)) keeps

-- downloads of the blank file are read
blank_read : (n : ℕ) → AreRead (blank_downloads n)
unfolding blank_downloads
blank_read zero = tt
blank_read (suc n) = ((Both, blank_holder, refl, blank_tells), blank_read n)

-- files of one holder are read, and entries within their limits aren't empty
own_read : (holder : List ℕ) (ds : List Download) → AllByRecursion (IsOf holder) ds → AreRead ds
own_read holder [] h = tt
own_read holder (d ∷ ds) h = ((h.0.0, holder, h.0.1, h.0.2), own_read holder ds h.1)

within_full : (es : List Entry) → AllByRecursion IsEntry es → AreFull es
within_full [] h = tt
within_full (e ∷ es) h = (h.0.line.full, within_full es h.1)

module _ (rows : TableName → List Row) (r : DriverRow) (own : rows Drivers ≡ driver_row r ∷ []) (columns : HasOwnColumns r) where
  -- a member with the driver's row
  abbrev member_of : List Download → List Entry → List Span → List Span → Member
  member_of ds es cards held = record {
    driver = record { number = r.driver; holder = r.holder; key = r.secret; base = r.base; name = r.name; downloads = ds; entries = es };
    cards = cards;
    held = held;
  }

  -- its row is the driver's, where the counts are right
  row_is : (ds : List Download) (es : List Entry) (cards held : List Span) → length ds ≡ r.downloads → length es ≡ r.entries
      → driver_columns (member_of ds es cards held).driver ≡ r
  row_is ds es cards held first second =
      ap (λ (k : ℕ). record {
        driver = r.driver;
        holder = r.holder;
        secret = r.secret;
        base = r.base;
        name = r.name;
        downloads = k;
        entries = length es;
      }) first
      ∙ ap (λ (k : ℕ). record {
        driver = r.driver;
        holder = r.holder;
        secret = r.secret;
        base = r.base;
        name = r.name;
        downloads = r.downloads;
        entries = k;
      }) second

  -- its columns are within their limits then
  columns_of : (ds : List Download) (es : List Entry) (cards held : List Span) → length ds ≡ r.downloads → length es ≡ r.entries
      → HasColumns (member_of ds es cards held).driver
  columns_of ds es cards held first second =
      subst (λ (k : ℕ). AreColumns (registration_in r) k (length es)) (sym first)
      (subst (λ (k : ℕ). AreColumns (registration_in r) r.downloads k) (sym second) columns)

  -- a member up to a table, from what is known of each table up to it
  built : (k : TableName) (ds : List Download) (es : List Entry) (cards held : List Span) → AreRead ds → AreFull es
      → (1 ≤ place k → AllByRecursion (IsOf r.holder) ds) → (3 ≤ place k → AllByRecursion IsEntry es)
      → GiveExactly cards (Gives (given_spans ds)) → GiveExactly held (Gives (given_spans ds ++ entered_spans es))
      → length ds ≡ r.downloads → length es ≡ r.entries
      → (1 ≤ place k → IsPermutation (map download_columns (rows_of_downloads r.driver 1 ds)) (rows Downloads))
      → (2 ≤ place k → IsPermutation (map span_columns (map (span_row r.driver) cards)) (rows CardSpans))
      → (3 ≤ place k → IsPermutation (map entry_columns (rows_of_entries r.driver 1 es)) (rows EntryRows))
      → (4 ≤ place k → IsPermutation (map span_columns (map (span_row r.driver) held)) (rows Held))
      → HasMember rows (pos r.driver) k
  built k ds es cards held read full files entries card_keeps held_keeps first second a b c d = record {
    member = member_of ds es cards held;
    whole = record { read = read; full = full; cards = card_keeps; held = held_keeps };
    number = refl;
    within = record { columns = columns_of ds es cards held first second; files = files; entries = entries };
    same = up_to k (λ j. IsPermutation (member_rows j (member_of ds es cards held)) (rows j))
        (IsPermutation-same _ _ (ap (λ (x : DriverRow). driver_row x ∷ []) (row_is ds es cards held first second) ∙ sym own)) a b c d;
  }

  -- ---- rows that fit have a member

  pub drivers_have : HasMember rows (pos r.driver) Drivers
  drivers_have =
      let ds = blank_downloads r.downloads in
      let es = blank_entries r.entries in
      let none = nothing_kept (given_spans ds) (blank_given r.downloads) in
      built Drivers ds es [] [] (blank_read r.downloads) (blank_full r.entries) (λ before. absurd (omega (arith, before)))
      (λ before. absurd (omega (arith, before))) none
      (without_entries [] (given_spans ds) (entered_spans es) (blank_entered r.entries) none) (blank_count r.downloads)
      (entry_count r.entries) (λ before. absurd (omega (arith, before))) (λ before. absurd (omega (arith, before)))
      (λ before. absurd (omega (arith, before))) (λ before. absurd (omega (arith, before)))

  module _ (ds : List Download) (fit : DownloadsFit r.driver r.holder r.downloads (rows Downloads) ds) where
    pub downloads_have : HasMember rows (pos r.driver) Downloads
    downloads_have =
        let es = blank_entries r.entries in
        let line = kept_list (given_spans ds) fit.agrees in
        built Downloads ds es line.0 line.0 (own_read r.holder ds fit.own) (blank_full r.entries) (λ before. fit.own)
        (λ before. absurd (omega (arith, before))) line.1
        (without_entries line.0 (given_spans ds) (entered_spans es) (blank_entered r.entries) line.1) fit.count_is
        (entry_count r.entries) (λ before. fit.same) (λ before. absurd (omega (arith, before)))
        (λ before. absurd (omega (arith, before))) (λ before. absurd (omega (arith, before)))

    module _ (cards : List Span) (card_fit : SpansFit r.driver (rows CardSpans) (given_spans ds) cards) where
      pub cards_have : HasMember rows (pos r.driver) CardSpans
      cards_have =
          let es = blank_entries r.entries in
          built CardSpans ds es cards cards (own_read r.holder ds fit.own) (blank_full r.entries) (λ before. fit.own)
          (λ before. absurd (omega (arith, before))) card_fit.keeps
          (without_entries cards (given_spans ds) (entered_spans es) (blank_entered r.entries) card_fit.keeps) fit.count_is
          (entry_count r.entries) (λ before. fit.same) (λ before. card_fit.same) (λ before. absurd (omega (arith, before)))
          (λ before. absurd (omega (arith, before)))

      module _ (es : List Entry) (entry_fit : EntriesFit r.driver r.entries (rows EntryRows) (given_spans ds) es) where
        pub entries_have : HasMember rows (pos r.driver) EntryRows
        entries_have =
            let line = kept_list (given_spans ds ++ entered_spans es) entry_fit.agrees in
            built EntryRows ds es cards line.0 (own_read r.holder ds fit.own) (within_full es entry_fit.within) (λ before. fit.own)
            (λ before. entry_fit.within) card_fit.keeps line.1 fit.count_is entry_fit.count_is (λ before. fit.same)
            (λ before. card_fit.same) (λ before. entry_fit.same) (λ before. absurd (omega (arith, before)))

        pub held_has : (held : List Span) → SpansFit r.driver (rows Held) (given_spans ds ++ entered_spans es) held
            → HasMember rows (pos r.driver) Held
        held_has held held_fit =
            built Held ds es cards held (own_read r.holder ds fit.own) (within_full es entry_fit.within) (λ before. fit.own)
            (λ before. entry_fit.within) card_fit.keeps held_fit.keeps fit.count_is entry_fit.count_is (λ before. fit.same)
            (λ before. card_fit.same) (λ before. entry_fit.same) (λ before. held_fit.same)

  -- ---- rows of a member fit

  module _ (k : TableName) (it : HasMember rows (pos r.driver) k) where
    -- the member's row is the driver's
    own_columns : driver_row (driver_columns it.member.driver) ≡ driver_row r
    own_columns =
        let one : rows Drivers ≡ driver_row (driver_columns it.member.driver) ∷ [] =
        single (driver_row (driver_columns it.member.driver)) (rows Drivers) (it.same Drivers (omega arith)) in
        let both = sym one ∙ own in cc

    same_number : it.member.driver.number ≡ r.driver
    same_number = let e = own_columns in cc

    same_downloads : length it.member.driver.downloads ≡ r.downloads
    same_downloads = let e = own_columns in cc

    same_entries : length it.member.driver.entries ≡ r.entries
    same_entries = let e = own_columns in cc

    same_holder : it.member.driver.holder ≡ r.holder
    same_holder = let e = own_columns in cc

    pub fits_downloads : place Downloads ≤ place k → DownloadsFit r.driver r.holder r.downloads (rows Downloads) it.member.driver.downloads
    fits_downloads before = record {
      own = subst (λ (h : List ℕ). AllByRecursion (IsOf h) it.member.driver.downloads) same_holder (it.within.files before);
      same = subst (λ (i : ℕ). IsPermutation (map download_columns (rows_of_downloads i 1 it.member.driver.downloads)) (rows Downloads))
          same_number (it.same Downloads before);
      count_is = same_downloads;
      agrees = kept_agrees it.member.cards (given_spans it.member.driver.downloads) it.whole.cards;
    }

    pub fits_cards : place CardSpans ≤ place k → SpansFit r.driver (rows CardSpans) (given_spans it.member.driver.downloads) it.member.cards
    fits_cards before = record {
      same = subst (λ (i : ℕ). IsPermutation (map span_columns (map (span_row i) it.member.cards)) (rows CardSpans)) same_number
          (it.same CardSpans before);
      keeps = it.whole.cards;
    }

    pub fits_entries : place EntryRows ≤ place k → EntriesFit r.driver r.entries (rows EntryRows)
        (given_spans it.member.driver.downloads) it.member.driver.entries
    fits_entries before = record {
      within = it.within.entries before;
      same = subst (λ (i : ℕ). IsPermutation (map entry_columns (rows_of_entries i 1 it.member.driver.entries)) (rows EntryRows))
          same_number (it.same EntryRows before);
      count_is = same_entries;
      agrees = kept_agrees it.member.held (given_spans it.member.driver.downloads ++ entered_spans it.member.driver.entries) it.whole.held;
    }

    pub fits_held : place Held ≤ place k → SpansFit r.driver (rows Held)
        (given_spans it.member.driver.downloads ++ entered_spans it.member.driver.entries) it.member.held
    fits_held before = record {
      same = subst (λ (i : ℕ). IsPermutation (map span_columns (map (span_row i) it.member.held)) (rows Held)) same_number
          (it.same Held before);
      keeps = it.whole.held;
    }

-- The first table whose rows don't fit is the first at which the driver's rows aren't sound.
use Rattle.std.proofs.Common.{◌≡◌, ◌∙◌, ℕ, ℤ, pos, ◌+◌, ◌<◌, ◌≤◌, inl, inr, List, ◌++◌, None, Some, sym, ap, subst, arith}
use Rattle.std.specs.Prelude.{Vec}
use Rattle.std.specs.declared.alloc.Global.{Global}
use Rattle.sqlite.specs.Order.{Row}
use Rattle.tacho_time.specs.declared.span.Span.{Span}
use Rattle.tacho_time.specs.declared.span.Mark.{Mark}
use Rattle.tacho_time.specs.Spans.{Gives}
use Rattle.tacho_state.specs.State.{Download, Entry, given_spans, entered_spans}
use Rattle.tacho_tables.specs.Rows.{DriverRow}
use Rattle.tacho_tables.specs.declared.table.TableName.{TableName}
use Rattle.tacho_tables.specs.declared.table.TableName.TheVariants.{Drivers, Downloads, CardSpans, EntryRows, Held}
use Rattle.tacho_check.specs.declared.own.OwnRows.{OwnRows}
use Rattle.tacho_check.specs.declared.registered.Basis.{Basis}
use Rattle.tacho_check.specs.Check.{place}
use Rattle.tacho_check.specs.Member.{HasMember, IsOwnSound}
use Rattle.tacho_check.specs.Fits.{DownloadsFit, EntriesFit, SpansFit}
use Rattle.tacho_check.specs.Judged.{AreDownloads, AreEntries, AreKept, IsReadDriver, IsJudged}
use Rattle.tacho_check.proofs.CalendarLemmas.{given_early, held_early, keeps_in_calendar}
use Rattle.tacho_check.proofs.FitLemmas.{drivers_have, downloads_have, cards_have, entries_have, held_has, fits_downloads, fits_cards, fits_entries, fits_held}

-- a member up to a table is one up to those before
earlier : (rows : TableName → List Row) (n : ℤ) (k j : TableName) → place j ≤ place k → HasMember rows n k → HasMember rows n j
earlier rows n k j before it = record {
  member = it.member;
  whole = it.whole;
  number = it.number;
  within =
      let w = it.within in record {
        columns = w.columns;
        files = λ first. w.files (omega (arith, first, before));
        entries = λ first. w.entries (omega (arith, first, before));
      };
  same = λ i first. it.same i (omega (arith, first, before));
}

-- spans that keep early minutes are kept
are_kept : (n : ℕ) (rows : List Row) (given spans : List Span) → SpansFit n rows given spans
    → ((m : ℕ) (k : Mark) → Gives given m k → m < 68374080) → AreKept n rows given
are_kept n rows given spans fit early = (spans, keeps_in_calendar spans (Gives given) fit.keeps early, fit)

module _ (rows : TableName → List Row) (r : DriverRow) (basis : Basis) (found : OwnRows) (it : IsReadDriver rows r basis found) where
  -- the driver has a row, so what is sound has a member
  member : (k : TableName) → IsOwnSound rows (pos r.driver) k → HasMember rows (pos r.driver) k
  member k (inl none) = absurd (let e = sym (none Drivers (omega arith)) ∙ it.own in cc)
  member k (inr m) = m

  -- what is sound before the next table
  before : (k next : TableName) → place next ≡ place k + 1 → HasMember rows (pos r.driver) k → (j : TableName) → place j < place next
      → IsOwnSound rows (pos r.driver) j
  before k next after m j first = inr (earlier rows (pos r.driver) k j (omega (arith, after, first)) m)

  -- a member's downloads, as what the rows are judged by says
  files_fit : (k : TableName) (m : HasMember rows (pos r.driver) k) → 1 ≤ place k
      → DownloadsFit r.driver basis.holder basis.downloads (rows Downloads) m.member.driver.downloads
  files_fit k m late =
      subst (λ h. DownloadsFit r.driver h basis.downloads (rows Downloads) m.member.driver.downloads) (sym it.judged_by.holder)
      (subst (λ c. DownloadsFit r.driver r.holder c (rows Downloads) m.member.driver.downloads) (sym it.judged_by.downloads)
      (fits_downloads rows r it.own it.columns k m late))

  pub wrong_downloads : AreDownloads r.driver basis.holder basis.downloads (rows Downloads) None
      → IsJudged rows (pos r.driver) (Some Downloads)
  wrong_downloads never = (
    (λ sound. let m = member Downloads sound in never m.member.driver.downloads (files_fit Downloads m (omega arith))),
    before Drivers Downloads (omega arith) (drivers_have rows r it.own it.columns),
  )

  module _ (given : Vec Span Global) (down : AreDownloads r.driver basis.holder basis.downloads (rows Downloads) (Some given)) where
    abbrev ds : List Download
    ds = down.0.0

    ds_fit : DownloadsFit r.driver r.holder r.downloads (rows Downloads) ds
    ds_fit =
        subst (λ h. DownloadsFit r.driver h r.downloads (rows Downloads) ds) it.judged_by.holder
        (subst (λ c. DownloadsFit r.driver basis.holder c (rows Downloads) ds) it.judged_by.downloads down.0.1)

    ds_give : given_spans ds ≡ given.items
    ds_give = down.1 ds down.0.1

    -- a member's downloads give the same
    same_given : (k : TableName) (m : HasMember rows (pos r.driver) k) → 1 ≤ place k → given_spans m.member.driver.downloads ≡ given.items
    same_given k m late = down.1 m.member.driver.downloads (files_fit k m late)

    pub wrong_cards : ¬ (AreKept r.driver (rows CardSpans) given.items) → IsJudged rows (pos r.driver) (Some CardSpans)
    wrong_cards wrong = (
      (λ sound.
          let m = member CardSpans sound in
          let files = fits_downloads rows r it.own it.columns CardSpans m (omega arith) in
          wrong (subst (AreKept r.driver (rows CardSpans)) (same_given CardSpans m (omega arith))
          (are_kept r.driver (rows CardSpans) (given_spans m.member.driver.downloads) m.member.cards
          (fits_cards rows r it.own it.columns CardSpans m (omega arith)) (given_early r.holder m.member.driver.downloads files.own)))),
      before Downloads CardSpans (omega arith) (downloads_have rows r it.own it.columns ds ds_fit),
    )

    module _ (cards : AreKept r.driver (rows CardSpans) given.items) where
      cs_fit : SpansFit r.driver (rows CardSpans) (given_spans ds) cards.0
      cs_fit = subst (λ xs. SpansFit r.driver (rows CardSpans) xs cards.0) (sym ds_give) cards.2

      -- a member's entries, as what the rows are judged by says
      hours_fit : (k : TableName) (m : HasMember rows (pos r.driver) k) → 3 ≤ place k
          → EntriesFit r.driver basis.entries (rows EntryRows) given.items m.member.driver.entries
      hours_fit k m late =
          subst (λ c. EntriesFit r.driver c (rows EntryRows) given.items m.member.driver.entries) (sym it.judged_by.entries)
          (subst (λ xs. EntriesFit r.driver r.entries (rows EntryRows) xs m.member.driver.entries) (same_given k m (omega (arith, late)))
          (fits_entries rows r it.own it.columns k m late))

      pub wrong_entries : AreEntries r.driver basis.entries (rows EntryRows) given.items None
          → IsJudged rows (pos r.driver) (Some EntryRows)
      wrong_entries never = (
        (λ sound. let m = member EntryRows sound in never m.member.driver.entries (hours_fit EntryRows m (omega arith))),
        before CardSpans EntryRows (omega arith) (cards_have rows r it.own it.columns ds ds_fit cards.0 cs_fit),
      )

      module _ (all : Vec Span Global) (hours : AreEntries r.driver basis.entries (rows EntryRows) given.items (Some all)) where
        abbrev es : List Entry
        es = hours.0.0

        es_fit : EntriesFit r.driver r.entries (rows EntryRows) (given_spans ds) es
        es_fit =
            subst (λ xs. EntriesFit r.driver r.entries (rows EntryRows) xs es) (sym ds_give)
            (subst (λ c. EntriesFit r.driver c (rows EntryRows) given.items es) it.judged_by.entries hours.0.1)

        pub wrong_held : ¬ (AreKept r.driver (rows Held) all.items) → IsJudged rows (pos r.driver) (Some Held)
        wrong_held wrong = (
          (λ sound.
              let m = member Held sound in
              let driver = m.member.driver in
              let files = fits_downloads rows r it.own it.columns Held m (omega arith) in
              let entries = fits_entries rows r it.own it.columns Held m (omega arith) in
              let same : given_spans driver.downloads ++ entered_spans driver.entries ≡ all.items =
              ap (λ xs. xs ++ entered_spans driver.entries) (same_given Held m (omega arith))
              ∙ hours.1 driver.entries (hours_fit Held m (omega arith)) in
              wrong (subst (AreKept r.driver (rows Held)) same
              (are_kept r.driver (rows Held) (given_spans driver.downloads ++ entered_spans driver.entries) m.member.held
              (fits_held rows r it.own it.columns Held m (omega arith))
              (held_early r.holder driver.downloads driver.entries files.own entries.within)))),
          before EntryRows Held (omega arith) (entries_have rows r it.own it.columns ds ds_fit cards.0 cs_fit es es_fit),
        )

        pub none_wrong : AreKept r.driver (rows Held) all.items → IsJudged rows (pos r.driver) None
        none_wrong held =
            let sum = ap (λ xs. xs ++ entered_spans es) ds_give ∙ hours.1 es hours.0.1 in
            inr (held_has rows r it.own it.columns ds ds_fit cards.0 cs_fit es es_fit held.0
            (subst (λ xs. SpansFit r.driver (rows Held) xs held.0) (sym sum) held.2))

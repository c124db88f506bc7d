-- The tables after an import represent the state after it.
use Rattle.std.proofs.Common.{◌≡◌, ◌≢◌, ℕ, ◌+◌, List, [], ◌∷◌, ◌++◌, Some, Ok, length, map, refl, sym, ap, ◌∙◌, subst}
use Rattle.tacho_time.specs.declared.span.Span.{Span}
use Rattle.tacho_time.specs.Spans.{Gives, IsCanonicalOf}
use Rattle.tacho_line.specs.Line.{AreGains}
use Rattle.tacho_card.specs.declared.file.Part.{Part}
use Rattle.tacho_state.specs.Content.{AreRead, FileTells}
use Rattle.tacho_state.specs.Numbers.{part_number}
use Rattle.tacho_state.specs.Disjoint.{GiveExactly, near, AreInRange}
use Rattle.tacho_state.specs.State.{Download, Driver, State, IsDownloaded, Held, driver_of, put, with_download}
use Rattle.tacho_state.specs.Steps.{Content}
use Rattle.tacho_state.proofs.GainLemmas.{download_kept}
use Rattle.tacho_tables.specs.Rows.{DriverRow, DownloadRow}
use Rattle.tacho_tables.specs.Tables.{Tables, with_downloads}
use Rattle.tacho_reading.specs.Standing.{driver_columns, spans_of, RowsRepresent, TablesRepresent}
use Rattle.tacho_reading.proofs.RowLemmas.{added_own, added_other, added_marks}
use Rattle.tacho_reading.proofs.DownloadLemmas.{download_row, rows_append, own_added, other_added, one_more}
use Rattle.tacho_state.proofs.PutLemmas.{found_number}
use Rattle.tacho_reading.proofs.StateLemmas.{SameOfDriver, found_of, put_is, rows_put}
use Rattle.tacho_store.specs.After.{with_imported}

-- if the spans of downloads are those of their files, they still are with one more download
read_more : (ds : List Download) (part : Part) (file : List ℕ) (content : Content) → AreRead ds → FileTells part file (Ok content)
    → AreRead (ds ++ record { part = part_number part; file = file; spans = content.spans } ∷ [])
read_more [] part file content h tells = ((part, content.holder, refl, tells), tt)
read_more (d ∷ ds) part file content h tells = (h.0, read_more ds part file content h.1 tells)

-- what an import reads near its spans, and what it adds
pub record AreGained (t : Tables) (n a b : ℕ) (spans card_line line card_gains gains : List Span) : Type 0 where
  pub card_near : IsCanonicalOf (Gives (near a b (spans_of n t.card_spans))) card_line
  pub card_gained : AreGains card_line spans card_gains
  pub held_near : IsCanonicalOf (Gives (near a b (spans_of n t.held))) line
  pub held_gained : AreGains line spans gains

-- the tables represent the driver with the download
imported_own : (t : Tables) (d : Driver) (part : Part) (file : List ℕ) (content : Content) (card_line line card_gains gains : List Span)
    (a b : ℕ) → RowsRepresent t d → FileTells part file (Ok content) → AreInRange a b content.spans
    → AreGained t d.number a b content.spans card_line line card_gains gains
    → RowsRepresent (with_imported d.number (1 + length d.downloads) (part_number part) file card_gains gains t)
    (with_download (part_number part) file content.spans d)
imported_own t d part file content card_line line card_gains gains a b h tells r g =
    record {
      downloads =
          own_added d.number t.downloads (download_row d.number (1 + length d.downloads) new) refl
          ∙ ap (λ (x : List DownloadRow). x ++ download_row d.number (1 + length d.downloads) new ∷ []) h.downloads
          ∙ sym (rows_append d.number 1 d.downloads new);
      read = read_more d.downloads part file content h.read tells;
      entries = h.entries;
      full = h.full;
      card_spans = subst (λ (x : List Span). GiveExactly x (IsDownloaded (with_download (part_number part) file content.spans d)))
          (sym (added_own d.number t.card_spans card_gains)) both.0;
      held = subst (λ (x : List Span). GiveExactly x (Held (with_download (part_number part) file content.spans d)))
          (sym (added_own d.number t.held gains)) both.1;
    } where
      new : Download
      new = record { part = part_number part; file = file; spans = content.spans }

      both : GiveExactly (spans_of d.number t.card_spans ++ card_gains) (IsDownloaded (with_download (part_number part) file content.spans d))
          × GiveExactly (spans_of d.number t.held ++ gains) (Held (with_download (part_number part) file content.spans d))
      both =
          download_kept d (spans_of d.number t.card_spans) (spans_of d.number t.held) card_line line content.spans card_gains gains
          (part_number part) file a b
          h.card_spans h.held r g.card_near g.held_near g.card_gained g.held_gained

-- no row of another driver changes
imported_other : (t : Tables) (n number part : ℕ) (file : List ℕ) (card_gains gains : List Span) (j : ℕ) → j ≢ n
    → SameOfDriver j t (with_imported n number part file card_gains gains t)
imported_other t n number part file card_gains gains j d = record {
  downloads = other_added j n t.downloads (record { driver = n; number = number; part = part; file = file }) refl d;
  entries = refl;
  card_spans = added_other j n t.card_spans card_gains d;
  held = added_other j n t.held gains d;
}

-- the tables represent the state after an import, by the driver's own number
imported_at : (t : Tables) (s : State) (d : Driver) (part : Part) (file : List ℕ) (content : Content)
    (card_line line card_gains gains : List Span) (a b : ℕ) → TablesRepresent t s → driver_of d.number s ≡ Some d
    → FileTells part file (Ok content) → AreInRange a b content.spans → AreGained t d.number a b content.spans card_line line card_gains gains
    → TablesRepresent (with_imported d.number (1 + length d.downloads) (part_number part) file card_gains gains t)
    (put (with_download (part_number part) file content.spans d) s)
imported_at t s d part file content card_line line card_gains gains a b h k tells r g =
    let n = d.number in
    let count = 1 + length d.downloads in
    let next = with_download (part_number part) file content.spans d in
    put_is t (with_imported n count (part_number part) file card_gains gains t) n next d s h k refl (record { key = refl; holder = refl })
    (ap (λ (x : List DriverRow). map (with_downloads n count) x) h.drivers
    ∙ rows_put (λ r. record r { downloads = count }) n next d s k refl h.distinct
    (ap (λ (y : ℕ). record (driver_columns d) { downloads = y })
    (one_more d.downloads (record { part = part_number part; file = file; spans = content.spans }))))
    (imported_own t d part file content card_line line card_gains gains a b (found_of t n s d k h.each) tells r g)
    (λ j o. imported_other t n count (part_number part) file card_gains gains j o)
    (record {
      card_spans = added_marks n t.card_spans card_gains h.marked.card_spans;
      held = added_marks n t.held gains h.marked.held;
    })

-- the tables after an import represent the state after it
pub imported_is : (t : Tables) (s : State) (n : ℕ) (d : Driver) (part : Part) (file : List ℕ) (content : Content)
    (card_line line card_gains gains : List Span) (a b : ℕ) → TablesRepresent t s → driver_of n s ≡ Some d
    → FileTells part file (Ok content) → AreInRange a b content.spans
    → IsCanonicalOf (Gives (near a b (spans_of n t.card_spans))) card_line → AreGains card_line content.spans card_gains
    → IsCanonicalOf (Gives (near a b (spans_of n t.held))) line → AreGains line content.spans gains
    → TablesRepresent (with_imported n (1 + length d.downloads) (part_number part) file card_gains gains t)
    (put (with_download (part_number part) file content.spans d) s)
imported_is t s n d part file content card_line line card_gains gains a b h k tells r cl cg l g =
    subst (λ (j : ℕ). driver_of j s ≡ Some d → AreGained t j a b content.spans card_line line card_gains gains
    → TablesRepresent (with_imported j (1 + length d.downloads) (part_number part) file card_gains gains t)
    (put (with_download (part_number part) file content.spans d) s)) (found_number n s d k)
    (λ k g. imported_at t s d part file content card_line line card_gains gains a b h k tells r g) k
    (record { card_near = cl; card_gained = cg; held_near = l; held_gained = g })

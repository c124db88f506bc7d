-- Downloads by number, in the tables and in the state.
use Rattle.std.proofs.Common.{◌≡◌, ◌≢◌, ℕ, ◌+◌, ◌==◌, ◌↔◌, true, cond, List, [], ◌∷◌, ◌++◌, Option, Some, None, Ok, length, filter, map, refl, sym, ap, ◌∙◌, subst, arith}
use Rattle.std.specs.List.{Contains}
use Rattle.std.proofs.lemmas.List.{append-nil}
use Rattle.std.proofs.lemmas.List.Elements.{filter-append}
use Rattle.tacho_state.specs.State.{Download, Driver, State, driver_of, download_from}
use Rattle.tacho_state.specs.Steps.{file_of}
use Rattle.tacho_state.proofs.EqualLemmas.{eq_not, eq_self}
use Rattle.tacho_tables.specs.Rows.{DownloadRow}
use Rattle.tacho_tables.specs.Tables.{Tables, is_download}
use Rattle.tacho_reading.specs.Standing.{TablesRepresent, rows_of_downloads, downloads_of}
use Rattle.tacho_reading.proofs.PassingLemmas.{filter_both, number_none, number_some, numbered, with_number}
use Rattle.tacho_state.proofs.PutLemmas.{found_number}
use Rattle.tacho_reading.proofs.StateLemmas.{found_of}

-- the row of a download with this number
abbrev pub download_row : ℕ → ℕ → Download → DownloadRow
download_row n i d = record { driver = n; number = i; part = d.part; file = d.file }

-- the rows of downloads are those of numbered downloads
rows_numbered : (n i : ℕ) (ds : List Download) → rows_of_downloads n i ds ≡ map (λ (d : ℕ × Download). download_row n d.0 d.1) (numbered i ds)
rows_numbered n i [] = refl
rows_numbered n i (d ∷ ds) = ap (λ (rows : List DownloadRow). download_row n i d ∷ rows) (rows_numbered n (i + 1) ds)

-- the download with a number is found by it
by_number : (i number : ℕ) (ds : List Download) → with_number i number ds ≡ download_from i number ds
by_number i number [] = refl
by_number i number (d ∷ ds) = ap (λ (o : Option Download). cond (i == number) (Some d) o) (by_number (i + 1) number ds)

module _ (t : Tables) (s : State) (n number : ℕ) (d : Driver) (h : TablesRepresent t s) (k : driver_of n s ≡ Some d) where
  -- a driver's rows with a number are rows of the driver's downloads
  own_numbered : filter (is_download n number) t.downloads
      ≡ filter (λ r. r.number == number) (map (λ (d : ℕ × Download). download_row n d.0 d.1) (numbered 1 d.downloads))
  own_numbered = filter_both (λ r. r.driver == n) (λ r. r.number == number) t.downloads
      ∙ ap (λ (x : List DownloadRow). filter (λ r. r.number == number) x)
      (subst (λ (j : ℕ). downloads_of j t.downloads ≡ rows_of_downloads j 1 d.downloads) (found_number n s d k)
      (found_of t n s d k h.each).downloads ∙ rows_numbered n 1 d.downloads)

  -- the driver has no such download iff no row has the number
  pub download_none : (filter (is_download n number) t.downloads ≡ []) ↔ (download_from 1 number d.downloads ≡ None)
  download_none =
      let both = number_none (download_row n) (λ r. r.number == number) number (λ i d. refl) 1 d.downloads in (
        λ e. sym (by_number 1 number d.downloads) ∙ both.0 (sym own_numbered ∙ e),
        λ e. own_numbered ∙ both.1 (by_number 1 number d.downloads ∙ e),
      )

-- a row with the number is that of the driver's download
pub download_at : (t : Tables) (s : State) (n number : ℕ) (d : Driver) (row : DownloadRow) → TablesRepresent t s → driver_of n s ≡ Some d
    → Contains (filter (is_download n number) t.downloads) row
    → (x : Download) × (download_from 1 number d.downloads ≡ Some x) × (row ≡ download_row n number x)
download_at t s n number d row h k w =
    let it = number_some (download_row n) (λ r. r.number == number) number (λ i d. refl) 1 d.downloads row
    (subst (λ (rows : List DownloadRow). Contains rows row) (own_numbered t s n number d h k) w) in
    (it.0, sym (by_number 1 number d.downloads) ∙ it.1, it.2)

-- a row with the number has the file of the driver's download
pub download_some : (t : Tables) (s : State) (n number : ℕ) (d : Driver) (row : DownloadRow) → TablesRepresent t s → driver_of n s ≡ Some d
    → Contains (filter (is_download n number) t.downloads) row
    → file_of (download_from 1 number d.downloads) ≡ Ok row.file
download_some t s n number d row h k w =
    let it = download_at t s n number d row h k w in
    ap file_of it.1 ∙ ap (λ (r : DownloadRow). Ok r.file) (sym it.2)

-- ---- a download is added

-- its row comes after the others
pub rows_append : (n i : ℕ) (ds : List Download) (x : Download)
    → rows_of_downloads n i (ds ++ x ∷ []) ≡ rows_of_downloads n i ds ++ download_row n (i + length ds) x ∷ []
rows_append n i [] x = ap (λ (k : ℕ). download_row n k x ∷ []) (omega arith)
rows_append n i (d ∷ ds) x =
    let e : (i + 1) + length ds ≡ i + length (d ∷ ds) = omega arith in
    ap (λ (y : List DownloadRow). download_row n i d ∷ y) (rows_append n (i + 1) ds x)
    ∙ ap (λ (k : ℕ). download_row n i d ∷ (rows_of_downloads n (i + 1) ds ++ download_row n k x ∷ [])) e

-- the row is one of its driver's
pub own_added : (n : ℕ) (rows : List DownloadRow) (r : DownloadRow) → r.driver ≡ n
    → downloads_of n (rows ++ r ∷ []) ≡ downloads_of n rows ++ r ∷ []
own_added n rows r e =
    filter-append (λ (x : DownloadRow). x.driver == n) rows (r ∷ [])
    ∙ ap (λ b. downloads_of n rows ++ cond b (r ∷ []) []) (subst (λ (k : ℕ). (k == n) ≡ true) (sym e) (eq_self n))

-- the row isn't another driver's
pub other_added : (j n : ℕ) (rows : List DownloadRow) (r : DownloadRow) → r.driver ≡ n → j ≢ n
    → downloads_of j (rows ++ r ∷ []) ≡ downloads_of j rows
other_added j n rows r e d =
    filter-append (λ (x : DownloadRow). x.driver == j) rows (r ∷ [])
    ∙ ap (λ b. downloads_of j rows ++ cond b (r ∷ []) []) (eq_not r.driver j (λ f. d (sym f ∙ e)))
    ∙ append-nil (downloads_of j rows)

-- it is counted
pub one_more : (ds : List Download) (x : Download) → 1 + length ds ≡ length (ds ++ x ∷ [])
one_more [] x = refl
one_more (d ∷ ds) x = let e = one_more ds x in omega (arith, e)

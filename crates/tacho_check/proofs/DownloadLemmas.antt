-- Rows of downloads: what the card files in them give, or that no downloads have these rows.
use Rattle.std.proofs.Common.{◌≡◌, ◌∙◌, ℕ, pos, ◌+◌, not, List, [], ◌∷◌, ◌++◌, map, length, Option, None, Some, refl, sym, ap, ap₂, subst, arith}
use Rattle.std.specs.Prelude.{Vec}
use Rattle.std.specs.declared.alloc.Global.{Global}
use Rattle.std.specs.List.{AllByRecursion}
use Rattle.std.specs.List.Sorted.{IsPermutation}
use Rattle.std.proofs.lemmas.List.{length-map}
use Rattle.sqlite.specs.declared.types.Value.TheVariants.{Int, Blob}
use Rattle.sqlite.specs.Order.{Row, column}
use Rattle.sqlite_sql.specs.Ops.{is_null}
use Rattle.tacho_time.specs.declared.span.Span.{Span}
use Rattle.tacho_state.specs.State.{Download, given_spans}
use Rattle.tacho_state.specs.Within.{IsOf}
use Rattle.tacho_tables.specs.Schema as made
use Rattle.tacho_tables.specs.Rows.{download_columns}
use Rattle.tacho_tables.specs.Ask.{three_shown}
use Rattle.tacho_reading.specs.Standing.{rows_of_downloads}
use Rattle.tacho_check.specs.declared.files.FileRow.{FileRow}
use Rattle.tacho_check.specs.Files.{Tells, Give}
use Rattle.tacho_check.specs.Parsed.{IsParsed, Pairs, GoOn, AreNumbered}
use Rattle.tacho_check.specs.Typed.{IsOwnRow, AreShown, NumberedFile, ShowsFile, IsFile}
use Rattle.tacho_check.specs.Fits.{Agrees, DownloadsFit}
use Rattle.tacho_check.specs.Judged.{AreAgreed, AreDownloads}
use Rattle.tacho_check.proofs.FileLemmas.{one_given}
use Rattle.tacho_check.proofs.ParsedLemmas.{IsTyping, AreRows, AreAllRows, unnumbered, numbered}
use Rattle.tacho_check.proofs.TypeLemmas.{whole_row}

-- ---- how rows of downloads are read

-- the stored row of a driver's card file
abbrev columns_of : ℕ → NumberedFile → Row
columns_of n x = download_columns (record { driver = n; number = x.number; part = x.part; file = x.file })

-- the card file of a stored row
file_in : NumberedFile → Row → NumberedFile
file_in other (Int driver ∷ Int (pos number) ∷ Int (pos part) ∷ Blob file ∷ []) = record { number = number; part = part; file = file }
file_in other _ = other

one_file : (n : ℕ) (x y : NumberedFile) → columns_of n x ≡ columns_of n y → x ≡ y
unfolding file_in
one_file n x y same = ap (file_in x) same

file_made : (n : ℕ) (w : Row) → IsOwnRow n made.downloads.columns w → (x : NumberedFile) → ShowsFile (three_shown w) x → w ≡ columns_of n x
file_made n w own x shows =
    let is = whole_row None made.downloads.columns w 3 own.typed refl (ap (λ v. not (is_null v)) shows.file) in
    let a = own.driver in
    let b : column w 1 ≡ Int (pos x.number) = shows.number in
    let c : column w 2 ≡ Int (pos x.part) = shows.part in
    let d : column w 3 ≡ Blob x.file = shows.file in
    rw (a, b, c, d) at is

typing : (n : ℕ) → IsTyping n made.downloads.columns ShowsFile IsFile (columns_of n) three_shown (λ x. Unit {0}) (λ f. f.number)
    (λ x. x.number)
typing n = record {
  made = file_made n;
  back = λ x within. record { number = refl; part = refl; file = refl };
  inside = λ row x shows. tt;
  alike = λ f x same. same.number;
  one = one_file n;
}

-- ---- downloads

-- card files of downloads, numbered from i on
abbrev files_from : ℕ → List Download → List NumberedFile
files_from i [] = []
files_from i (d ∷ ds) = record { number = i; part = d.part; file = d.file } ∷ files_from (i + 1) ds

numbers_go_on : (i : ℕ) (ds : List Download) → GoOn i (map (λ x. x.number) (files_from i ds))
numbers_go_on i [] = tt
numbers_go_on i (d ∷ ds) = (refl, numbers_go_on (i + 1) ds)

files_many : (i : ℕ) (ds : List Download) → length (files_from i ds) ≡ length ds
files_many i [] = refl
files_many i (d ∷ ds) = let more = files_many (i + 1) ds in omega (arith, more)

rows_are : (n i : ℕ) (ds : List Download) → map (columns_of n) (files_from i ds) ≡ map download_columns (rows_of_downloads n i ds)
rows_are n i [] = refl
rows_are n i (d ∷ ds) =
    ap (λ rows. download_columns (record { driver = n; number = i; part = d.part; file = d.file }) ∷ rows) (rows_are n (i + 1) ds)

any_all : (xs : List NumberedFile) → AllByRecursion (λ x. Unit {0}) xs
any_all [] = tt
any_all (x ∷ xs) = (tt, any_all xs)

-- ---- from files to downloads, and back

-- the downloads of files that are read: they are of the holder's card, and give the files' spans
pub record Downloaded (holder : List ℕ) (all : List Span) (i : ℕ) (xs : List NumberedFile) : Type 0 where
  pub ds : List Download
  pub own : AllByRecursion (IsOf holder) ds
  pub give : given_spans ds ≡ all
  pub files : files_from i ds ≡ xs

downloads_of : (holder : List ℕ) (files : List FileRow) (xs : List NumberedFile) (all : List Span) (i : ℕ) → Pairs IsFile files xs
    → GoOn i (map (λ x. x.number) xs) → Give holder files all → Downloaded holder all i xs
downloads_of holder [] [] all i h numbers g = record { ds = []; own = tt; give = sym g; files = refl }
downloads_of holder [] (x ∷ xs) all i h numbers g = absurd h
downloads_of holder (f ∷ files) [] all i h numbers g = absurd h
downloads_of holder (f ∷ files) (x ∷ xs) all i h numbers (spans, rest, (part, number, told), more, sum) =
    let it = downloads_of holder files xs rest (i + 1) h.1 numbers.1 more in
    let here = h.0 in
    record {
      ds = record { part = x.part; file = x.file; spans = spans } ∷ it.ds;
      own = ((part, number ∙ here.part, subst (λ bytes. Tells holder part bytes spans) here.file told), it.own);
      give = ap (λ us. spans ++ us) it.give ∙ sym sum;
      files = ap₂ (λ k us. record { number = k; part = x.part; file = x.file } ∷ us) (sym numbers.0) it.files;
    }

-- files of downloads give what these give
files_give : (holder : List ℕ) (files : List FileRow) (ds : List Download) (i : ℕ) → AllByRecursion (IsOf holder) ds
    → Pairs IsFile files (files_from i ds) → Give holder files (given_spans ds)
files_give holder [] [] i own h = refl
files_give holder [] (d ∷ ds) i own h = absurd h
files_give holder (f ∷ files) [] i own h = absurd h
files_give holder (f ∷ files) (d ∷ ds) i own h =
    let here = h.0 in (
      d.spans,
      given_spans ds,
      (own.0.0, own.0.1 ∙ sym here.part, subst (λ bytes. Tells holder own.0.0 bytes d.spans) (sym here.file) own.0.2),
      files_give holder files ds (i + 1) own.1 h.1,
      refl,
    )

-- ---- the downloads of a driver

module _ (n : ℕ) (holder : List ℕ) (count : ℕ) (own found : List Row) (it : AreShown n made.downloads.columns three_shown own found) where
  rows_of : (ds : List Download) → DownloadsFit n holder count own ds → AreRows (typing n) it count (files_from 1 ds)
  rows_of ds fit = record {
    counted = (length-map (files_from 1 ds) (λ x. x.number) ∙ files_many 1 ds ∙ fit.count_is, numbers_go_on 1 ds);
    rows = subst (λ rows. IsPermutation rows own) (sym (rows_are n 1 ds)) fit.same;
  }

  pub none_fit : AreNumbered {Y = FileRow} (IsParsed ShowsFile IsFile) (λ f. f.number) count found None
      → AreDownloads n holder count own None
  none_fit h ds fit = unnumbered (typing n) it count h (files_from 1 ds) (any_all (files_from 1 ds)) (rows_of ds fit)

  pub downloads_judged : (files : Vec FileRow Global) → AreNumbered (IsParsed ShowsFile IsFile) (λ f. f.number) count found (Some files)
      → (r : Option (Vec Span Global)) → AreAgreed holder files.items r → AreDownloads n holder count own r
  downloads_judged files h r agreed = go r agreed where
    is : AreAllRows (typing n) it count files.items
    is = numbered (typing n) it count files h

    gives : (ds : List Download) → DownloadsFit n holder count own ds → Give holder files.items (given_spans ds)
    gives ds fit = files_give holder files.items ds 1 fit.own
        (subst (Pairs IsFile files.items) (sym (is.only (files_from 1 ds) (rows_of ds fit))) is.typed.stands)

    go : (r : Option (Vec Span Global)) → AreAgreed holder files.items r → AreDownloads n holder count own r
    go None agreed = λ ds fit. agreed (given_spans ds) (gives ds fit) fit.agrees
    go (Some all) agreed =
        let it = downloads_of holder files.items is.typed.xs all.items 1 is.typed.stands is.counted.1 agreed.0 in (
          (
            it.ds,
            record {
              own = it.own;
              same = subst (λ rows. IsPermutation rows own) (sym (ap (map (columns_of n)) it.files) ∙ rows_are n 1 it.ds) is.typed.rows;
              count_is = sym (files_many 1 it.ds) ∙ ap (λ xs. length xs) it.files
                  ∙ sym (length-map is.typed.xs (λ x. x.number)) ∙ is.counted.0;
              agrees = subst Agrees (sym it.give) agreed.1;
            },
          ),
          (λ ds fit. one_given holder files.items (given_spans ds) all.items (gives ds fit) agreed.0),
        )

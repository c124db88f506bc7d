-- The card files of a driver by their places in the list.
use Rattle.std.proofs.Common.{◌≡◌, ◌∙◌, ℕ, zero, suc, ◌+◌, ◌<◌, List, [], ◌∷◌, Some, ap, arith, drop, get_or, length, map, refl, subst}
use Rattle.std.proofs.lemmas.Bool.Decides.{nat_tests}
use Rattle.tacho_state.specs.Files.{listed_file, listed_from, told_file}
use Rattle.tacho_state.specs.State.{Download, download_from}
use Rattle.tacho_state.specs.declared.file.FileSummary.{FileSummary}

-- the download that is listed at a place
pub record IsListedAt (i : ℕ) (ds : List Download) (k : ℕ) (f : FileSummary) : Type 0 where
  pub download : Download
  pub rest : drop k ds ≡ download ∷ drop (k + 1) ds
  pub listed : told_file f ≡ listed_file (i + k) download
  pub found : download_from i (i + k) ds ≡ Some download

found_first : (i : ℕ) (d : Download) (ds : List Download) → download_from i i (d ∷ ds) ≡ Some d
found_first i d ds = grind (arith, nat_tests)

found_later : (i j : ℕ) (d : Download) (ds : List Download) → i < j → download_from i j (d ∷ ds) ≡ download_from (i + 1) j ds
found_later i j d ds less = grind (arith, nat_tests)

drop_later : (k : ℕ) (d : Download) (ds : List Download) (x : Download) → drop k ds ≡ x ∷ drop (k + 1) ds
    → drop (suc k) (d ∷ ds) ≡ x ∷ drop (suc k + 1) (d ∷ ds)
drop_later k d ds x e = e ∙ ap (λ (rest : List Download). x ∷ rest) (ap (λ (j : ℕ). drop j (d ∷ ds)) (let more : suc (k + 1) ≡ suc k + 1 = omega arith in more))

pub listed_at : (i : ℕ) (ds : List Download) (files : List FileSummary) (k : ℕ) (f : FileSummary) → map told_file files ≡ listed_from i ds
    → k < length files → f ≡ get_or files k f → IsListedAt i ds k f
listed_at i ds [] k f are within is = absurd (omega (arith, within))
listed_at i [] (x ∷ files) k f are within is = absurd (let wrong = are in cc)
listed_at i (d ∷ ds) (x ∷ files) zero f are within is =
    let first : told_file x ≡ listed_file i d = cc in
    let same : f ≡ x = is in
    record {
      download = d;
      rest = refl;
      listed = subst (λ (j : ℕ). told_file f ≡ listed_file j d) (omega arith) (ap told_file same ∙ first);
      found = subst (λ (j : ℕ). download_from i j (d ∷ ds) ≡ Some d) (omega arith) (found_first i d ds);
    }
listed_at i (d ∷ ds) (x ∷ files) (suc k) f are within is =
    let rest : map told_file files ≡ listed_from (i + 1) ds = cc in
    let at = listed_at (i + 1) ds files k f rest (omega (arith, within)) is in
    record {
      download = at.download;
      rest = drop_later k d ds at.download at.rest;
      listed = subst (λ (j : ℕ). told_file f ≡ listed_file j at.download) (omega arith) at.listed;
      found = found_later i (i + suc k) d ds (omega arith)
          ∙ subst (λ (j : ℕ). download_from (i + 1) j ds ≡ Some at.download) (omega arith) at.found;
    }

-- as many are listed as there are
pub as_many : (i : ℕ) (ds : List Download) (files : List FileSummary) → map told_file files ≡ listed_from i ds → drop (length files) ds ≡ []
as_many i [] [] are = refl
as_many i (d ∷ ds) [] are = absurd (let wrong = are in cc)
as_many i [] (x ∷ files) are = absurd (let wrong = are in cc)
as_many i (d ∷ ds) (x ∷ files) are = as_many (i + 1) ds files cc

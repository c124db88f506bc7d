-- The table `downloads`.
use Rattle.std.proofs.Common.{◌≡◌, ℕ, pos, ◌==◌, ◌&&◌, [], ◌∷◌, ap, codes, refl}
use Rattle.sqlite.specs.declared.types.Value.{Value}
use Rattle.sqlite.specs.declared.types.Value.TheVariants.{Int}
use Rattle.tacho_tables.specs.Schema as made
use Rattle.tacho_tables.specs.Rows.{DownloadRow, download_columns}
use Rattle.tacho_tables.specs.Tables.{is_download}
use Rattle.tacho_tables.proofs.Answers.{and-true, eq_test, passes}
use Rattle.tacho_tables.proofs.Kept.{with_downloads}
use Rattle.tacho_tables.proofs.Places.{downloads_at}
use Rattle.tacho_tables.proofs.Statements.{numbered}
use Rattle.tacho_tables.proofs.TableLemmas.{IsTable}
use Rattle.tacho_tables.proofs.Writes.{cast_null, cast_int}

pub download_table : IsTable download_columns (codes "downloads") made.downloads.columns [] (λ layout. 2) (λ layout. made.download_rows)
    (λ a. a.downloads) (λ xs a. record a { downloads = xs })
download_table = record {
  at = downloads_at;
  cast = λ layout x. rw (cast_null, cast_int (pos x.driver), cast_int (pos x.number), cast_int (pos x.part)) refl;
  got = λ xs a. refl;
  same = λ a. refl;
  again = λ xs ys a. refl;
  stands = λ layout db a s same. s.downloads;
  changed = with_downloads;
}

-- the SQL tests of a reading by number are `is_download`
pub download_test : (driver number : ℕ) (v : Value) (x : DownloadRow)
    → passes numbered (Int (pos driver) ∷ Int (pos number) ∷ []) (v ∷ download_columns x) ≡ is_download driver number x
download_test driver number v x = rw (eq_test x.driver driver, eq_test x.number number)
    (ap (λ b. (x.driver == driver) && b) (and-true (x.number == number)))

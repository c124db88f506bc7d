-- What readings answer, from what look-ups find.
use Rattle.std.proofs.Common.{◌≡◌, ◌∙◌, ℕ, List, [], filter, Option, Some, None, Result, Ok, Err, refl, sym, ap, subst}
use Rattle.std.specs.Prelude.{MatchOption, MatchResult, Contains, Vec, ok_or}
use Rattle.std.specs.declared.alloc.Global.{Global}
use Rattle.sqlite.specs.Tree.{Trees}
use Rattle.tacho_state.specs.declared.fault.StoreFault.{StoreFault}
use Rattle.tacho_state.specs.declared.fault.StoreFault.TheVariants.{UnknownDriver, UnknownDownload}
use Rattle.tacho_state.specs.Acts.{Answers, IsOfNoFile}
use Rattle.tacho_state.specs.State.{Driver, State, driver_of, driver_with_key, download_from}
use Rattle.tacho_state.specs.Steps.{reading_of, owner, key_reading, file_of, file_reading}
use Rattle.tacho_tables.specs.Rows.{DownloadRow}
use Rattle.tacho_tables.specs.declared.rows.StoredFile.{StoredFile}
use Rattle.tacho_tables.specs.Tables.{Tables, HasTables, is_download}
use Rattle.tacho_reading.specs.Finding.{IsOfDriver}
use Rattle.tacho_reading.specs.Kept.{HasGivenUp}
use Rattle.tacho_reading.specs.Standing.{Represents}
use Rattle.tacho_reading.proofs.LookUpLemmas.{answers_given_up}
use Rattle.tacho_reading.proofs.DownloadLemmas.{download_none, download_some}

-- S4: there is no such driver
pub nobody : {A : Type 0} (n : ℕ) (s : State) (f : Driver → Result A StoreFault) → driver_of n s ≡ None
    → reading_of f (driver_of n s) ≡ Err UnknownDriver
nobody n s f none = ap (reading_of f) none

-- S4, or the driver's key
pub key_told : {A : Type 0} (bytes : A → List ℕ) (n : ℕ) (s : State) (found : Option A)
    → MatchOption found (driver_of n s ≡ None) (λ it. (d : Driver) × (driver_of n s ≡ Some d) × (bytes it ≡ d.key))
    → Answers bytes (ok_or found UnknownDriver) (key_reading n s)
key_told bytes n s None none = nobody n s (λ d. Ok d.key) none
key_told bytes n s (Some it) (d, is, key) = rw (is, key) refl

-- the number of the driver with this key, if there is one
pub owner_told : (key : List ℕ) (s : State) (r : Result (Option ℕ) StoreFault)
    → MatchResult r (IsOfDriver (λ n d. n ≡ d.number) (driver_with_key key s)) HasGivenUp → Answers (λ found. found) r (owner key s)
owner_told key s (Ok None) none = rw none refl
owner_told key s (Ok (Some n)) (d, is, number) = rw (is, number) refl
owner_told key s (Err fault) up = answers_given_up (λ found. found) fault (owner key s) up

-- S10, or the bytes of the file
pub file_told : (db : Trees) (n number : ℕ) (s : State) (found : Option StoredFile) (d : Driver) → driver_of n s ≡ Some d → Represents db s
    → ((a : Tables) → HasTables db a → MatchOption found (filter (is_download n number) a.downloads ≡ [])
    (λ it. (r : DownloadRow) × Contains (filter (is_download n number) a.downloads) r × (it.part ≡ r.part) × (it.file.items ≡ r.file)))
    → MatchOption found (file_reading n number s ≡ Err UnknownDownload) (λ it. file_reading n number s ≡ Ok it.file.items)
unfolding Represents
file_told db n number s None d is (t, stand, of) h = rw (is, (download_none t s n number d of is).0 (h t stand)) refl
file_told db n number s (Some it) d is (t, stand, of) h =
    let row = h t stand in
    ap (reading_of (λ (d : Driver). file_of (download_from 1 number d.downloads))) is ∙ download_some t s n number d row.0 of is row.1
    ∙ ap Ok (sym row.3)

-- so a result by what was found is the answer of the reading
pub file_answered : (found : Option StoredFile) (r : Result (Vec ℕ Global) StoreFault) (told : Result (List ℕ) StoreFault)
    → MatchOption found (r ≡ Err UnknownDownload) (λ it. r ≡ Ok it.file)
    → MatchOption found (told ≡ Err UnknownDownload) (λ it. told ≡ Ok it.file.items) → Answers (λ (bytes : Vec ℕ Global). bytes.items) r told
file_answered None r told is h = subst (λ u. Answers (λ (bytes : Vec ℕ Global). bytes.items) u told) (sym is) h
file_answered (Some it) r told is h = subst (λ u. Answers (λ (bytes : Vec ℕ Global). bytes.items) u told) (sym is) h

-- and not of a card file
pub file_no_file : (found : Option StoredFile) (r : Result (Vec ℕ Global) StoreFault)
    → MatchOption found (r ≡ Err UnknownDownload) (λ it. r ≡ Ok it.file) → IsOfNoFile r
file_no_file None r is = subst IsOfNoFile (sym is) tt
file_no_file (Some it) r is = subst IsOfNoFile (sym is) tt

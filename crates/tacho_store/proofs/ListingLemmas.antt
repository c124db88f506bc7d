-- The list of a driver's card files: what one file's row says of it, and the list after each file that is read.
use Rattle.std.proofs.Common.{◌≡◌, ◌≢◌, ◌∙◌, inl, inr, ℕ, ◌+◌, zero, suc, arith, List, [], ◌∷◌, ◌++◌, Bool, true, false, cond, ◌≤◌, ◌-◌, Vec, Global, Some, Result, Ok, Err, IfOk, sym, ap, ap₂, subst, map, drop, length, filter}
use Rattle.std.specs.Prelude.{◌==◌, Contains}
use Rattle.std.specs.Borrow.{MutBor}
use Rattle.std.proofs.lemmas.List.{append-nil, append_assoc, map-append, drop_all}
use Rattle.sqlite.specs.Store.{Ghosts}
use Rattle.sqlite.specs.Held.{Held}
use Rattle.sqlite.specs.Tree.{Trees}
use Rattle.tacho_time.specs.OrMemory.{OrMemory}
use Rattle.tacho_card.specs.declared.fault.CardFault.{CardFault}
use Rattle.tacho_card.specs.declared.file.Part.{Part}
use Rattle.tacho_state.specs.declared.fault.StoreFault.{StoreFault}
use Rattle.tacho_state.specs.declared.fault.StoreFault.TheVariants.{Card, Memory}
use Rattle.tacho_state.specs.declared.file.FileSummary.{FileSummary}
use Rattle.tacho_state.specs.Content.{AreRead, FileTells, HasContent}
use Rattle.tacho_state.specs.Numbers.{part_number}
use Rattle.tacho_state.specs.Files.{ListedFile, listed_file, listed_from, files_reading, told_file}
use Rattle.tacho_state.specs.State.{Download, Driver, State, driver_of, download_from}
use Rattle.tacho_state.specs.Steps.{Content, reading_of}
use Rattle.tacho_state.proofs.ContentLemmas.{one_content, one_part}
use Rattle.tacho_state.proofs.EqualLemmas.{eq_not, eq_self}
use Rattle.tacho_tables.specs.Rows.{DownloadRow}
use Rattle.tacho_tables.specs.declared.rows.StoredDriver.{StoredDriver}
use Rattle.tacho_tables.specs.declared.rows.StoredFile.{StoredFile}
use Rattle.tacho_tables.specs.Tables.{Tables, HasTables, is_download}
use Rattle.tacho_reading.specs.Calls.{Tells}
use Rattle.tacho_reading.specs.Finding.{IsStored}
use Rattle.tacho_reading.specs.Standing.{Represents}
use Rattle.tacho_reading.proofs.DownloadLemmas.{download_at}
use Rattle.tacho_reading.proofs.StateLemmas.{found_of}
use Rattle.tacho_reading.proofs.TellLemmas.{tells_as, tells_then}
use Rattle.tacho_store.specs.Listing.{IsFileOf}

-- ---- the content of one file

-- a file has one content for the part with a number
one_told : (number : ℕ) (bytes : List ℕ) (p : Part) (told : Result Content CardFault) (content : Content) → part_number p ≡ number
    → FileTells p bytes told → HasContent number bytes content → told ≡ Ok content
one_told number bytes p told content is tells (q, same, has) =
    one_content p bytes told (Ok content) tells (subst (λ x. FileTells x bytes (Ok content)) (one_part q p (same ∙ sym is)) has)

-- likewise, for the spans
pub same_spans : (number : ℕ) (bytes : List ℕ) (p : Part) (read content : Content) → part_number p ≡ number → FileTells p bytes (Ok read)
    → HasContent number bytes content → read.spans ≡ content.spans
same_spans number bytes p read content is tells has =
    let both = one_told number bytes p (Ok read) content is tells has in
    let same : read ≡ content = cc in
    ap (λ (x : Content). x.spans) same

-- a file with a fault has no content
pub no_content : (number : ℕ) (bytes : List ℕ) (p : Part) (fault : StoreFault) (content : Content) → part_number p ≡ number
    → OrMemory Memory fault ((f : CardFault) × (fault ≡ Card f) × FileTells p bytes (Err f)) → fault ≢ Memory
    → HasContent number bytes content → ⊥
no_content number bytes p fault content is (inl memory) other has = other memory
no_content number bytes p fault content is (inr it) other has = let both = one_told number bytes p (Err it.0) content is it.2 has in cc

-- the file of a driver's download has a content, which gives the download's spans
read_from : (i number : ℕ) (ds : List Download) (x : Download) → AreRead ds → download_from i number ds ≡ Some x
    → (holder : List ℕ) × HasContent x.part x.file (record { holder = holder; spans = x.spans })
read_from i number [] x read e = absurd (let f = e in cc)
read_from i number (d ∷ ds) x read e = go (i == number) e (read_from (i + 1) number ds x read.1) where
  go : (b : Bool) → cond b (Some d) (download_from (i + 1) number ds) ≡ Some x
      → (download_from (i + 1) number ds ≡ Some x
      → (holder : List ℕ) × HasContent x.part x.file (record { holder = holder; spans = x.spans }))
      → (holder : List ℕ) × HasContent x.part x.file (record { holder = holder; spans = x.spans })
  go true f more =
      let same : d ≡ x = cc in
      subst (λ (y : Download). (holder : List ℕ) × HasContent y.part y.file (record { holder = holder; spans = y.spans })) same
      (read.0.1, (read.0.0, read.0.2, read.0.3))
  go false f more = more f

-- what is listed of a stored file is what is listed of the driver's card file
pub file_listed : (db : Trees) (s : State) (n number : ℕ) (d : Driver) (it : StoredFile) (r : Result FileSummary StoreFault) → Represents db s
    → driver_of n s ≡ Some d
    → ((a : Tables) → HasTables db a → (row : DownloadRow) × Contains (filter (is_download n number) a.downloads) row
    × (it.part ≡ row.part) × (it.file.items ≡ row.file))
    → IfOk r (λ summary. (content : Content) → HasContent it.part it.file.items content
    → told_file summary ≡ listed_file number (record { part = it.part; file = it.file.items; spans = content.spans }))
    → IfOk r (IsFileOf d number)
unfolding Represents
file_listed db s n number d it (Err fault) stands is found listed = tt
file_listed db s n number d it (Ok summary) (t, stand, of) is found listed =
    let row = found t stand in
    let x = download_at t s n number d row.0 of is row.1 in
    let content = read_from 1 number d.downloads x.0 (found_of t n s d is of.each).read x.1 in
    let part : it.part ≡ x.0.part = row.2 ∙ ap (λ (y : DownloadRow). y.part) x.2 in
    let file : it.file.items ≡ x.0.file = row.3 ∙ ap (λ (y : DownloadRow). y.file) x.2 in (
      x.0,
      x.1,
      rw (part, file) at listed (record { holder = content.0; spans = x.0.spans }) content.1,
    )

-- ---- the list so far

-- the file with the number after `k` is the first after the first `k` files
next_file : (i k : ℕ) (ds : List Download) (x : Download) → download_from i (i + k) ds ≡ Some x → drop k ds ≡ x ∷ drop (suc k) ds
next_file i k [] x e = absurd (let f = e in cc)
next_file i zero (d ∷ ds) x e =
    let found : cond (i == (i + zero)) (Some d) (download_from (i + 1) (i + zero) ds) ≡ Some x = e in
    let own : i ≡ i + zero = omega arith in
    let one : Some d ≡ Some x = rw (subst (λ (j : ℕ). (i == j) ≡ true) own (eq_self i)) at found in
    let same : d ≡ x = cc in
    ap (λ (y : Download). y ∷ ds) same
next_file i (suc k) (d ∷ ds) x e =
    let more : download_from (i + 1) (i + suc k) ds ≡ Some x = rw (eq_not i (i + suc k) (λ f. absurd (omega (arith, f)))) at e in
    let on : i + suc k ≡ (i + 1) + k = omega arith in
    next_file (i + 1) k ds x (subst (λ (j : ℕ). download_from (i + 1) j ds ≡ Some x) on more)

-- the first `k` card files of the driver are listed, and their count is right
pub record AreListedTo (n k count : ℕ) (files : List FileSummary) (s : State) : Type 0 where
  pub driver : Driver
  pub found : driver_of n s ≡ Some driver
  pub counted : count ≡ length driver.downloads
  pub listed : map told_file files ++ listed_from (1 + k) (drop k driver.downloads) ≡ listed_from 1 driver.downloads

-- before the first reading, none is listed
pub none_listed : (n : ℕ) (it : StoredDriver) (files : List FileSummary) (s : State) (d : Driver) → files ≡ [] → driver_of n s ≡ Some d
    → IsStored it d → AreListedTo n 0 it.downloads files s
none_listed n it files s d none is stored = record {
  driver = d;
  found = is;
  counted = stored.downloads;
  listed = ap (λ (xs : List FileSummary). map told_file xs ++ listed_from 1 d.downloads) none;
}

-- one more is listed
one_listed : (n k count : ℕ) (files : List FileSummary) (it : FileSummary) (s : State) → AreListedTo n k count files s
    → ((d : Driver) → driver_of n s ≡ Some d → IsFileOf d (1 + k) it) → AreListedTo n (1 + k) count (files ++ it ∷ []) s
one_listed n k count files it s was read =
    let d = was.driver in
    let file = read d was.found in
    let cut : drop k d.downloads ≡ file.0 ∷ drop (suc k) d.downloads = next_file 1 k d.downloads file.0 file.1 in
    let rest : List ListedFile = listed_from (1 + k + 1) (drop (suc k) d.downloads) in
    let later : 1 + (1 + k) ≡ 1 + k + 1 = omega arith in
    let dropped : 1 + k ≡ suc k = omega arith in
    let after : listed_from (1 + (1 + k)) (drop (1 + k) d.downloads) ≡ rest =
    ap₂ (λ (i j : ℕ). listed_from i (drop j d.downloads)) later dropped in record {
      driver = d;
      found = was.found;
      counted = was.counted;
      listed = ap (λ (xs : List ListedFile). map told_file (files ++ it ∷ []) ++ xs) after
          ∙ ap (λ (xs : List ListedFile). xs ++ rest) (map-append told_file files (it ∷ []))
          ∙ append_assoc (map told_file files) (told_file it ∷ []) rest
          ∙ ap (λ (x : ListedFile). map told_file files ++ x ∷ rest) file.2
          ∙ ap (λ (ds : List Download). map told_file files ++ listed_from (1 + k) ds) (sym cut) ∙ was.listed;
    }

-- all are listed
all_listed : (n k count : ℕ) (files : List FileSummary) (s : State) → count ≤ k → AreListedTo n k count files s
    → files_reading n s ≡ Ok (map told_file files)
all_listed n k count files s last h =
    let d = h.driver in
    let none : drop k d.downloads ≡ [] = drop_all k d.downloads (let e = h.counted in omega (arith, last, e)) in
    let all : map told_file files ≡ listed_from 1 d.downloads =
    sym (append-nil (map told_file files))
    ∙ sym (ap (λ (ds : List Download). map told_file files ++ listed_from (1 + k) ds) none) ∙ h.listed in
    ap (reading_of (λ (d : Driver). Ok (listed_from 1 d.downloads))) h.found ∙ ap Ok (sym all)

-- ---- the calls of the loop

module _ {S : Type 0} {g : Ghosts S} (n count : ℕ) {old : MutBor (Held S)} where
  -- after one more call, one more file is listed
  pub listed_then : {mid new : MutBor (Held S)} (number : ℕ) (files more : Vec FileSummary Global) (it : FileSummary) → 1 ≤ number
      → Tells g old mid (Ok files) (λ _ s. AreListedTo n (number - 1) count files.items s)
      → Tells g mid new (Ok it) (λ _ s. (d : Driver) → driver_of n s ≡ Some d → IfOk {E = StoreFault} (Ok it) (IsFileOf d number))
      → more.items ≡ files.items ++ it ∷ [] → Tells g old new (Ok more) (λ _ s. AreListedTo n (number + 1 - 1) count more.items s)
  listed_then number files more it one was read pushed =
      let next : number ≡ 1 + (number - 1) = omega (arith, one) in
      let last : 1 + (number - 1) ≡ number + 1 - 1 = omega (arith, one) in
      tells_as (tells_then was read) tt (λ db s stands (listed, told).
      subst (λ (k : ℕ). AreListedTo n k count more.items s) last
      (subst (λ (xs : List FileSummary). AreListedTo n (1 + (number - 1)) count xs s) (sym pushed)
      (one_listed n (number - 1) count files.items it s listed (λ d is. subst (λ (j : ℕ). IsFileOf d j it) next (told d is)))))

  -- after the last call, all files are listed
  pub listed_last : {new now : MutBor (Held S)} (k : ℕ) (files all : Vec FileSummary Global) → count ≤ k
      → Tells g old new (Ok files) (λ _ s. AreListedTo n k count files.items s) → now ≡ new → all ≡ files
      → Tells g old now (Ok all) (λ _ s. files_reading n s ≡ Ok (map told_file all.items))
  listed_last k files all last h place same =
      subst (λ (x : MutBor (Held S)). Tells g old x (Ok all) (λ _ s. files_reading n s ≡ Ok (map told_file all.items))) (sym place)
      (tells_as h tt (λ db s stands listed. subst (λ (v : Vec FileSummary Global). files_reading n s ≡ Ok (map told_file v.items)) (sym same)
      (all_listed n k count files.items s last listed)))

-- A driver's card files, which are read one after the other from the newest on.
use Rattle.std.proofs.Common.{◌≡◌, ◌∙◌, ℕ, ◌+◌, ◌*◌, ◌<◌, List, [], ◌∷◌, ◌++◌, Option, Some, None, Result, Ok, Err, ap, arith, codes, drop, get_or, length, map, refl, subst, sym}
use Rattle.std.specs.List.{All, filter, flat_map}
use Rattle.std.specs.Prelude.{IfErr, IfSome}
use Rattle.tacho_time.specs.declared.span.Span.{Span}
use Rattle.tacho_line.specs.Line.{AgreeWithin, AreGaps}
use Rattle.tacho_line.specs.declared.gap.Gap.{Gap}
use Rattle.tacho_state.specs.Acts.{Answers}
use Rattle.tacho_state.specs.Files.{ListedFile, files_reading, listed_file, listed_from, told_file}
use Rattle.tacho_state.specs.Reported.{IsHeldWithin}
use Rattle.tacho_state.specs.State.{Download, Driver, State, download_from, driver_of, held_spans}
use Rattle.tacho_state.specs.Steps.{entries_reading, file_of, file_reading, numbered_from, reading_of}
use Rattle.tacho_state.specs.Summaries.{Summary, driver_reading, summary_of, told_summary}
use Rattle.tacho_state.proofs.ListedLemmas.{IsListedAt, as_many, listed_at}
use Rattle.tacho_state.specs.declared.entry.Entry.{Entry}
use Rattle.tacho_state.specs.declared.file.FileSummary.{FileSummary}
use Rattle.tacho_state.specs.declared.fault.StoreFault.{StoreFault}
use Rattle.tacho_state.specs.declared.fault.StoreFault.TheVariants as store
use Rattle.tacho_state.specs.declared.summary.DriverSummary.{DriverSummary}
use Rattle.tacho_sheet.specs.Fault.{IsFailure, fault_of_store}
use Rattle.tacho_sheet.specs.Text.{entry_line}
use Rattle.tacho_tar.specs.Tar.{IsMember, tar_bytes}
use Rattle.tacho_handover.specs.Contents.{card_member, contents_member, has_minute_of, missing_line}
use Rattle.tacho_handover.specs.Covering.{AreHanded}
use Rattle.tacho_handover.specs.Handover.{IsHandover}
use Rattle.tacho_handover.specs.Parcel.{HasFiles, IsClosed, Parcel}
use Rattle.tacho_desk.specs.Doing.{IsFileOf}
use Rattle.tacho_desk.specs.Range.{Days}
use Rattle.tacho_desk.specs.Told.{File}

-- ---- one reading

-- a reading that answers from the state and doesn't succeed has failed
pub gave_up : {A B : Type 0} (view : A → B) (result : Result A StoreFault) (told : Result B StoreFault) (x : B) → told ≡ Ok x → Answers view result told
    → IfErr result (λ f. IsFailure (fault_of_store f))
gave_up view (Ok y) told x is answers = tt
gave_up view (Err store.Memory) told x is answers = tt
gave_up view (Err store.Store) told x is answers = tt
gave_up view (Err f) told x is answers = absurd (let wrong : Ok x ≡ Err f = sym is ∙ answers in cc)

-- ---- a driver who was read

-- what was read of a driver: what is listed of them and of their card files, the lines of their entries, and of what isn't held
pub record IsTold (n : ℕ) (s : State) (period : Days) (listed : DriverSummary) (files : List FileSummary) (entries missing : List ℕ) : Type 0 where
  pub driver : Driver
  pub is : driver_of n s ≡ Some driver
  pub summary : told_summary listed ≡ summary_of driver
  pub downloads : map told_file files ≡ listed_from 1 driver.downloads
  pub entered : entries ≡ flat_map entry_line (filter (has_minute_of (1440 * period.from) (1440 * period.past)) (numbered_from 1 driver.entries))
  pub gaps : List Gap
  pub lacking : AreGaps (held_spans driver) (1440 * period.from) (1440 * period.past) gaps
  pub told : missing ≡ flat_map missing_line gaps

-- and the parcel has those of their card files from this place on that cover the period
pub record IsSoFar (n : ℕ) (s : State) (period : Days) (listed : DriverSummary) (files : List FileSummary) (entries missing : List ℕ) (place : ℕ)
    (parcel : Parcel) : Type 0 where
  pub read : IsTold n s period listed files entries missing
  pub taken : HasFiles read.driver.holder (place + 1) (drop place read.driver.downloads) parcel

-- a line that agrees with what is held has the same gaps
gaps_agree : (line held : List Span) (start past : ℕ) (gaps : List Gap) → AgreeWithin start past line held → AreGaps line start past gaps
    → AreGaps held start past gaps
gaps_agree line held start past gaps agree are = record {
  apart = are.apart;
  lacking = λ m. (
    λ inside. (let both = (are.lacking m).0 inside in (both.0, sym (agree m both.0) ∙ both.1)),
    λ both. (are.lacking m).1 (both.0, agree m both.0 ∙ both.1),
  );
}

module _ (n : ℕ) (s : State) (period : Days) (listed : DriverSummary) (files : List FileSummary) (entries missing : List ℕ) where
  -- before the first card file
  pub begun : (entered : List Entry) (line : List Span) (gaps : List Gap) (count : ℕ) (parcel : Parcel) → driver_reading n s ≡ Ok (told_summary listed)
      → files_reading n s ≡ Ok (map told_file files) → entries_reading n s ≡ Ok entered
      → entries ≡ flat_map entry_line (filter (has_minute_of (1440 * period.from) (1440 * period.past)) entered)
      → IsHeldWithin n (1440 * period.from) (1440 * period.past) s line → AreGaps line (1440 * period.from) (1440 * period.past) gaps
      → missing ≡ flat_map missing_line gaps → count ≡ length files → ((holder : List ℕ) (i : ℕ) → HasFiles holder i [] parcel)
      → IsSoFar n s period listed files entries missing count parcel
  begun entered line gaps count parcel of_driver of_files of_entries lines held lacking told counted none = by (driver_of n s) refl of_driver of_files of_entries held
    where
      by : (o : Option Driver) → driver_of n s ≡ o → reading_of (λ d. Ok (summary_of d)) o ≡ Ok (told_summary listed)
          → reading_of (λ d. Ok (listed_from 1 d.downloads)) o ≡ Ok (map told_file files) → reading_of (λ d. Ok (numbered_from 1 d.entries)) o ≡ Ok entered
          → IfSome o (λ d. AgreeWithin (1440 * period.from) (1440 * period.past) line (held_spans d))
          → IsSoFar n s period listed files entries missing count parcel
      by None is a b e agree = absurd (let wrong = a in cc)
      by (Some d) is a b e agree =
          let downloads : map told_file files ≡ listed_from 1 d.downloads = cc in
          let same : entered ≡ numbered_from 1 d.entries = cc in
          let summary : told_summary listed ≡ summary_of d = cc in
          let none_left : drop count d.downloads ≡ [] = rw counted (as_many 1 d.downloads files downloads) in
          record {
            read = record {
              driver = d;
              is = is;
              summary = summary;
              downloads = downloads;
              entered = lines ∙ ap (λ (es : List Entry). flat_map entry_line (filter (has_minute_of (1440 * period.from) (1440 * period.past)) es)) same;
              gaps = gaps;
              lacking = gaps_agree line (held_spans d) (1440 * period.from) (1440 * period.past) gaps agree lacking;
              told = told;
            };
            taken = subst (λ (ds : List Download). HasFiles d.holder (count + 1) ds parcel) (sym none_left) (none d.holder (count + 1));
          }

  -- a listed card file is there
  module _ (read : IsTold n s period listed files entries missing) (place : ℕ) (f : FileSummary) (within : place < length files)
      (item : f ≡ get_or files place f) where
    abbrev at : IsListedAt 1 read.driver.downloads place f
    at = listed_at 1 read.driver.downloads files place f read.downloads within item

    number_is : f.number ≡ 1 + place
    number_is = ap (λ (x : ListedFile). x.number) at.listed

    pub there : file_reading n f.number s ≡ Ok at.download.file
    there =
        let found : download_from 1 f.number read.driver.downloads ≡ Some at.download =
        subst (λ (j : ℕ). download_from 1 j read.driver.downloads ≡ Some at.download) (sym number_is) at.found in
        ap (λ (o : Option Driver). reading_of (λ d. file_of (download_from 1 f.number d.downloads)) o) read.is ∙ ap file_of found

    -- one more card file
    pub one_more : (count : ℕ) (bytes : List ℕ) (old new : Parcel) → count ≡ place + 1 → file_reading n f.number s ≡ Ok bytes
        → HasFiles read.driver.holder (count + 1) (drop count read.driver.downloads) old
        → ((i : ℕ) (newer : List Download) (x : Download) → HasFiles listed.holder.items (i + 1) newer old → told_file f ≡ listed_file i x
        → bytes ≡ x.file → HasFiles listed.holder.items i (x ∷ newer) new)
        → IsSoFar n s period listed files entries missing place new
    one_more count bytes old new counted got has offered =
        let theirs : listed.holder.items ≡ read.driver.holder = ap (λ (x : Summary). x.holder) read.summary in
        let file : bytes ≡ at.download.file = (let same : Ok bytes ≡ Ok at.download.file = sym got ∙ there in cc) in
        let is_listed = subst (λ (j : ℕ). told_file f ≡ listed_file j at.download) (let swap : 1 + place ≡ place + 1 = omega arith in swap) at.listed in
        let before = subst (λ (h : List ℕ). HasFiles h (place + 1 + 1) (drop (place + 1) read.driver.downloads) old) (sym theirs)
        (subst (λ (j : ℕ). HasFiles read.driver.holder (j + 1) (drop j read.driver.downloads) old) counted has) in
        let after = offered (place + 1) (drop (place + 1) read.driver.downloads) at.download before is_listed file in
        record {
          read = read;
          taken = subst (λ (h : List ℕ). HasFiles h (place + 1) (drop place read.driver.downloads) new) theirs
              (subst (λ (ds : List Download). HasFiles listed.holder.items (place + 1) ds new) (sym at.rest) after);
        }

  -- after the last card file
  pub handed_over : (program tar : List ℕ) (parcel : Parcel) → parcel.start ≡ 1440 * period.from → parcel.past ≡ 1440 * period.past
      → (far : IsSoFar n s period listed files entries missing 0 parcel)
      → IsClosed parcel program (told_summary listed) period.from period.past entries missing tar
      → IsFileOf (IsHandover program period.from period.past) (driver_of n s) (Ok (File tar))
  handed_over program tar parcel start past far closed =
      let d = far.read.driver in
      let first = 1440 * period.from in
      let end = 1440 * period.past in
      let files : HasFiles d.holder 1 d.downloads parcel = far.taken in
      let are = subst (λ (x : ℕ). AreHanded x end 1 d.downloads files.handed) start
      (subst (λ (x : ℕ). AreHanded parcel.start x 1 d.downloads files.handed) past files.are) in
      let both = closed (map (card_member d.holder) files.handed) far.read.gaps files.members far.read.told in
      let before = λ (lines : List ℕ). map (card_member d.holder) files.handed ++ record { name = codes "entries.txt"; content = lines } ∷ [] in
      let all = λ (lines : List ℕ) (x : Summary). before lines ++ contents_member program x period.from period.past (before lines) far.read.gaps ∷ [] in
      let shown = subst (λ (lines : List ℕ). All IsMember (all lines (summary_of d)) × (tar ≡ tar_bytes (all lines (summary_of d)))) far.read.entered
      (subst (λ (x : Summary). All IsMember (all entries x) × (tar ≡ tar_bytes (all entries x))) far.read.summary both) in
      subst (λ (o : Option Driver). IsFileOf (IsHandover program period.from period.past) o (Ok (File tar))) (sym far.read.is)
      (record { handed = files.handed; are = are; gaps = far.read.gaps; lacking = far.read.lacking; plain = shown.0; is = shown.1 })

-- A driver's card files, which are imported one after the other.
use Rattle.std.proofs.Common.{◌≡◌, ◌∙◌, ℕ, zero, suc, ◌+◌, ◌-◌, ◌<◌, ◌≤◌, ◌||◌, max, nat_lt, Bool, true, false, cond, List, [], ◌∷◌, ◌++◌}
use Rattle.std.proofs.Common.{Some, Option, Result, Ok, Err, drop, get_or, length, map, refl, sym, ap, subst, arith, append_assoc}
use Rattle.std.proofs.Common.{append-nil}
use Rattle.std.specs.Prelude.{slice_get}
use Rattle.std.proofs.lemmas.Bool.Decides.{nat_tests}
use Rattle.tacho_time.specs.declared.span.Span.{Span}
use Rattle.tacho_time.specs.Spans.{IsCanonical}
use Rattle.tacho_card.specs.declared.fault.CardFault.{CardFault}
use Rattle.tacho_card.specs.declared.file.Part.{Part}
use Rattle.tacho_card.specs.CardFile.{FileBlock, ReadsChosen, card_file, chosen_activity}
use Rattle.tacho_state.specs.Content.{AreRead, FileTells, ReadTells}
use Rattle.tacho_state.specs.Numbers.{part_number}
use Rattle.tacho_state.specs.Files.{ListedFile, listed_file, listed_from, past_of, told_file}
use Rattle.tacho_state.specs.State.{Download, Driver, State, download_from, driver_of, put, with_download}
use Rattle.tacho_state.specs.Steps.{Content, file_of, file_reading, reading_of}
use Rattle.tacho_state.specs.declared.file.FileSummary.{FileSummary}
use Rattle.tacho_state.proofs.ContentLemmas.{one_part}
use Rattle.tacho_state.proofs.ListedLemmas.{IsListedAt, listed_at}
use Rattle.tacho_state.proofs.PutLemmas.{found_number, put_found, put_same, put_twice}
use Rattle.tacho_carry.specs.Carried.{carried_files, reaches}
use Rattle.tacho_carry.specs.Carrying.{with_files}

-- ---- what a card file gives last

-- the past of the last span
abbrev last_past : List Span → ℕ
last_past spans = past_of (slice_get spans (length spans - 1))

-- that of two spans and more is that of the later ones
last_later : (s t : Span) (spans : List Span) → last_past (s ∷ t ∷ spans) ≡ last_past (t ∷ spans)
last_later s t spans =
    let first : suc (suc (length spans)) - 1 ≡ suc (length spans) = omega arith in
    let second : suc (length spans) - 1 ≡ length spans = omega arith in
    ap (λ (j : ℕ). past_of (slice_get (s ∷ t ∷ spans) j)) first ∙ sym (ap (λ (j : ℕ). past_of (slice_get (t ∷ spans) j)) second)

-- the first span starts before that
first_before : (s : Span) (spans : List Span) → IsCanonical (s ∷ spans) → s.start < last_past (s ∷ spans)
first_before s [] h = h.0
first_before s (t ∷ spans) h =
    let more = first_before t spans h.2 in
    let full = h.0 in
    let next = h.1.0 in
    let last = last_later s t spans in
    omega (arith, more, full, next, last)

-- if a span has a minute at or after `start`, the list goes on past it
within : (start : ℕ) (s : Span) (past : ℕ) → s.past ≤ past → nat_lt (max start s.start) s.past ≡ true → nat_lt start past ≡ true
within start s past l e = grind (arith, nat_tests)

-- canonical spans give a minute at or after `start` exactly if the last one ends after it
pub last_reaches : (start : ℕ) (spans : List Span) → IsCanonical spans → reaches start spans ≡ nat_lt start (last_past spans)
last_reaches start [] h = grind (arith, nat_tests)
last_reaches start (s ∷ []) h = one (nat_lt start s.past) refl where
  one : (b : Bool) → nat_lt start s.past ≡ b → nat_lt (max start s.start) s.past || false ≡ b
  one true e = let full = h.0 in grind (arith, nat_tests)
  one false e = grind (arith, nat_tests)
last_reaches start (s ∷ t ∷ spans) h =
    go (nat_lt (max start s.start) s.past) refl (last_reaches start (t ∷ spans) h.2) ∙ ap (nat_lt start) (sym (last_later s t spans)) where
      later : s.past ≤ last_past (t ∷ spans)
      later = let more = first_before t spans h.2 in let next = h.1.0 in omega (arith, more, next)

      go : (b : Bool) → nat_lt (max start s.start) s.past ≡ b → reaches start (t ∷ spans) ≡ nat_lt start (last_past (t ∷ spans))
          → b || reaches start (t ∷ spans) ≡ nat_lt start (last_past (t ∷ spans))
      go true e more = sym (within start s (last_past (t ∷ spans)) later e)
      go false e more = more

-- a card file's spans are canonical
canonical_read : (part : Part) (file : List ℕ) (content : Content) → FileTells part file (Ok content) → IsCanonical content.spans
canonical_read part file content tells = by (card_file file) tells where
  chosen : (blocks : List FileBlock) → ReadsChosen (chosen_activity part blocks) (Ok content.spans) → IsCanonical content.spans
  chosen blocks = go (chosen_activity part blocks) where
    go : (r : Result (List (Option _)) CardFault) → ReadsChosen r (Ok content.spans) → IsCanonical content.spans
    go (Ok activities) reads = reads.1.canonical
    go (Err fault) reads = cc

  by : (r : Result (List FileBlock) CardFault) → ReadTells part r (Ok content) → IsCanonical content.spans
  by (Ok blocks) it = chosen blocks it.1
  by (Err fault) it = cc

-- ---- one of the card files

-- what the file of a download gives
pub record IsReadAs (d : Download) : Type 0 where
  pub part : Part
  pub holder : List ℕ
  pub is : part_number part ≡ d.part
  pub tells : FileTells part d.file (Ok (record { holder = holder; spans = d.spans }))

-- each of the downloads is read
pub read_at : (k : ℕ) (ds : List Download) (d : Download) → AreRead ds → drop k ds ≡ d ∷ drop (k + 1) ds → IsReadAs d
read_at zero [] d read e = absurd (let wrong = e in cc)
read_at (suc k) [] d read e = absurd (let wrong = e in cc)
read_at zero (x ∷ ds) d read e =
    let same : x ≡ d = cc in
    subst IsReadAs same (record { part = read.0.0; holder = read.0.1; is = read.0.2; tells = read.0.3 })
read_at (suc k) (x ∷ ds) d read e =
    read_at k ds d read.1 (e ∙ ap (λ (rest : List Download). d
    ∷ rest) (ap (λ (j : ℕ). drop j (x ∷ ds)) (let more : suc k + 1 ≡ suc (k + 1) = omega arith in more)))

module _ (start i : ℕ) (f : FileSummary) (d : Download) (read : IsReadAs d) (listed : told_file f ≡ listed_file i d) where
  -- a listed card file is carried exactly if it gives something after `start`
  pub reaches_listed : reaches start d.spans ≡ nat_lt start f.past
  reaches_listed =
      last_reaches start d.spans (canonical_read read.part d.file _ read.tells)
      ∙ ap (nat_lt start) (sym (ap (λ (x : ListedFile). x.past) listed))

  -- the part that is listed gives the same
  pub tells_listed : FileTells f.part d.file (Ok (record { holder = read.holder; spans = d.spans }))
  tells_listed =
      let part : part_number f.part ≡ d.part = ap (λ (x : ListedFile). x.part) listed in
      subst (λ (p : Part). FileTells p d.file (Ok (record { holder = read.holder; spans = d.spans }))) (one_part read.part f.part (read.is
      ∙ sym part)) read.tells

-- ---- the driver so far

-- the driver who is put in the state has, with those of the card files that are left, all that are carried
pub record IsImportedUpTo (n start : ℕ) (left : List Download) (d x : Driver) (t : State) (at : State → Type 0) : Type 0 where
  pub now : Driver
  pub number : now.number ≡ n
  pub here : at (put now t)
  pub rest : with_files start left now ≡ with_files start d.downloads x

module _ (n start : ℕ) (d x : Driver) (t : State) (is : driver_of n t ≡ Some x) (at : State → Type 0) where
  -- before the first card file
  pub none_imported : at t → IsImportedUpTo n start d.downloads d x t at
  none_imported here =
      let number = found_number n t x is in
      let own : driver_of x.number t ≡ Some x = subst (λ (j : ℕ). driver_of j t ≡ Some x) (sym number) is in
      record { now = x; number = number; here = subst at (sym (put_same x t own)) here; rest = refl }

  -- after the last
  pub all_imported : IsImportedUpTo n start [] d x t at → at (put (with_files start d.downloads x) t)
  all_imported it = subst (λ (y : Driver). at (put y t))
      (ap (λ (ds : List Download). record it.now { downloads = ds }) (sym (append-nil it.now.downloads)) ∙ it.rest) it.here

  -- a card file that isn't carried
  pub not_imported : (f : Download) (left : List Download) → reaches start f.spans ≡ false → IsImportedUpTo n start (f ∷ left) d x t at
      → IsImportedUpTo n start left d x t at
  not_imported f left e it = record {
    now = it.now;
    number = it.number;
    here = it.here;
    rest = ap (λ b. record it.now { downloads = it.now.downloads ++ cond b (f ∷ carried_files start left) (carried_files start left) })
        (sym e) ∙ it.rest;
  }

  -- the driver is found so far
  pub found_now : (left : List Download) (it : IsImportedUpTo n start left d x t at) → driver_of n (put it.now t) ≡ Some it.now
  found_now left it =
      subst (λ (j : ℕ). driver_of j t ≡ Some x → driver_of j (put it.now t) ≡ Some it.now) it.number (put_found it.now x t) is

  -- a card file that is carried
  pub one_imported : (after : State → Type 0) (f : Download) (left : List Download) → reaches start f.spans ≡ true
      → (it : IsImportedUpTo n start (f ∷ left) d x t at) → after (put (with_download f.part f.file f.spans it.now) (put it.now t))
      → IsImportedUpTo n start left d x t after
  one_imported after f left e it here =
      let next = with_download f.part f.file f.spans it.now in
      record {
        now = next;
        number = it.number;
        here = subst after (put_twice next it.now t refl) here;
        rest = ap (λ (ds : List Download). record it.now { downloads = ds }) (append_assoc it.now.downloads (f
            ∷ []) (carried_files start left))
            ∙ ap (λ b. record it.now { downloads = it.now.downloads ++ cond b (f ∷ carried_files start left) (carried_files start left) })
            (sym e)
            ∙ it.rest;
      }

-- ---- a listed card file

module _ (n start : ℕ) (s t : State) (d x : Driver) (is : driver_of n s ≡ Some d) (read : AreRead d.downloads)
    (found : driver_of n t ≡ Some x)
    (files : List FileSummary) (listed : map told_file files ≡ listed_from 1 d.downloads) (k : ℕ) (f : FileSummary)
    (inside : k < length files)
    (item : f ≡ get_or files k f) (at : State → Type 0) where
  abbrev here : IsListedAt 1 d.downloads k f
  here = listed_at 1 d.downloads files k f listed inside item

  abbrev file : Download
  file = here.download

  abbrev gives : IsReadAs file
  gives = read_at k d.downloads file read here.rest

  -- its bytes
  bytes_there : file_reading n f.number s ≡ Ok file.file
  bytes_there =
      let number : f.number ≡ 1 + k = ap (λ (l : ListedFile). l.number) here.listed in
      let of_number : download_from 1 f.number d.downloads ≡ Some file =
      subst (λ (j : ℕ). download_from 1 j d.downloads ≡ Some file) (sym number) here.found in
      ap (λ (o : Option Driver). reading_of (λ (y : Driver). file_of (download_from 1 f.number y.downloads)) o) is ∙ ap file_of of_number

  -- it isn't carried
  pub passed_over : nat_lt start f.past ≡ false → IsImportedUpTo n start (drop k d.downloads) d x t at
      → IsImportedUpTo n start (drop (k + 1) d.downloads) d x t at
  passed_over early so_far =
      not_imported n start d x t found at file (drop (k + 1) d.downloads) (reaches_listed start (1 + k) f file gives here.listed ∙ early)
      (subst (λ (ds : List Download). IsImportedUpTo n start ds d x t at) here.rest so_far)

  -- it is carried
  pub taken_over : (after : State → Type 0) (bytes : List ℕ) → nat_lt start f.past ≡ true → file_reading n f.number s ≡ Ok bytes
      → ((y : State) (z : Driver) (content : Content) → driver_of n y ≡ Some z → FileTells f.part bytes (Ok content) → at y
      → after (put (with_download (part_number f.part) bytes content.spans z) y))
      → IsImportedUpTo n start (drop k d.downloads) d x t at → IsImportedUpTo n start (drop (k + 1) d.downloads) d x t after
  taken_over after bytes late got imported so_far =
      let before = subst (λ (ds : List Download). IsImportedUpTo n start ds d x t at) here.rest so_far in
      let same : bytes ≡ file.file = (let e : Ok bytes ≡ Ok file.file = sym got ∙ bytes_there in cc) in
      let part : part_number f.part ≡ file.part = ap (λ (l : ListedFile). l.part) here.listed in
      let tells = subst (λ (b : List ℕ). FileTells f.part b (Ok (record { holder = gives.holder; spans = file.spans }))) (sym same)
      (tells_listed start (1 + k) f file gives here.listed) in
      let next = imported (put before.now t) before.now (record { holder = gives.holder; spans = file.spans })
      (found_now n start d x t found at (file ∷ drop (k + 1) d.downloads) before) tells before.here in
      one_imported n start d x t found at after file (drop (k + 1) d.downloads)
      (reaches_listed start (1 + k) f file gives here.listed ∙ late) before
      (subst (λ (p : ℕ). after (put (with_download p file.file file.spans before.now) (put before.now t))) part
      (subst (λ (b : List ℕ). after (put (with_download (part_number f.part) b file.spans before.now) (put before.now t))) same next))

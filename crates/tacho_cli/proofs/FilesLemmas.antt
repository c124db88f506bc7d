-- Files that are imported one after the other, and one more file.
use Rattle.std.proofs.Common.{◌≡◌, ◌∙◌, ◌++◌, ◌+◌, ◌<◌, ◌≤◌, ℕ, List, [], ◌∷◌, Bool, true, false, Option, Result, Ok, Err, append_assoc}
use Rattle.std.proofs.Common.{append-nil, rules, length, map, take, drop, get_or, min, refl, sym, ap, subst, inl, inr, arith, length-append}
use Rattle.std.proofs.lemmas.List.{drop_more, get_or-map, length-map, map-append, take-append-drop, take-append-le, take_all, take_min}
use Rattle.std.proofs.lemmas.List.{take_more}
use Rattle.std.proofs.lemmas.Grind.{flat_map-append}
use Rattle.std.proofs.Math.Seq.{take-append-add}
use Rattle.std.proofs.KnownBytes.{Appends-trans}
use Rattle.std.specs.Io.KnownBytes.{Appends}
use Rattle.std.specs.Prelude.{flat_map}
use Rattle.tacho_card.specs.declared.file.Part.{Part}
use Rattle.tacho_state.specs.State.{State}
use Rattle.tacho_desk.specs.Doing.{CrashMayLeave, Doing, Done, IsDurable, Kept, LeavesAfter, Takes}
use Rattle.tacho_desk.specs.Told.{Answer}
use Rattle.tacho_sheet.specs.declared.fault.Fault.{Fault}
use Rattle.tacho_cli.specs.Command.{IsWrittenOut}
use Rattle.tacho_cli.specs.Files.{AreBegun, AreBegunFirst, AreToldOut, FileAnswer, ImportsFile, ImportsFileKept, ImportsFiles, ImportsRead}
use Rattle.tacho_cli.specs.Files.{InTurn, earlier_lines, ends, file_answer_line, import_status, tally_line}
use Rattle.tacho_cli.specs.Tally.{AnswersFile, IsTally}
use Rattle.tacho_cli.specs.declared.tally.Tally.{Tally}

-- ---- the names

-- each of these files was begun, and none ended the import: further ones may be begun
abbrev pub GoOn : List (List ℕ) → List FileAnswer → Type 0
GoOn names files = (rest : List (List ℕ)) (more : List FileAnswer) → AreBegun rest more → AreBegun (names ++ rest) (files ++ more)

at_place : {X : Type 0} (xs : List X) (i : ℕ) (d : X) → i < length xs → take i xs ++ get_or xs i d ∷ drop (i + 1) xs ≡ xs
at_place xs i d h = ap (λ (l : List _). take i xs ++ l) (sym (drop_more xs i d h)) ∙ take-append-drop i xs

-- the file at a place of the list
module _ (names : List (List ℕ)) (i : ℕ) (files : List FileAnswer) (answer : Answer) (h : i < length names)
    (go : GoOn (take i names) files) where
  abbrev this : FileAnswer
  this = record { name = get_or names i []; answer = answer }

  pub goes_on : ends answer ≡ false → GoOn (take (i + 1) names) (files ++ this ∷ [])
  goes_on on rest more begun =
      simp (take_more names i [] h, append_assoc) (go (this.name ∷ rest) (this ∷ more) (refl, rw on begun))

  pub ends_all : ends answer ≡ true → AreBegun names (files ++ this ∷ [])
  ends_all end =
      rw (at_place names i [] h) at (go (this.name ∷ drop (i + 1) names) (this ∷ []) (refl, rw end refl))

  pub begun_first : AreBegunFirst names (files ++ this ∷ [])
  begun_first = (
    take i names ++ this.name ∷ [],
    drop (i + 1) names,
    sym (append_assoc (take i names) (this.name ∷ []) (drop (i + 1) names) ∙ at_place names i [] h),
    go (this.name ∷ []) (this ∷ []) (refl, search rules),
  )

pub all_begun : (names : List (List ℕ)) (i : ℕ) (files : List FileAnswer) → length names ≤ i → GoOn (take i names) files → AreBegun names files
all_begun names i files h go = simp (take_all i names h, append-nil) at (go [] [] refl)

-- a name at a place
pub named_at : {B : Type 0} (g : B → List ℕ) (names : List B) (i : ℕ) (one : B) → i < length names → one ≡ get_or names i one
    → (i < length (map g names)) × (g one ≡ get_or (map g names) i [])
named_at g names i one h is = (rw length-map h, ap g is ∙ sym (get_or-map g names i one [] h))

-- ---- the texts

-- after a front, a beginning of the text that follows is appended
pub begun : (old mid new : Option (List ℕ)) (front text rest : List ℕ) (n : ℕ) → Appends old mid front → Appends mid new (take n text)
    → (m : ℕ) × (length front ≤ m) × Appends old new (take m (front ++ (text ++ rest)))
begun old mid new front text rest n before now =
    let m = min n (length text) in
    let le : m ≤ length text = omega arith in
    let same : front ++ take n text ≡ take (length front + m) (front ++ (text ++ rest)) =
    ap (λ (l : List ℕ). front ++ l) (sym (take_min n text) ∙ sym (take-append-le m text rest le))
    ∙ sym (take-append-add front (text ++ rest) m) in
    (length front + m, omega arith, subst (Appends old new) same (Appends-trans old mid new front (take n text) before now))

-- likewise within what is shown of a name
pub begun_at : (old mid new : Option (List ℕ)) (f : ℕ → ℕ) (name rest : List ℕ) (i n : ℕ) → i < length name
    → Appends old mid (map f (take i name)) → Appends mid new (take n (f (get_or name i 0) ∷ []))
    → (m : ℕ) × Appends old new (take m (map f name ++ rest))
begun_at old mid new f name rest i n h before now =
    let t = begun old mid new (map f (take i name)) (f (get_or name i 0) ∷ []) (map f (drop (i + 1) name) ++ rest) n before now in
    let whole : map f (take i name) ++ f (get_or name i 0) ∷ map f (drop (i + 1) name) ≡ map f name =
    sym (map-append f (take i name) (get_or name i 0 ∷ drop (i + 1) name)) ∙ ap (map f) (at_place name i 0 h) in
    (t.0, rw (← whole) (simp append_assoc t.2))

earlier_more : (files : List FileAnswer) (file : FileAnswer) → earlier_lines (files ++ file ∷ []) ≡ flat_map file_answer_line files
earlier_more [] file = refl
earlier_more (f ∷ []) file = refl
earlier_more (f ∷ g ∷ files) file = ap (λ (l : List ℕ). file_answer_line f ++ l) (earlier_more (g ∷ files) file)

earlier_le : (files : List FileAnswer) → length (earlier_lines files) ≤ length (flat_map file_answer_line files)
earlier_le [] = omega arith
earlier_le (f ∷ []) = omega arith
earlier_le (f ∷ g ∷ files) =
    let le = earlier_le (g ∷ files) in simp length-append (omega (arith, simp length-append at le))

module _ (files : List FileAnswer) (old mid new : Option (List ℕ)) (before : Appends old mid (flat_map file_answer_line files)) where
  -- the line of one more file
  pub told_more : (file : FileAnswer) → Appends mid new (file_answer_line file) → Appends old new (flat_map file_answer_line (files ++ file ∷ []))
  told_more file now =
      simp (flat_map-append, append-nil) (Appends-trans old mid new (flat_map file_answer_line files) (file_answer_line file) before now)

  -- it was not written whole
  pub told_short : (names : List (List ℕ)) (file : FileAnswer) → AreBegunFirst names (files ++ file ∷ [])
      → (n : ℕ) × Appends mid new (take n (file_answer_line file)) → AreToldOut names (files ++ file ∷ []) true old new 3
  told_short names file first now =
      let lines = flat_map file_answer_line files in
      let t = begun old mid new lines (file_answer_line file) (tally_line (files ++ file ∷ [])) now.0 before now.1 in
      (first, (t.0, rw (earlier_more files file) t.1, simp (flat_map-append, append-nil, append_assoc) (simp append_assoc at t.2)), refl)

  -- the line of the tally was written, or a beginning of it
  pub told_out : (names : List (List ℕ)) (failed : Bool) (status : ℕ) → AreBegun names files
      → IsWrittenOut failed mid new (record { text = tally_line files; status = import_status files }) status → AreToldOut names files failed old new status
  told_out names true status all (h, is) =
      let t = begun old mid new (flat_map file_answer_line files) (tally_line files) [] h.0 before h.1 in
      let le = earlier_le files in
      ((names, [], sym (append-nil names), all), (t.0, omega (arith, t.1), simp append-nil at t.2), is)
  told_out names false status all (h, is) =
      (all, Appends-trans old mid new (flat_map file_answer_line files) (tally_line files) before h, is)

-- the files so far, and the lines that were written for them
pub record AreTold (Are : List FileAnswer → Type 0) (old new : Option (List ℕ)) (tally : Tally) (files : List FileAnswer) : Type 0 where
  pub are : Are files
  pub told : Appends old new (flat_map file_answer_line files)
  pub counted : IsTally tally files

-- ---- the archive

-- what a call did, and the state after it
taken : (stands : State → Type 0) (D : Doing) (s : State) (answer : Answer) → Done stands s D answer → (t : State) × stands t × Takes D s answer t
taken stands D s (Ok told) d = d
taken stands D s (Err f) d = (s, d.0, (refl, d.1))

-- likewise with the states that a crash may leave
taken_kept : (stands : State → Type 0) (leaves : List State → Type 0) (D : Doing) (s : State) (past : List State) (answer : Answer) → Done stands s D answer
    → IsDurable stands leaves D answer → CrashMayLeave leaves past D answer
    → (b : Kept) × stands b.state × leaves b.past × Takes D s answer b.state × LeavesAfter D answer b.state past b.past
taken_kept stands leaves D s past (Ok told) d k c = (record { state = k.0; past = k.0 ∷ [] }, k.1, k.3, k.2, refl)
taken_kept stands leaves D s past (Err f) d k (inl l) = (record { state = s; past = past }, d.0, l, (refl, d.1), inl refl)
taken_kept stands leaves D s past (Err f) d k (inr a) =
    (record { state = s; past = a.1.1 ∷ past }, d.0, a.1.3, (refl, d.1), inr (a.0, (a.1.0, a.1.1, a.1.2, refl)))

-- one more step
in_turn_more : {C S : Type 0} (step : C → S → S → Type 0) (cs : List C) (c : C) (s m t : S) → InTurn step cs s m → step c m t → InTurn step (cs ++ c ∷ []) s t
in_turn_more step [] c s m t r w = (t, subst (λ x. step c x t) r w, refl)
in_turn_more step (c' ∷ cs) c s m t r w = (r.0, r.1, in_turn_more step cs c r.0 m t r.2 w)

-- files with a property were imported
pub record Imported {K : Type 0} (Gives : List ℕ → Result (List ℕ) Fault → Type 0) (stands : K → State → Type 0) (is_clean : K → Type 0) (leaves : K → List State → Type 0) (old new : K) (p : Part)
    (Are : List FileAnswer → Type 0) : Type 0 where
  pub files : List FileAnswer
  pub are : Are files
  pub clean : is_clean new → is_clean old
  pub run : is_clean new → (s : State) → stands old s → (t : State) × stands new t × InTurn (ImportsFile Gives p) files s t
  pub crash : is_clean new → (a : Kept) → stands old a.state → leaves old a.past
      → (b : Kept) × stands new b.state × leaves new b.past × InTurn (ImportsFileKept Gives p) files a b

module _ {K : Type 0} {Gives : List ℕ → Result (List ℕ) Fault → Type 0} {stands : K → State → Type 0} {is_clean : K → Type 0} {leaves : K → List State → Type 0} {old mid : K} {p : Part}
    {Are : List FileAnswer → Type 0} (before : Imported Gives stands is_clean leaves old mid p Are) where
  -- one more
  pub imported_more : {new : K} {is_live : K → Type 0} {is_same : K → K → Type 0} {answer : Answer} (name : List ℕ) (Next : List FileAnswer → Type 0)
      → AnswersFile Gives stands is_clean is_live leaves is_same mid new p name answer
      → ((files : List FileAnswer) → Are files → Next (files ++ record { name = name; answer = answer } ∷ []))
      → Imported Gives stands is_clean leaves old new p Next
  imported_more {new} {is_live} {is_same} {answer} name Next a next =
      let file : FileAnswer = record { name = name; answer = answer } in
      record {
        files = before.files ++ file ∷ [];
        are = next before.files before.are;
        clean = λ clean. before.clean (a.serves.clean clean);
        run = λ clean s st.
            let r = before.run (a.serves.clean clean) s st in
            let t = taken (stands new) (ImportsRead p a.read r.0) r.0 answer (a.serves.done clean r.0 r.1) in
            (t.0, t.1, in_turn_more (ImportsFile Gives p) before.files file s r.0 t.0 r.2 (record { read = a.read; given = a.given; is = a.is; took = t.2 }));
        crash = λ clean k st l.
            let r = before.crash (a.serves.clean clean) k st l in
            let t = taken_kept (stands new) (leaves new) (ImportsRead p a.read r.0.state) r.0.state r.0.past answer (a.serves.done clean r.0.state r.1)
            (a.serves.kept refl clean r.0.state r.1) (a.serves.crash clean r.0.state r.0.past r.1 r.2) in
            (t.0, t.1, t.2, in_turn_more (ImportsFileKept Gives p) before.files file k r.0 t.0 r.3 (record { read = a.read; given = a.given; is = a.is; took = t.3; kept = t.4 }));
      }

  -- likewise with another property
  pub imported_as : (Next : List FileAnswer → Type 0) → ((files : List FileAnswer) → Are files → Next files)
      → Imported Gives stands is_clean leaves old mid p Next
  imported_as Next next =
      record { files = before.files; are = next before.files before.are; clean = before.clean; run = before.run; crash = before.crash }

  -- they are all
  pub imports_files : {names : List (List ℕ)} {failed : Bool} {text_old text_new : Option (List ℕ)} {status : ℕ}
      → ((files : List FileAnswer) → Are files → AreToldOut names files failed text_old text_new status)
      → ImportsFiles Gives stands is_clean leaves old mid p names failed text_old text_new status
  imports_files told =
      record { files = before.files; told = told before.files before.are; clean = before.clean; run = before.run; crash = before.crash }

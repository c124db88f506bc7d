-- Driving spans and rests are written in order of time: before each driving span come the rests that have begun by its start
-- (`append_by_time`).
use Rattle.std.proofs.Common.{◌≡◌, ℕ, zero, suc, ◌+◌, ◌-◌, ◌<◌, ◌≤◌, inl, inr, List, [], ◌∷◌, ◌++◌, map, refl, sym, ap, ◌∙◌, arith}
use Rattle.std.proofs.Common.{get_or, length, take, drop, append_assoc, append-nil}
use Rattle.std.specs.List.{All, AllPairs}
use Rattle.std.specs.List.Sorted.{IsPermutation, IsNonDecreasingBy}
use Rattle.std.proofs.lemmas.Bool.{cases_lt}
use Rattle.std.proofs.lemmas.List.{get_or-take, get_or-drop, get_or_default, length-take-le, length-drop, map-append, take_more, take_all}
use Rattle.std.proofs.lemmas.List.Elements.{All-push, All-weaker}
use Rattle.std.proofs.lemmas.List.Sorted.{IsPermutation-refl, IsPermutation-sym, IsPermutation-trans, IsPermutation-cons}
use Rattle.std.proofs.lemmas.List.Sorted.{IsPermutation-append_left, IsPermutation-middle, IsPermutation-to_front, IsNonDecreasingBy-push}
use Rattle.tacho_law.specs.declared.run.Run.{Run}
use Rattle.tacho_evidence.specs.declared.driven.DrivenSpan.{DrivenSpan}
use Rattle.tacho_evidence.specs.declared.line.EvidenceLine.{EvidenceLine}
use Rattle.tacho_evidence.specs.declared.line.EvidenceLine.TheVariants.{Drive, Rest}
use Rattle.tacho_evidence.specs.Evidence.{begins, AreByTime}
use Rattle.tacho_evidence.proofs.BreakListLemmas.{is_sorted}
use Rattle.tacho_evidence.proofs.TotalsLemmas.{no_span}

-- these driving spans and rests, in order of time; none begins after minute m
pub record Merged (drives : List DrivenSpan) (rests : List Run) (m : ℕ) (lines : List EvidenceLine) : Type 0 where
  pub same : IsPermutation (map Drive drives ++ map Rest rests) lines
  pub up : IsNonDecreasingBy begins lines
  pub low : All (λ x. begins x ≤ m) lines

-- none
pub merged_none : (m : ℕ) → Merged [] [] m []
merged_none m = record {
  same = IsPermutation-refl [];
  up = λ i j d le within. absurd (omega arith);
  low = λ k d within. absurd (omega arith);
}

-- a line that begins at m or later keeps the order
up_push : (lines : List EvidenceLine) (m : ℕ) (x : EvidenceLine) → IsNonDecreasingBy begins lines → All (λ y. begins y ≤ m) lines
    → m ≤ begins x → IsNonDecreasingBy begins (lines ++ x ∷ [])
up_push lines m x up low le =
    IsNonDecreasingBy-push begins lines x up
    (λ d some. let b : begins (get_or lines (length lines - 1) d) ≤ m = low (length lines - 1) d (omega arith) in omega arith)

low_push : (lines : List EvidenceLine) (m n : ℕ) (x : EvidenceLine) → All (λ y. begins y ≤ m) lines → m ≤ n → begins x ≤ n
    → All (λ y. begins y ≤ n) (lines ++ x ∷ [])
low_push lines m n x low le here =
    All-push (λ (y : EvidenceLine). begins y ≤ n) lines x
    (All-weaker (λ (y : EvidenceLine). begins y ≤ m) (λ (y : EvidenceLine). begins y ≤ n) (λ y h. omega arith) lines low) here

-- one more driving span
pub merged_drive : (drives : List DrivenSpan) (rests : List Run) (m : ℕ) (lines : List EvidenceLine) (d : DrivenSpan)
    → Merged drives rests m lines → m ≤ d.run.start → Merged (drives ++ d ∷ []) rests d.run.start (lines ++ Drive d ∷ [])
merged_drive drives rests m lines d r le =
    let ds : List EvidenceLine = map Drive drives in
    let rs : List EvidenceLine = map Rest rests in
    let e : map Drive (drives ++ d ∷ []) ++ rs ≡ ds ++ Drive d ∷ rs =
    ap (λ (xs : List EvidenceLine). xs ++ rs) (map-append Drive drives (d ∷ [])) ∙ simp append_assoc in
    record {
      same = rw e (IsPermutation-trans (ds ++ Drive d ∷ rs) (Drive d ∷ (ds ++ rs)) (lines ++ Drive d ∷ [])
          (IsPermutation-middle ds (Drive d) rs)
          (IsPermutation-trans (Drive d ∷ (ds ++ rs)) (Drive d ∷ lines) (lines ++ Drive d ∷ [])
          (IsPermutation-cons (Drive d) (ds ++ rs) lines r.same)
          (IsPermutation-sym (lines ++ Drive d ∷ []) (Drive d ∷ lines) (IsPermutation-to_front lines (Drive d)))));
      up = up_push lines m (Drive d) r.up r.low le;
      low = low_push lines m d.run.start (Drive d) r.low le (omega arith);
    }

-- one more rest
merged_rest : (drives : List DrivenSpan) (rests : List Run) (m : ℕ) (lines : List EvidenceLine) (run : Run)
    → Merged drives rests m lines → m ≤ run.start → Merged drives (rests ++ run ∷ []) run.start (lines ++ Rest run ∷ [])
merged_rest drives rests m lines run r le =
    let ds : List EvidenceLine = map Drive drives in
    let rs : List EvidenceLine = map Rest rests in
    let e : ds ++ map Rest (rests ++ run ∷ []) ≡ (ds ++ rs) ++ Rest run ∷ [] =
    ap (λ (xs : List EvidenceLine). ds ++ xs) (map-append Rest rests (run ∷ [])) ∙ sym (append_assoc ds rs (Rest run ∷ [])) in
    record {
      same = rw e (IsPermutation-append_left (Rest run ∷ []) (ds ++ rs) lines r.same);
      up = up_push lines m (Rest run) r.up r.low le;
      low = low_push lines m run.start (Rest run) r.low le (omega arith);
    }

-- a later minute
pub merged_later : (drives : List DrivenSpan) (rests : List Run) (m n : ℕ) (lines : List EvidenceLine) → Merged drives rests m lines → m ≤ n
    → Merged drives rests n lines
merged_later drives rests m n lines r le = record {
  same = r.same;
  up = r.up;
  low = All-weaker (λ (y : EvidenceLine). begins y ≤ m) (λ (y : EvidenceLine). begins y ≤ n) (λ y h. omega arith) lines r.low;
}

-- more rests
pub merged_rests : (drives : List DrivenSpan) (rests : List Run) (m n : ℕ) (lines : List EvidenceLine) (more : List Run)
    → Merged drives rests m lines → m ≤ n → ((i j : ℕ) (d : Run) → i ≤ j → j < length more → (get_or more i d).start ≤ (get_or more j d).start)
    → All (λ run. m ≤ run.start) more → All (λ run. run.start ≤ n) more
    → Merged drives (rests ++ more) n (lines ++ map Rest more)
merged_rests drives rests m n lines [] r le rise later early =
    rw (append-nil rests, append-nil lines) (merged_later drives rests m n lines r le)
merged_rests drives rests m n lines (run ∷ more) r le rise later early =
    let here : m ≤ run.start = later 0 run (omega arith) in
    let by : run.start ≤ n = early 0 run (omega arith) in
    let next : Merged drives (rests ++ run ∷ []) run.start (lines ++ Rest run ∷ []) = merged_rest drives rests m lines run r here in
    let all : Merged drives ((rests ++ run ∷ []) ++ more) n ((lines ++ Rest run ∷ []) ++ map Rest more) =
    merged_rests drives (rests ++ run ∷ []) run.start n (lines ++ Rest run ∷ []) more next by
    (λ i j d a b. rise (suc i) (suc j) d (omega arith) (omega arith))
    (λ k d within. rise 0 (suc k) d (omega arith) (omega arith))
    (λ k d within. early (suc k) d (omega arith)) in
    let e : (rests ++ run ∷ []) ++ more ≡ rests ++ run ∷ more = append_assoc rests (run ∷ []) more in
    let f : (lines ++ Rest run ∷ []) ++ map Rest more ≡ lines ++ Rest run ∷ map Rest more = append_assoc lines (Rest run ∷ []) (map Rest more) in
    rw e at (rw f at all)

-- ---- the loop

-- the first i driving spans and the first j rests are written
pub record Merging (before : List EvidenceLine) (drives : List DrivenSpan) (rests : List Run) (i j : ℕ) (lines : List EvidenceLine) : Type 0 where
  pub middle : List EvidenceLine
  pub lines_are : lines ≡ before ++ middle
  pub m : ℕ
  pub merged : Merged (take i drives) (take j rests) m middle
  pub within : j ≤ length rests
  pub drives_after : (k : ℕ) (d : DrivenSpan) → i ≤ k → k < length drives → m ≤ (get_or drives k d).run.start
  pub rests_after : (k : ℕ) (d : Run) → j ≤ k → k < length rests → m ≤ (get_or rests k d).start
  pub rests_by : (k : ℕ) (d : Run) → k < j → (get_or rests k d).start ≤ m

-- at first
pub merging_none : (before : List EvidenceLine) (drives : List DrivenSpan) (rests : List Run) → Merging before drives rests 0 0 before
merging_none before drives rests = record {
  middle = [];
  lines_are = sym (append-nil before);
  m = 0;
  merged = merged_none 0;
  within = omega arith;
  drives_after = λ k d a b. omega arith;
  rests_after = λ k d a b. omega arith;
  rests_by = λ k d a. absurd (omega arith);
}

-- an empty list has no first things
take_nil : {X : Type 0} (k : ℕ) → take {A = X} k [] ≡ []
take_nil zero = refl
take_nil (suc k) = refl

-- the first n of a list, in two parts
take_both : {X : Type 0} (j k n : ℕ) (xs : List X) → j + k ≡ n → take n xs ≡ take j xs ++ take k (drop j xs)
take_both {X} zero k n xs e = let f : n ≡ k = omega arith in ap (λ (x : ℕ). take x xs) f
take_both (suc j) k zero xs e = absurd (omega arith)
take_both (suc j) k (suc n) [] e = sym (take_nil k)
take_both {X} (suc j) k (suc n) (x ∷ xs) e = ap (λ (ys : List X). x ∷ ys) (take_both j k n xs (omega arith))

take_parts : {X : Type 0} (j n : ℕ) (xs : List X) → j ≤ n → take n xs ≡ take j xs ++ take (n - j) (drop j xs)
take_parts j n xs le = take_both j (n - j) n xs (omega arith)

-- a driving span of the list, by its place
pub item_is : (drives : List DrivenSpan) (i : ℕ) → i < length drives
    → get_or drives i no_span ≡ get_or drives i (get_or drives i no_span)
item_is drives i within = get_or_default drives i no_span (get_or drives i no_span) within

module _ (before : List EvidenceLine) (drives : List DrivenSpan) (rests : List Run) (i j : ℕ) (lines : List EvidenceLine)
    (r : Merging before drives rests i j lines)
    (rise : (a b : ℕ) (d : Run) → a ≤ b → b < length rests → (get_or rests a d).start ≤ (get_or rests b d).start) where
  -- the next rests, up to the n-th, by a minute
  more_rests : (n u : ℕ) → j ≤ n → n ≤ length rests → r.m ≤ u → ((k : ℕ) (d : Run) → k < n → (get_or rests k d).start ≤ u)
      → Merged (take i drives) (take n rests) u (r.middle ++ map Rest (take (n - j) (drop j rests)))
  more_rests n u le within' up by =
      let l : length (drop j rests) ≡ length rests - j = length-drop j rests in
      let s : length (take (n - j) (drop j rests)) ≡ n - j = length-take-le (n - j) (drop j rests) (omega arith) in
      let at : (k : ℕ) (d : Run) → k < n - j → get_or (take (n - j) (drop j rests)) k d ≡ get_or rests (j + k) d = λ k d lt.
      get_or-take (n - j) (drop j rests) k d lt ∙ get_or-drop j rests k d in
      rw (take_parts j n rests le)
      (merged_rests (take i drives) (take j rests) r.m u r.middle (take (n - j) (drop j rests)) r.merged up
      (λ a b d x y. rw (at a d (omega arith), at b d (omega arith)) (rise (j + a) (j + b) d (omega arith) (omega arith)))
      (λ k d lt. rw (at k d (omega arith)) (r.rests_after (j + k) d (omega arith) (omega arith)))
      (λ k d lt. rw (at k d (omega arith)) (by (j + k) d (omega arith))))

  -- the rests that have begun by a driving span's start are at least those before
  pub no_fewer : (n : ℕ) (d : DrivenSpan) → i < length drives → d ≡ get_or drives i d → n ≤ length rests
      → All (λ run. d.run.start < run.start) (drop n rests) → j ≤ n
  no_fewer n d here is within' late = elim (cases_lt n j) [
    | inr le ↦ le
    | inl lt ↦
        let w : j ≤ length rests = r.within in
        let l : length (drop n rests) ≡ length rests - n = length-drop n rests in
        let none : Run = record { start = 0; past = 0 } in
        let a : d.run.start < (get_or (drop n rests) 0 none).start = late 0 none (omega arith) in
        let e : get_or (drop n rests) 0 none ≡ get_or rests n none = get_or-drop n rests 0 none ∙ ap (λ (x : ℕ). get_or rests x none) (omega arith) in
        let a' : d.run.start < (get_or rests n none).start = rw e at a in
        let b : (get_or rests n none).start ≤ r.m = r.rests_by n none lt in
        let g : r.m ≤ (get_or drives i d).run.start = r.drives_after i d (omega arith) here in
        let g' : r.m ≤ d.run.start = rw (← is) at g in
        absurd (omega arith)
  ]

  -- the step for a driving span
  pub merging_more : (n : ℕ) (d : DrivenSpan) (more : List EvidenceLine) → AllPairs (λ (a b : DrivenSpan). a.run.start ≤ b.run.start) drives
      → i < length drives → d ≡ get_or drives i d → n ≤ length rests → All (λ run. run.start ≤ d.run.start) (take n rests)
      → All (λ run. d.run.start < run.start) (drop n rests)
      → more ≡ (lines ++ map Rest (take (n - j) (drop j rests))) ++ Drive d ∷ [] → Merging before drives rests (i + 1) n more
  merging_more n d more order here is within' begun late are =
      let le : j ≤ n = no_fewer n d here is within' late in
      let g : r.m ≤ (get_or drives i d).run.start = r.drives_after i d (omega arith) here in
      let g' : r.m ≤ d.run.start = rw (← is) at g in
      let s : length (take n rests) ≡ n = length-take-le n rests within' in
      let l : length (drop n rests) ≡ length rests - n = length-drop n rests in
      let by : (k : ℕ) (e : Run) → k < n → (get_or rests k e).start ≤ d.run.start = λ k e lt.
      rw (← get_or-take n rests k e lt) (begun k e (omega arith)) in
      let rested : Merged (take i drives) (take n rests) d.run.start (r.middle ++ map Rest (take (n - j) (drop j rests))) =
      more_rests n d.run.start le within' g' by in
      let t : take (i + 1) drives ≡ take i drives ++ d ∷ [] =
      take_more drives i d here ∙ ap (λ (x : DrivenSpan). take i drives ++ x ∷ []) (sym is) in
      record {
        middle = (r.middle ++ map Rest (take (n - j) (drop j rests))) ++ Drive d ∷ [];
        lines_are = are ∙ (ap (λ (xs : List EvidenceLine). (xs ++ map Rest (take (n - j) (drop j rests))) ++ Drive d ∷ []) r.lines_are
            ∙ simp append_assoc);
        m = d.run.start;
        merged = rw t (merged_drive (take i drives) (take n rests) d.run.start (r.middle ++ map Rest (take (n - j) (drop j rests))) d rested (omega arith));
        within = within';
        drives_after = λ k e a b.
            let o : (get_or drives i e).run.start ≤ (get_or drives k e).run.start = order i k e (omega arith) b in
            let f : get_or drives i e ≡ d = get_or_default drives i e d here ∙ sym is in
            let o' : d.run.start ≤ (get_or drives k e).run.start = rw f at o in
            o';
        rests_after = λ k e a b.
            let x : d.run.start < (get_or (drop n rests) (k - n) e).start = late (k - n) e (omega arith) in
            let f : get_or (drop n rests) (k - n) e ≡ get_or rests k e = get_or-drop n rests (k - n) e ∙ ap (λ (y : ℕ). get_or rests y e) (omega arith) in
            let x' : d.run.start < (get_or rests k e).start = rw f at x in
            omega arith;
        rests_by = by;
      }

  -- all rests begin by some minute
  last_rest : (u : ℕ) × (r.m ≤ u) × ((k : ℕ) (d : Run) → k < length rests → (get_or rests k d).start ≤ u)
  last_rest =
      let none : Run = record { start = 0; past = 0 } in
      let last : ℕ = (get_or rests (length rests - 1) none).start in (
        r.m + last,
        omega arith,
        λ k d lt.
            let x : (get_or rests k d).start ≤ (get_or rests (length rests - 1) d).start = rise k (length rests - 1) d (omega arith) (omega arith) in
            let e : get_or rests (length rests - 1) d ≡ get_or rests (length rests - 1) none =
            get_or_default rests (length rests - 1) d none (omega arith) in
            let x' : (get_or rests k d).start ≤ last = rw e at x in
            omega arith,
      )

  -- after the last driving span come the other rests
  pub merging_end : (n : ℕ) (more : List EvidenceLine) → length drives ≤ i → n ≡ length rests
      → more ≡ lines ++ map Rest (take (n - j) (drop j rests))
      → (middle : List EvidenceLine) × AreByTime drives rests middle × (more ≡ before ++ middle)
  merging_end n more end all are =
      let (u, up, by) = last_rest in
      let w : j ≤ length rests = r.within in
      let x = more_rests n u (omega arith) (omega arith) up (λ k d lt. by k d (omega arith)) in
      let e : take i drives ≡ drives = take_all i drives end in
      let f : take n rests ≡ rests = take_all n rests (omega arith) in
      let x' : Merged drives rests u (r.middle ++ map Rest (take (n - j) (drop j rests))) = rw e at (rw f at x) in (
        r.middle ++ map Rest (take (n - j) (drop j rests)),
        record { all = x'.same; sorted = is_sorted begins (r.middle ++ map Rest (take (n - j) (drop j rests))) x'.up },
        are ∙ (ap (λ (xs : List EvidenceLine). xs ++ map Rest (take (n - j) (drop j rests))) r.lines_are
            ∙ append_assoc before r.middle (map Rest (take (n - j) (drop j rests)))),
      )

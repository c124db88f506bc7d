-- Rest runs are found by going over spans in order, and there is one list of them (`laws::one_list_of_rest_runs`).
use Rattle.std.proofs.Common.{◌≡◌, ◌≢◌, ℕ, ◌+◌, ◌-◌, ◌<◌, ◌≤◌, inl, inr, List, [], ◌∷◌}
use Rattle.std.proofs.Common.{◌++◌, refl, sym, ap, subst, ◌∙◌, arith}
use Rattle.std.specs.List.{All, AllPairs, Contains}
use Rattle.std.proofs.lemmas.Bool.{cases_lt}
use Rattle.std.proofs.lemmas.Bool.Decides.{nat_tests}
use Rattle.std.proofs.lemmas.List.Elements.{All-push, All-nil, All-contains}
use Rattle.std.proofs.lemmas.List.Elements.{Contains-push, Contains-append_left, All-weaker}
use Rattle.std.proofs.lemmas.List.Quantifiers.{all_pairs_push}
use Rattle.tacho_time.specs.declared.span.Activity.{Activity}
use Rattle.tacho_time.specs.declared.span.Activity.TheVariants.{Rest}
use Rattle.tacho_time.specs.declared.span.Span.{Span}
use Rattle.tacho_law.specs.declared.run.Run.{Run}
use Rattle.tacho_law.specs.declared.run.TheConstants.{FAR}
use Rattle.tacho_law.specs.Line.{Line, line_of, Joined}
use Rattle.tacho_law.specs.Runs.{IsRestRun, AreRestRuns, AreRuns, Before}
use Rattle.tacho_law.specs.SoFar.{Reached}
use Rattle.tacho_law.proofs.ExactlyLemmas.{at_index, one_exactly}

-- where the next span starts, or the line's end
abbrev pub place_of : List Span → ℕ → ℕ
place_of [] past = past
place_of (s ∷ spans) past = s.start

-- a run with this start and this end
abbrev pub run_of : ℕ → ℕ → Run
run_of start past = record { start = start; past = past }

-- a run is determined by its start and its end
same_run : (r : Run) (start past : ℕ) → r.start ≡ start → r.past ≡ past → r ≡ run_of start past
same_run r start past e f =
    let one : ℕ → Run = λ x. record { start = x; past = r.past } in
    let two : ℕ → Run = λ x. record { start = start; past = x } in
    ap one e ∙ ap two f

-- at rest up to p, and no run has ended
pub reached_none : (line : ℕ → Activity) (p : ℕ) → ((m : ℕ) → m < p → line m ≡ Rest) → Reached line [] 0 p
reached_none line p h = record {
  each = All-nil (λ run. IsRestRun line run);
  all = λ run is below. absurd (omega arith);
  in_order = λ i j d below within. absurd (omega arith);
  ended = λ k d within. absurd (omega arith);
  resting = λ m above below. h m below;
  from = inl refl;
  below = omega arith;
}

-- more rest: the current run continues
pub reached_rest : (line : ℕ → Activity) (runs : List Run) (start p q : ℕ) → Reached line runs start p
    → p < q → ((m : ℕ) → p ≤ m → m < q → line m ≡ Rest) → Reached line runs start q
reached_rest line runs start p q r more at = record {
  each = r.each;
  all = r.all;
  in_order = r.in_order;
  ended = r.ended;
  resting = λ m above below.
      elim (cases_lt m p) [ inl before ↦ r.resting m above before | inr after ↦ at m after below ];
  from = r.from;
  below = let b : start ≤ p = r.below in omega arith;
}

-- a run that starts at `start` or later, while the line is at rest, starts at `start`
starts : (line : ℕ → Activity) (start p : ℕ) (run : Run) → ((m : ℕ) → start ≤ m → m < p → line m ≡ Rest)
    → IsRestRun line run → start ≤ run.start → run.start < p → run.start ≡ start
starts line start p run resting is above below = elim (cases_lt start run.start) [
  | inl late ↦ elim is.from [
    | inl zero ↦ omega arith
    | inr busy ↦ absurd (busy (run.start - 1) (omega arith) (resting (run.start - 1) (omega arith) (omega arith)))
  ]
  | inr same ↦ omega arith
]

-- a run that starts at start, before p, ends at p, which is not at rest
ends : (line : ℕ → Activity) (start p : ℕ) (run : Run) → ((m : ℕ) → start ≤ m → m < p → line m ≡ Rest)
    → IsRestRun line run → run.start ≡ start → start < p → p < FAR → line p ≢ Rest → run.past ≡ p
ends line start p run resting is same below far busy =
    let some : run.start < run.past = is.some in
    elim (cases_lt run.past p) [
      | inl early ↦ elim is.until [
        | inl last ↦ absurd (omega arith)
        | inr stops ↦ absurd (stops (resting run.past (omega arith) early))
      ]
      | inr late ↦ elim (cases_lt p run.past) [
        | inl over ↦ absurd (busy (is.rest p (omega arith) over))
        | inr exact ↦ omega arith
      ]
    ]

-- a minute without rest, where there was no rest before
pub reached_busy : (line : ℕ → Activity) (runs : List Run) (start p q : ℕ) → Reached line runs start p
    → start ≡ p → p < q → ((m : ℕ) → p ≤ m → m < q → line m ≢ Rest) → Reached line runs q q
reached_busy line runs start p q r none more at = record {
  each = r.each;
  all = λ run is below. elim (cases_lt run.start start) [
    | inl before ↦ r.all run is before
    | inr after ↦ absurd (at run.start (omega arith) below (is.rest run.start (omega arith) is.some))
  ];
  in_order = r.in_order;
  ended =
      All-weaker (λ (run : Run). run.past < start) (λ (run : Run). run.past < q) (λ run h. omega arith) runs r.ended;
  resting = λ m above below. absurd (omega arith);
  from = inr (λ m e. at m (omega arith) (omega arith));
  below = omega arith;
}

-- a minute without rest, at which a run ends
pub reached_gap : (line : ℕ → Activity) (runs : List Run) (start p q : ℕ) → Reached line runs start p → start < p
    → p < q → p < FAR → ((m : ℕ) → p ≤ m → m < q → line m ≢ Rest) → Reached line (runs ++ run_of start p ∷ []) q q
reached_gap line runs start p q r some more far at =
    let busy : line p ≢ Rest = at p (omega arith) more in
    let run : Run = run_of start p in
    let is : IsRestRun line run = record { some = some; rest = r.resting; from = r.from; until = inr busy } in
    record {
      each = All-push (λ x. IsRestRun line x) runs run r.each is;
      all = λ x is' below. elim (cases_lt x.start start) [
        | inl before ↦ Contains-append_left runs (run ∷ []) x (r.all x is' before)
        | inr after ↦ elim (cases_lt x.start p) [
          | inl within ↦
              let e : x.start ≡ start = starts line start p x r.resting is' after within in
              let f : x.past ≡ p = ends line start p x r.resting is' e some far busy in
              subst (λ (y : Run). Contains (runs ++ run ∷ []) y) (sym (same_run x start p e f)) (Contains-push runs run)
          | inr late ↦ absurd (at x.start late below (is'.rest x.start (omega arith) is'.some))
        ]
      ];
      in_order = all_pairs_push Before runs run r.in_order r.ended;
      ended =
          All-push (λ (x : Run). x.past < q) runs run
          (All-weaker (λ (x : Run). x.past < start) (λ (x : Run). x.past < q) (λ x h. omega arith) runs r.ended)
          more;
      resting = λ m above below. absurd (omega arith);
      from = inr (λ m e. at m (omega arith) (omega arith));
      below = omega arith;
    }

-- the end of the line: the last run has no end
pub reached_end : (line : ℕ → Activity) (runs : List Run) (start past : ℕ) → Reached line runs start past
    → past < FAR → ((m : ℕ) → past ≤ m → line m ≡ Rest) → AreRestRuns line (runs ++ run_of start FAR ∷ [])
reached_end line runs start past r far after =
    let run : Run = run_of start FAR in
    let below : start ≤ past = r.below in
    let resting : (m : ℕ) → start ≤ m → line m ≡ Rest = λ m above.
    elim (cases_lt m past) [ inl before ↦ r.resting m above before | inr late ↦ after m late ] in
    let is : IsRestRun line run =
    record { some = omega arith; rest = λ m above under. resting m above; from = r.from; until = inl refl } in
    let all : (x : Run) → IsRestRun line x → Contains (runs ++ run ∷ []) x = λ x is'. elim (cases_lt x.start start) [
      | inl before ↦ Contains-append_left runs (run ∷ []) x (r.all x is' before)
      | inr late ↦
          let e : x.start ≡ start =
          starts line start (x.start + 1) x (λ m above under. resting m above) is' late (omega arith) in
          let some : x.start < x.past = is'.some in
          let f : x.past ≡ FAR =
          elim is'.until [ inl last ↦ last | inr stops ↦ absurd (stops (resting x.past (omega arith))) ] in
          subst (λ (y : Run). Contains (runs ++ run ∷ []) y) (sym (same_run x start FAR e f)) (Contains-push runs run)
    ] in
    record {
      each = λ x. (
        λ h.
            All-contains (λ y. IsRestRun line y) (runs ++ run ∷ []) x
            (All-push (λ y. IsRestRun line y) runs run r.each is) h,
        all x,
      );
      in_order = all_pairs_push Before runs run r.in_order r.ended;
    }

-- what the loop keeps, with the spans `left` remaining
pub record Running (spans left : List Span) (past : ℕ) (runs : List Run) (start : ℕ) : Type 0 where
  pub reached : Reached (line_of spans) runs start (place_of left past)
  pub joined : Joined left (place_of left past) past
  pub ahead : (m : ℕ) → place_of left past ≤ m → line_of spans m ≡ line_of left m

-- before the spans the line is at rest
pub line_before : (spans : List Span) (base past m : ℕ) → Joined spans base past → m < base → line_of spans m ≡ Rest
line_before [] base past m j below = refl
line_before (s ∷ spans) base past m (e, some, rest) below =
    let before : line_of spans m ≡ Rest = line_before spans s.past past m rest (omega arith) in
    let late : m < s.start = omega arith in
    grind (arith, nat_tests)

-- the remaining spans start at this place
pub place_is : (left : List Span) (p past : ℕ) → Joined left p past → place_of left past ≡ p
place_is [] p past j = sym j
place_is (s ∷ left) p past j = j.0

-- in the first span, the line has the span's activity
pub line_within : (s : Span) (left : List Span) (m : ℕ) → s.start ≤ m
    → m < s.past → line_of (s ∷ left) m ≡ s.mark.activity
line_within s left m above below = grind (arith, nat_tests)

-- after the first span, the line is that of the other spans
pub line_past : (s : Span) (left : List Span) (m : ℕ) → s.past ≤ m → line_of (s ∷ left) m ≡ line_of left m
line_past s left m above = grind (arith, nat_tests)

-- spans that follow one another end no earlier than they start
pub joined_le : (left : List Span) (p past : ℕ) → Joined left p past → p ≤ past
joined_le [] p past j = omega arith
joined_le (s ∷ left) p past (e, some, rest) = let h : s.past ≤ past = joined_le left s.past past rest in omega arith

-- the start of the loop
pub running_none : (spans : List Span) (base past : ℕ) → Joined spans base past → Running spans spans past [] 0
running_none spans base past j =
    let e : place_of spans past ≡ base = place_is spans base past j in
    record {
      reached =
          reached_none (line_of spans) (place_of spans past) (λ m below. line_before spans base past m j (omega arith));
      joined = subst (λ (p : ℕ). Joined spans p past) (sym e) j;
      ahead = λ m above. refl;
    }

-- the step for a span, whatever its activity
module _ (spans left : List Span) (s : Span) (past : ℕ) (runs : List Run)
    (start : ℕ) (r : Running spans (s ∷ left) past runs start) where
  -- in the span, the line has the span's activity
  at : (m : ℕ) → s.start ≤ m → m < s.past → line_of spans m ≡ s.mark.activity
  at m above below = r.ahead m above ∙ line_within s left m above below

  -- the next place is the span's end
  next : place_of left past ≡ s.past
  next = place_is left s.past past r.joined.2

  -- the remaining spans follow one another
  joined : Joined left (place_of left past) past
  joined = subst (λ (p : ℕ). Joined left p past) (sym next) r.joined.2

  -- the remaining spans give the line from there on
  ahead : (m : ℕ) → place_of left past ≤ m → line_of spans m ≡ line_of left m
  ahead m above =
      let some : s.start < s.past = r.joined.1 in
      let e : place_of left past ≡ s.past = next in
      r.ahead m (omega arith) ∙ line_past s left m (omega arith)

  -- the step for a span of rest
  pub running_rest : s.mark.activity ≡ Rest → Running spans left past runs start
  running_rest e = record {
    reached =
        subst (λ (q : ℕ). Reached (line_of spans) runs start q) (sym next)
        (reached_rest (line_of spans) runs start s.start s.past r.reached
        r.joined.1 (λ m above below. at m above below ∙ e));
    joined = joined;
    ahead = ahead;
  }

  -- the minutes of a span that isn't rest aren't at rest
  busy : s.mark.activity ≢ Rest → (m : ℕ) → s.start ≤ m → m < s.past → line_of spans m ≢ Rest
  busy n m above below e = n (sym (at m above below) ∙ e)

  -- the step for a span that isn't rest, after a span that isn't rest
  pub running_busy : s.mark.activity ≢ Rest → s.start ≤ start → Running spans left past runs s.past
  running_busy n none = record {
    reached = subst (λ (q : ℕ). Reached (line_of spans) runs s.past q) (sym next)
        (reached_busy (line_of spans) runs start s.start s.past r.reached
        (let b : start ≤ s.start = r.reached.below in omega arith) r.joined.1 (busy n));
    joined = joined;
    ahead = ahead;
  }

  -- the step for a span that isn't rest, after rest
  pub running_gap : s.mark.activity ≢ Rest → start < s.start → past < FAR
      → Running spans left past (runs ++ run_of start s.start ∷ []) s.past
  running_gap n some far = record {
    reached = subst (λ (q : ℕ). Reached (line_of spans) (runs ++ run_of start s.start ∷ []) s.past q) (sym next)
        (reached_gap (line_of spans) runs start s.start s.past r.reached some r.joined.1
        (
        let b : s.past ≤ past = joined_le left s.past past r.joined.2 in
        let c : s.start < s.past = r.joined.1 in
        omega arith)
        (busy n));
    joined = joined;
    ahead = ahead;
  }

-- after the last span
pub running_end : (spans : List Span) (past : ℕ) (runs : List Run) (start : ℕ)
    → Running spans [] past runs start → past < FAR → AreRestRuns (line_of spans) (runs ++ run_of start FAR ∷ [])
running_end spans past runs start r far = reached_end (line_of spans) runs start past r.reached far r.ahead

-- runs that aren't empty can't be before each other
pub one_way : (a b : Run) → a.start < a.past → b.start < b.past → Before a b → Before b a → ⊥
one_way a b some some' before after = omega arith

-- ordered runs are determined by their members
pub same_runs : (xs ys : List Run) → All (λ (run : Run). run.start < run.past) xs
    → All (λ (run : Run). run.start < run.past) ys → AllPairs Before xs → AllPairs Before ys
    → ((run : Run) → Contains xs run → Contains ys run) → ((run : Run) → Contains ys run → Contains xs run) → xs ≡ ys
same_runs xs ys some some' order order' f g =
    one_exactly (λ run. Contains xs run) Before
    (λ a b p q.
    one_way a b (All-contains (λ (run : Run). run.start < run.past) xs a some p)
    (All-contains (λ (run : Run). run.start < run.past) xs b some q))
    xs ys (record { each = λ run. (λ h. h, λ h. h); in_order = order })
    (record { each = λ run. (g run, f run); in_order = order' })

-- a line has one list of rest runs
pub one_rest_runs : (line : Line) (runs others : List Run)
    → AreRestRuns line runs → AreRestRuns line others → runs ≡ others
one_rest_runs line = one_exactly (IsRestRun line) Before (λ a b p q. one_way a b p.some q.some)

-- rest runs are runs in order, none empty
pub rest_runs_are : (line : Line) (runs : List Run) → AreRestRuns line runs → AreRuns runs
rest_runs_are line runs are =
    record { some = λ k d within. (at_index (IsRestRun line) Before runs are k d within).some; in_order = are.in_order }

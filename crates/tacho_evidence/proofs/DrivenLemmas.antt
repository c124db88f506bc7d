-- Driving spans are found by going over spans in order (`driving_spans`).
use Rattle.std.proofs.Common.{◌≡◌, ◌≢◌, ℕ, zero, suc, ◌+◌, ◌-◌, ◌<◌, ◌≤◌, ◌⊎◌, inl, inr, List, [], ◌∷◌}
use Rattle.std.proofs.Common.{◌++◌, length, take, drop, get_or, refl, sym, ap, subst, ◌∙◌, arith, min, max}
use Rattle.std.specs.List.{All, AllPairs, Contains}
use Rattle.std.proofs.lemmas.Bool.{cases_lt}
use Rattle.std.proofs.lemmas.List.{drop_more, take_all, length-drop}
use Rattle.std.proofs.lemmas.List.Elements.{All-push, All-nil, All-contains}
use Rattle.std.proofs.lemmas.List.Elements.{Contains-push, Contains-append_left, All-weaker}
use Rattle.std.proofs.lemmas.List.Quantifiers.{all_pairs_push}
use Rattle.tacho_time.specs.declared.span.Activity.{Activity}
use Rattle.tacho_time.specs.declared.span.Activity.TheVariants.{Rest, Drive}
use Rattle.tacho_time.specs.declared.span.Span.{Span}
use Rattle.tacho_law.specs.declared.run.Run.{Run}
use Rattle.tacho_law.specs.Line.{Line, line_of, Joined}
use Rattle.tacho_law.specs.Runs.{Before, minutes_of}
use Rattle.tacho_law.proofs.RunsLemmas.{place_of, place_is, run_of, line_within, line_past, line_before, joined_le}
use Rattle.tacho_evidence.specs.declared.driven.DrivenSpan.{DrivenSpan}
use Rattle.tacho_evidence.specs.Driven.{IsDrivingSpan, AreDrivingSpans, with_totals, AreDriven, total_of}
use Rattle.tacho_evidence.proofs.TotalsLemmas.{span_of, total_of_push, with_totals_push}

-- a run is determined by its start and its end
same_run : (r : Run) (start past : ℕ) → r.start ≡ start → r.past ≡ past → run_of start past ≡ r
same_run r start past e f =
    let one : ℕ → Run = λ x. record { start = x; past = r.past } in
    let two : ℕ → Run = λ x. record { start = start; past = x } in
    sym (ap one e ∙ ap two f)

-- what is known of a range up to minute p: the driving spans that end before `start`, and that the line drives from `start` to p
pub record Reached (line : Line) (from to : ℕ) (runs : List Run) (start p : ℕ) : Type 0 where
  pub each : All (λ run. IsDrivingSpan line from to run) runs
  pub all : (run : Run) → IsDrivingSpan line from to run → run.start < start → Contains runs run
  pub in_order : AllPairs Before runs
  pub ended : All (λ run. run.past < start) runs
  pub drives : (m : ℕ) → start ≤ m → m < p → line m ≡ Drive
  pub first : (start ≡ from) ⊎ ((m : ℕ) → m + 1 ≡ start → line m ≢ Drive)
  pub above : from ≤ start
  pub below : start ≤ p

-- likewise where no driving span is open
pub record Closed (line : Line) (from to : ℕ) (runs : List Run) (stop : ℕ) : Type 0 where
  pub each : All (λ run. IsDrivingSpan line from to run) runs
  pub all : (run : Run) → IsDrivingSpan line from to run → run.start < stop → Contains runs run
  pub in_order : AllPairs Before runs
  pub ended : All (λ run. run.past ≤ stop) runs
  pub above : from ≤ stop

-- before the range
pub reached_none : (line : Line) (from to start : ℕ) → from ≤ start → ((m : ℕ) → m < start → from ≤ m → line m ≢ Drive)
    → Reached line from to [] start start
reached_none line from to start above none = record {
  each = All-nil (λ run. IsDrivingSpan line from to run);
  all = λ run is below. absurd (none run.start below is.above (is.drives run.start (omega arith) is.some));
  in_order = λ i j d below within. absurd (omega arith);
  ended = λ k d within. absurd (omega arith);
  drives = λ m above below. absurd (omega arith);
  first = elim (cases_lt from start) [
    | inl lt ↦ inr (λ m e. none m (omega arith) (omega arith))
    | inr ge ↦ inl (omega arith)
  ];
  above = above;
  below = omega arith;
}

-- more driving: the open span continues
pub reached_drive : (line : Line) (from to : ℕ) (runs : List Run) (start p q : ℕ) → Reached line from to runs start p
    → p ≤ q → ((m : ℕ) → p ≤ m → m < q → line m ≡ Drive) → Reached line from to runs start q
reached_drive line from to runs start p q r more at = record {
  each = r.each;
  all = r.all;
  in_order = r.in_order;
  ended = r.ended;
  drives = λ m above below.
      elim (cases_lt m p) [ inl before ↦ r.drives m above before | inr after ↦ at m after below ];
  first = r.first;
  above = r.above;
  below = let b : start ≤ p = r.below in omega arith;
}

-- no span is open
pub closed_none : (line : Line) (from to : ℕ) (runs : List Run) (start p : ℕ) → Reached line from to runs start p
    → Closed line from to runs start
closed_none line from to runs start p r = record {
  each = r.each;
  all = r.all;
  in_order = r.in_order;
  ended =
      All-weaker (λ (run : Run). run.past < start) (λ (run : Run). run.past ≤ start) (λ run h. omega arith) runs r.ended;
  above = r.above;
}

-- the open span ends
module _ (line : Line) (from to : ℕ) (runs : List Run) (start p stop : ℕ) (r : Reached line from to runs start p)
    (some : start < stop) (early : stop ≤ p) (below : stop ≤ to) (last : (stop ≡ to) ⊎ (line stop ≢ Drive)) where
  -- the span that starts at `start` and ends here
  is_span : IsDrivingSpan line from to (run_of start stop)
  is_span = record {
    some = some;
    above = r.above;
    below = below;
    drives = λ m a b. r.drives m a (omega arith);
    first = r.first;
    last = last;
  }

  -- a span that starts at `start` or later, before this end, starts at `start`
  starts : (run : Run) → IsDrivingSpan line from to run → start ≤ run.start → run.start < stop → run.start ≡ start
  starts run is late before = elim (cases_lt start run.start) [
    | inl after ↦ elim is.first [
      | inl e ↦ let a : from ≤ start = r.above in absurd (omega arith)
      | inr idle ↦
          absurd (idle (run.start - 1) (omega arith) (r.drives (run.start - 1) (omega arith) (omega arith)))
    ]
    | inr same ↦ omega arith
  ]

  -- and ends here
  ends : (run : Run) → IsDrivingSpan line from to run → start ≤ run.start → run.start < stop → run.past ≡ stop
  ends run is late before =
      let some' : run.start < run.past = is.some in
      let below' : run.past ≤ to = is.below in
      elim (cases_lt run.past stop) [
        | inl short ↦ elim is.last [
          | inl e ↦ absurd (omega arith)
          | inr idle ↦ absurd (idle (r.drives run.past (omega arith) (omega arith)))
        ]
        | inr ge ↦ elim (cases_lt stop run.past) [
          | inl long ↦ elim last [
            | inl e ↦ absurd (omega arith)
            | inr idle ↦ absurd (idle (is.drives stop (omega arith) long))
          ]
          | inr exact ↦ omega arith
        ]
      ]

  -- it is one more span
  pub closed_some : Closed line from to (runs ++ run_of start stop ∷ []) stop
  closed_some =
      let run : Run = run_of start stop in
      record {
        each = All-push (λ x. IsDrivingSpan line from to x) runs run r.each is_span;
        all = λ x is before. elim (cases_lt x.start start) [
          | inl early' ↦ Contains-append_left runs (run ∷ []) x (r.all x is early')
          | inr late ↦
              subst (λ (y : Run). Contains (runs ++ run ∷ []) y)
              (same_run x start stop (starts x is late before) (ends x is late before)) (Contains-push runs run)
        ];
        in_order = all_pairs_push Before runs run r.in_order r.ended;
        ended =
            All-push (λ (x : Run). x.past ≤ stop) runs run
            (All-weaker (λ (x : Run). x.past < start) (λ (x : Run). x.past ≤ stop) (λ x h. omega arith) runs r.ended)
            (omega arith);
        above = let a : from ≤ start = r.above in omega arith;
      }

-- minutes without driving
pub reached_idle : (line : Line) (from to : ℕ) (runs : List Run) (stop q : ℕ) → Closed line from to runs stop
    → stop < q → ((m : ℕ) → stop ≤ m → m < q → line m ≢ Drive) → Reached line from to runs q q
reached_idle line from to runs stop q c more idle = record {
  each = c.each;
  all = λ run is below. elim (cases_lt run.start stop) [
    | inl before ↦ c.all run is before
    | inr after ↦ absurd (idle run.start after below (is.drives run.start (omega arith) is.some))
  ];
  in_order = c.in_order;
  ended = All-weaker (λ (run : Run). run.past ≤ stop) (λ (run : Run). run.past < q) (λ run h. omega arith) runs c.ended;
  drives = λ m above below. absurd (omega arith);
  first = inr (λ m e. idle m (omega arith) (omega arith));
  above = let a : from ≤ stop = c.above in omega arith;
  below = omega arith;
}

-- nothing is driven from here to the end of the range
pub closed_end : (line : Line) (from to : ℕ) (runs : List Run) (stop : ℕ) → Closed line from to runs stop
    → ((m : ℕ) → stop ≤ m → m < to → line m ≢ Drive) → AreDrivingSpans line from to runs
closed_end line from to runs stop c idle = record {
  each = λ x. (
    λ h. All-contains (λ y. IsDrivingSpan line from to y) runs x c.each h,
    λ is. elim (cases_lt x.start stop) [
      | inl before ↦ c.all x is before
      | inr after ↦ absurd (
          let some : x.start < x.past = is.some in
          let below : x.past ≤ to = is.below in
          idle x.start after (omega arith) (is.drives x.start (omega arith) some))
    ],
  );
  in_order = c.in_order;
}

-- the remaining spans determine the line from their first minute on
pub record Left (spans left : List Span) (past : ℕ) : Type 0 where
  pub joined : Joined left (place_of left past) past
  pub ahead : (m : ℕ) → place_of left past ≤ m → line_of spans m ≡ line_of left m

-- before the first span, all spans remain
left_all : (spans : List Span) (base past : ℕ) → Joined spans base past → Left spans spans past
left_all spans base past j = record {
  joined = subst (λ (p : ℕ). Joined spans p past) (sym (place_is spans base past j)) j;
  ahead = λ m above. refl;
}

-- after the next span, one span fewer remains
left_next : (spans left : List Span) (s : Span) (past : ℕ) → Left spans (s ∷ left) past → Left spans left past
left_next spans left s past r =
    let e : place_of left past ≡ s.past = place_is left s.past past r.joined.2 in
    let some : s.start < s.past = r.joined.1 in
    record {
      joined = subst (λ (p : ℕ). Joined left p past) (sym e) r.joined.2;
      ahead = λ m above. r.ahead m (omega arith) ∙ line_past s left m (omega arith);
    }

-- in the first remaining span, the line has the span's activity
left_at : (spans left : List Span) (s : Span) (past : ℕ) → Left spans (s ∷ left) past
    → (m : ℕ) → s.start ≤ m → m < s.past → line_of spans m ≡ s.mark.activity
left_at spans left s past r m above below = r.ahead m above ∙ line_within s left m above below

-- spans that ended before the range are passed over
left_after : (spans left : List Span) (past from k : ℕ) → Left spans left past
    → All (λ (s : Span). s.past ≤ from) (take k left)
    → Left spans (drop k left) past × (max from (place_of (drop k left) past) ≡ max from (place_of left past))
left_after spans left past from zero r ended = (r, refl)
left_after spans [] past from (suc k) r ended = (r, refl)
left_after spans (s ∷ left) past from (suc k) r ended =
    let e : s.past ≤ from = ended 0 s (omega arith) in
    let f : place_of left past ≡ s.past = place_is left s.past past r.joined.2 in
    let some : s.start < s.past = r.joined.1 in
    let (after, same) =
    left_after spans left past from k (left_next spans left s past r) (λ i d within. ended (suc i) d (omega arith)) in
    (after, omega arith)

-- what the loop keeps, with the spans `left` remaining
pub record Driving (spans left : List Span) (past from to : ℕ) (driven : List DrivenSpan) (start : ℕ) : Type 0 where
  pub rest : Left spans left past
  pub runs : List Run
  pub totals : driven ≡ with_totals 0 runs
  pub fits : total_of 0 driven ≤ start
  pub reached : Reached (line_of spans) from to runs start (max from (place_of left past))

-- rest is not driving
not_drive : (a : Activity) → a ≡ Rest → a ≢ Drive
not_drive a e f = let h : Rest ≡ Drive = sym e ∙ f in cc

-- the start of the loop, after the spans that ended before the range
pub driving_none : (spans : List Span) (base past from to k : ℕ) → Joined spans base past
    → All (λ (s : Span). s.past ≤ from) (take k spans)
    → Driving spans (take (length spans - k) (drop k spans)) past from to [] (max from base)
driving_none spans base past from to k j ended =
    let e : length (drop k spans) ≡ length spans - k = length-drop k spans in
    let f : take (length spans - k) (drop k spans) ≡ drop k spans =
    take_all (length spans - k) (drop k spans) (omega arith) in
    let b : place_of spans past ≡ base = place_is spans base past j in
    let (rest, same) = left_after spans spans past from k (left_all spans base past j) ended in
    let p : max from (place_of (drop k spans) past) ≡ max from base = omega arith in
    rw f (record {
      rest = rest;
      runs = [];
      totals = refl;
      fits = omega arith;
      reached = rw p (reached_none (line_of spans) from to (max from base) (omega arith)
          (λ m below above. not_drive (line_of spans m) (line_before spans base past m j (omega arith))));
    })

-- in the loop at index i, with the span s
pub driving_here : (spans later : List Span) (i : ℕ) (s : Span) (past from to : ℕ) (driven : List DrivenSpan) (start : ℕ)
    → i < length later → s ≡ get_or later i s → Driving spans (drop i later) past from to driven start
    → Driving spans (s ∷ drop (i + 1) later) past from to driven start
driving_here spans later i s past from to driven start within is r =
    let e : drop i later ≡ s ∷ drop (i + 1) later =
    drop_more later i s within ∙ ap (λ (x : Span). x ∷ drop (i + 1) later) (sym is) in
    subst (λ (left : List Span). Driving spans left past from to driven start) e r

-- the spans of the loop end after the range's start
pub here_ends : (spans : List Span) (from k i : ℕ) (s : Span) → All (λ (x : Span). from < x.past) (drop k spans)
    → i < length (take (length spans - k) (drop k spans)) → s ≡ get_or (take (length spans - k) (drop k spans)) i s
    → from < s.past
here_ends spans from k i s later within is =
    let e : length (drop k spans) ≡ length spans - k = length-drop k spans in
    let f : take (length spans - k) (drop k spans) ≡ drop k spans =
    take_all (length spans - k) (drop k spans) (omega arith) in
    let within' : i < length (drop k spans) = rw f at within in
    let is' : s ≡ get_or (drop k spans) i s = rw f at is in
    rw is' (later i s within')

-- where the loop ends at a span, the remaining spans start with it
pub place_here : (later : List Span) (i : ℕ) (s : Span) (past : ℕ) → i < length later → s ≡ get_or later i s
    → place_of (drop i later) past ≡ s.start
place_here later i s past within is =
    ap (λ (left : List Span). place_of left past) (drop_more later i s within)
    ∙ ap (λ (x : Span). x.start) (sym is)

-- one more span with its total
totals_more : (driven more : List DrivenSpan) (runs : List Run) (run : Run) → driven ≡ with_totals 0 runs
    → more ≡ driven ++ span_of run (total_of 0 driven + minutes_of run) ∷ [] → more ≡ with_totals 0 (runs ++ run ∷ [])
totals_more driven more runs run e f =
    let g : with_totals 0 (runs ++ run ∷ [])
    ≡ with_totals 0 runs ++ span_of run (total_of 0 (with_totals 0 runs) + minutes_of run) ∷ [] =
    with_totals_push 0 runs run in
    cc

-- the new total
total_more : (driven more : List DrivenSpan) (run : Run)
    → more ≡ driven ++ span_of run (total_of 0 driven + minutes_of run) ∷ []
    → total_of 0 more ≡ total_of 0 driven + minutes_of run
total_more driven more run e =
    ap (total_of 0) e ∙ total_of_push 0 driven (span_of run (total_of 0 driven + minutes_of run))

-- the step for a span
module _ (spans left : List Span) (s : Span) (past from to : ℕ) (driven : List DrivenSpan)
    (start : ℕ) (r : Driving spans (s ∷ left) past from to driven start) where
  -- the next place is the span's end
  next : place_of left past ≡ s.past
  next = place_is left s.past past r.rest.joined.2

  -- the step for a driving span
  pub driving_drive : s.mark.activity ≡ Drive → Driving spans left past from to driven start
  driving_drive d =
      let some : s.start < s.past = r.rest.joined.1 in
      record {
        rest = left_next spans left s past r.rest;
        runs = r.runs;
        totals = r.totals;
        fits = r.fits;
        reached =
            rw next
            (reached_drive (line_of spans) from to r.runs start (max from s.start) (max from s.past) r.reached
            (omega arith) (λ m a b. left_at spans left s past r.rest m (omega arith) (omega arith) ∙ d));
      }

  -- the minutes of another span aren't driving
  idle : s.mark.activity ≢ Drive → (m : ℕ) → s.start ≤ m → m < s.past → line_of spans m ≢ Drive
  idle n m above below e = n (sym (left_at spans left s past r.rest m above below) ∙ e)

  -- the step for a span that isn't driving, where no driving span is open
  pub driving_idle : (more : List DrivenSpan) → s.mark.activity ≢ Drive → from < s.past → s.start ≤ start → more ≡ driven
      → Driving spans left past from to more s.past
  driving_idle more n late none e =
      let some : s.start < s.past = r.rest.joined.1 in
      let above : from ≤ start = r.reached.above in
      let below : start ≤ max from s.start = r.reached.below in
      let fits : total_of 0 driven ≤ start = r.fits in
      let same : total_of 0 more ≡ total_of 0 driven = ap (total_of 0) e in
      let q : max from (place_of left past) ≡ s.past = let f : place_of left past ≡ s.past = next in omega arith in
      record {
        rest = left_next spans left s past r.rest;
        runs = r.runs;
        totals = e ∙ r.totals;
        fits = omega arith;
        reached =
            rw q
            (reached_idle (line_of spans) from to r.runs start s.past
            (closed_none (line_of spans) from to r.runs start (max from s.start) r.reached)
            (omega arith) (λ m a b. idle n m (omega arith) b));
      }

  -- the step for a span that isn't driving, where the open span ends
  pub driving_stop : (more : List DrivenSpan) → s.mark.activity ≢ Drive → from < s.past → start < s.start → s.start < to
      → more ≡ driven ++ span_of (run_of start s.start) (total_of 0 driven + (s.start - start)) ∷ []
      → Driving spans left past from to more s.past
  driving_stop more n late open_ early e =
      let run : Run = run_of start s.start in
      let some : s.start < s.past = r.rest.joined.1 in
      let fits : total_of 0 driven ≤ start = r.fits in
      let same : total_of 0 more ≡ total_of 0 driven + minutes_of run = total_more driven more run e in
      let q : max from (place_of left past) ≡ s.past = let f : place_of left past ≡ s.past = next in omega arith in
      record {
        rest = left_next spans left s past r.rest;
        runs = r.runs ++ run ∷ [];
        totals = totals_more driven more r.runs run r.totals e;
        fits = omega arith;
        reached =
            rw q
            (reached_idle (line_of spans) from to (r.runs ++ run ∷ []) s.start s.past
            (closed_some (line_of spans) from to r.runs start (max from s.start) s.start r.reached
            open_ (omega arith) (omega arith) (inr (idle n s.start (omega arith) some)))
            some (idle n));
      }

-- what remains doesn't matter: all spans were passed, or the next one starts after the range
abbrev pub IsOver : List Span → ℕ → ℕ → Type 0
IsOver left past to = (left ≡ []) ⊎ (to ≤ place_of left past)

-- after the loop
module _ (spans left : List Span) (past from to : ℕ) (driven : List DrivenSpan)
    (start : ℕ) (r : Driving spans left past from to driven start) (over : IsOver left past to) where
  -- from there on nothing is driven
  idle_after : (m : ℕ) → min past to ≤ m → m < to → line_of spans m ≢ Drive
  idle_after m above below =
      let le : place_of left past ≤ past = joined_le left (place_of left past) past r.rest.joined in
      elim over [
        | inl none ↦
            let e : place_of left past ≡ past = ap (λ (x : List Span). place_of x past) none in
            let f : line_of left m ≡ Rest = ap (λ (x : List Span). line_of x m) none in
            not_drive (line_of spans m) (r.rest.ahead m (omega arith) ∙ f)
        | inr late ↦ absurd (omega arith)
      ]

  -- no driving span is open
  pub driving_over : (more : List DrivenSpan) → min past to ≤ start → more ≡ driven → AreDriven (line_of spans) from to more
  driving_over more none e = record {
    runs = r.runs;
    are = closed_end (line_of spans) from to r.runs start
        (closed_none (line_of spans) from to r.runs start (max from (place_of left past)) r.reached)
        (λ m a b. idle_after m (omega arith) b);
    totals = e ∙ r.totals;
  }

  -- the open span is the last one
  pub driving_last : (more : List DrivenSpan) → start < min past to
      → more ≡ driven ++ span_of (run_of start (min past to)) (total_of 0 driven + (min past to - start)) ∷ []
      → AreDriven (line_of spans) from to more
  driving_last more some e =
      let le : place_of left past ≤ past = joined_le left (place_of left past) past r.rest.joined in
      let run : Run = run_of start (min past to) in
      let within : min past to ≤ place_of left past = elim over [
        | inl none ↦ let f : place_of left past ≡ past = ap (λ (x : List Span). place_of x past) none in omega arith
        | inr late ↦ omega arith
      ] in
      let last : (min past to ≡ to) ⊎ (line_of spans (min past to) ≢ Drive) = elim (cases_lt past to) [
        | inl lt ↦ inr (idle_after (min past to) (omega arith) (omega arith))
        | inr ge ↦ inl (omega arith)
      ] in
      record {
        runs = r.runs ++ run ∷ [];
        are = closed_end (line_of spans) from to (r.runs ++ run ∷ []) (min past to)
            (closed_some (line_of spans) from to r.runs start (max from (place_of left past)) (min past to)
            r.reached some (omega arith) (omega arith) last)
            idle_after;
        totals = totals_more driven more r.runs run r.totals e;
      }

-- each span ends after the start of the first span
later_ends : (spans : List Span) (base past i : ℕ) (d : Span)
    → Joined spans base past → i < length spans → base < (get_or spans i d).past
later_ends [] base past i d j within = absurd (omega arith)
later_ends (s ∷ spans) base past zero d j within = j.1
later_ends (s ∷ spans) base past (suc i) d j within =
    let h : s.past < (get_or spans i d).past = later_ends spans s.past past i d j.2 (omega arith) in
    let b : base < s.past = j.1 in
    omega arith

-- spans that follow one another end in order
pub ends_rise : (spans : List Span) (base past : ℕ) → Joined spans base past
    → AllPairs (λ (a b : Span). a.past ≤ b.past) spans
ends_rise [] base past j i k d lt within = absurd (omega arith)
ends_rise (s ∷ spans) base past j i zero d lt within = absurd (omega arith)
ends_rise (s ∷ spans) base past j zero (suc k) d lt within =
    let h : s.past < (get_or spans k d).past = later_ends spans s.past past k d j.2 (omega arith) in omega arith
ends_rise (s ∷ spans) base past j (suc i) (suc k) d lt within =
    ends_rise spans s.past past j.2 i k d (omega arith) (omega arith)

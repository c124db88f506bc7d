-- The evidence for a breach B1: what has evidence is a breach, each breach has evidence, and only one (`laws::break_evidence`).
use Rattle.std.proofs.Common.{◌≡◌, ◌≢◌, ℕ, ◌+◌, ◌<◌, ◌≤◌, ◌⊎◌, inl, inr, List, [], ◌∷◌, ◌++◌, map, refl, sym, ap, ◌↔◌}
use Rattle.std.proofs.Common.{subst, ◌∙◌, arith}
use Rattle.std.specs.List.{AllPairs, Contains}
use Rattle.std.proofs.lemmas.Bool.{cases_lt}
use Rattle.std.proofs.lemmas.List.Kept.{AllPairs-cons}
use Rattle.std.proofs.lemmas.List.Sorted.{IsNonDecreasingBy-from_sort}
use Rattle.tacho_time.specs.declared.span.Activity.{Activity}
use Rattle.tacho_time.specs.declared.span.Activity.TheVariants.{Rest as AtRest, Drive as AtDrive}
use Rattle.tacho_law.specs.declared.run.Run.{Run}
use Rattle.tacho_law.specs.declared.breach.Breach.{Breach}
use Rattle.tacho_law.specs.Breaches.{IsB1}
use Rattle.tacho_law.specs.Breaks.{AreCompleteBreaks}
use Rattle.tacho_law.specs.Driving.{IsDrivingMinute, IsDrivingAbove}
use Rattle.tacho_law.specs.Exactly.{AreExactly}
use Rattle.tacho_law.specs.Limits.{driving_before_break, first_part_of_break}
use Rattle.tacho_law.specs.Line.{Line}
use Rattle.tacho_law.specs.Runs.{AreRestRuns, Before, IsRestRun, minutes_of}
use Rattle.tacho_law.proofs.DrivingLemmas.{driving_minute_only}
use Rattle.tacho_law.proofs.ExactlyLemmas.{contains_head, contains_tail, contains_cases, head_first, tail_order}
use Rattle.tacho_law.proofs.ExactlyLemmas.{exactly_as, one_exactly}
use Rattle.tacho_evidence.specs.declared.driven.DrivenSpan.{DrivenSpan}
use Rattle.tacho_evidence.specs.declared.line.EvidenceLine.{EvidenceLine}
use Rattle.tacho_evidence.specs.declared.line.EvidenceLine.TheVariants.{Break, Rest, Drive}
use Rattle.tacho_evidence.specs.Driven.{IsDrivingSpan, AreDriven, IsAboveByTotals, total_of, with_totals}
use Rattle.tacho_evidence.specs.Evidence.{begins, AreByTime, IsRestBetween, IsBreakEvidence}
use Rattle.tacho_evidence.proofs.TotalsLemmas.{span_of, above_by_totals, one_driven}
use Rattle.tacho_evidence.proofs.ExistLemmas.{driven_exist}
use Rattle.tacho_evidence.proofs.DayLemmas.{in_turn}
use Rattle.tacho_evidence.proofs.BreakListLemmas.{all_of, pairs_append, kept_exactly, Apart, sorted_once, SortedOf}
use Rattle.tacho_evidence.proofs.BreakListLemmas.{sorted_of, is_sorted}

-- ---- since when

-- the first total isn't 0
first_total : (runs : List Run) (front : DrivenSpan) (begun : List DrivenSpan)
    → ((run : Run) → Contains runs run → run.start < run.past) → front ∷ begun ≡ with_totals 0 runs → 0 < front.total
first_total [] front begun some e = absurd cc
first_total (run ∷ runs) front begun some e =
    let same : front ≡ span_of run (0 + minutes_of run) = cc in
    let total : front.total ≡ 0 + minutes_of run = ap (λ (s : DrivenSpan). s.total) same in
    let is : run.start < run.past = some run (contains_head run runs) in
    omega arith

-- the first driving minute of a range is the start of its first driving span
pub first_drive : (line : Line) (from to : ℕ) (spans : List DrivenSpan) (front : DrivenSpan) (begun : List DrivenSpan)
    → AreDriven line from to spans → spans ≡ front ∷ begun → IsDrivingMinute line from to 1 front.run.start
first_drive line from to spans front begun driven is =
    let above : IsAboveByTotals 0 spans front.run.start (total_of 0 spans) = record {
      before = [];
      span = front;
      after = begun;
      parts = is;
      reached = omega arith;
      exceeded =
          first_total driven.runs front begun (λ run h. ((driven.are.each run).0 h).some) (sym is ∙ driven.totals);
      moment_is = omega arith;
      amount_is = omega arith;
    } in
    let over : IsDrivingAbove line 0 from to front.run.start (total_of 0 spans) =
    (above_by_totals line 0 from to front.run.start (total_of 0 spans) spans driven).0 above in
    over.moment

-- a list that isn't empty has a first span
pub record Front (spans : List DrivenSpan) : Type 0 where
  pub front : DrivenSpan
  pub begun : List DrivenSpan
  pub is : spans ≡ front ∷ begun

pub front_of : (spans before : List DrivenSpan) (span : DrivenSpan) (after : List DrivenSpan)
    → spans ≡ before ++ (span ∷ after) → Front spans
front_of spans [] span after e = record { front = span; begun = after; is = e }
front_of spans (first ∷ before) span after e = record { front = first; begun = before ++ (span ∷ after); is = e }

-- by the evidence, the moment is the first driving minute above the limit
over_of : (line : Line) (breaks : List Run) (breach : Breach) (lines : List EvidenceLine)
    (e : IsBreakEvidence line breaks breach lines) → IsDrivingAbove line driving_before_break e.earlier.past e.later.start breach.moment breach.amount
over_of line breaks breach lines e =
    (above_by_totals line driving_before_break e.earlier.past e.later.start breach.moment breach.amount e.spans e.driven).0
    e.above

-- what has evidence is a breach
pub break_sound : (line : Line) (breaks : List Run) (breach : Breach) (lines : List EvidenceLine)
    → IsBreakEvidence line breaks breach lines → IsB1 line breaks breach
break_sound line breaks breach lines e = record {
  earlier = e.earlier;
  later = e.later;
  first = e.first;
  second = e.second;
  before = e.before;
  between = e.between;
  over = over_of line breaks breach lines e;
  since =
      subst (λ (m : ℕ). IsDrivingMinute line e.earlier.past e.later.start 1 m) (sym e.since.1)
      (first_drive line e.earlier.past e.later.start e.spans e.front e.begun e.driven e.since.0);
}

-- ---- the rests between

-- long enough, and between the two
abbrev pub Between : Run → Run → Run → Type 0
Between a b run = (first_part_of_break ≤ minutes_of run) × Before a run × Before run b

-- this can be decided
decide_between : (a b run : Run) → Between a b run ⊎ (¬ (Between a b run))
decide_between a b run = elim (cases_lt (minutes_of run) first_part_of_break) [
  | inl short ↦ inr (λ h. let le : first_part_of_break ≤ minutes_of run = h.0 in omega (arith, le, short))
  | inr long ↦ elim (cases_lt a.past run.start) [
    | inr early ↦ inr (λ h. let lt : a.past < run.start = h.1 in omega (arith, lt, early))
    | inl after ↦ elim (cases_lt run.past b.start) [
      | inr late ↦ inr (λ h. let lt : run.past < b.start = h.2 in omega (arith, lt, late))
      | inl before ↦ inl (long, after, before)
    ]
  ]
]

-- of the runs with a minute between the two, those that are so are these rests
pub between_of : (line : Line) (runs near rests : List Run) (a b : Run) → AreRestRuns line runs
    → ((run : Run) → Contains near run ↔ (Contains runs run × (run.start < b.start) × (a.past < run.past)))
    → AreExactly (λ run. Contains near run × Between a b run) Before rests → AreExactly (IsRestBetween line a b) Before rests
between_of line runs near rests a b are part kept =
    exactly_as (λ run. Contains near run × Between a b run) (IsRestBetween line a b) Before rests
    (λ run. (
      λ h. record {
        rest = record { rests = (are.each run).0 ((part run).0 h.0).0; enough = h.1.0 };
        after = h.1.1;
        before = h.1.2;
      },
      λ h. (let some : run.start < run.past = h.rest.rests.some in
          let after : a.past < run.start = h.after in
          let before : run.past < b.start = h.before in (
            (part run).1 ((are.each run).1 h.rest.rests, omega (arith, some, before), omega (arith, some, after)),
            (h.rest.enough, h.after, h.before),
          )),
    ))
    kept

-- there is a list of these rests
rests_between : (line : Line) (runs : List Run) (a b : Run) → AreRestRuns line runs
    → (rests : List Run) × AreExactly (IsRestBetween line a b) Before rests
rests_between line runs a b are =
    let (rests, exactly) = kept_exactly (IsRestRun line) (Between a b) Before (decide_between a b) runs are in (
      rests,
      exactly_as (λ run. IsRestRun line run × Between a b run) (IsRestBetween line a b) Before rests
          (λ run. (
            λ h. record { rest = record { rests = h.0; enough = h.1.0 }; after = h.1.1; before = h.1.2 },
            λ h. (h.rest.rests, (h.rest.enough, h.after, h.before)),
          ))
          exactly,
    )

-- and only one
one_between : (line : Line) (a b : Run) (rests others : List Run) → AreExactly (IsRestBetween line a b) Before rests
    → AreExactly (IsRestBetween line a b) Before others → rests ≡ others
one_between line a b = one_exactly (IsRestBetween line a b) Before (λ x y p q before after.
    let some : x.start < x.past = p.rest.rests.some in
    let some' : y.start < y.past = q.rest.rests.some in
    omega (arith, before, after))

-- ---- driving spans and rests in order of time

-- a line that begins when a run of the list does
record OfRun (runs : List Run) (line : EvidenceLine) : Type 0 where
  pub run : Run
  pub among : Contains runs run
  pub start : begins line ≡ run.start

-- likewise, of the runs after the first
later_run : (first : Run) (runs : List Run) (line : EvidenceLine) → OfRun runs line → OfRun (first ∷ runs) line
later_run first runs line o = record { run = o.run; among = contains_tail first runs o.run o.among; start = o.start }

-- nothing is in an empty list
no_line : (x : EvidenceLine) → Contains [] x → ⊥
no_line x h = let k : h.0 < 0 = h.1 in omega arith

-- a driving span's line begins when its run does
drive_runs : (done : ℕ) (runs : List Run) (x : EvidenceLine) → Contains (map Drive (with_totals done runs)) x → OfRun runs x
drive_runs done [] x h = absurd (no_line x h)
drive_runs done (run ∷ runs) x h =
    elim (contains_cases (Drive (span_of run (done + minutes_of run))) (map Drive (with_totals (done + minutes_of run) runs)) x h) [
      | inl same ↦ record { run = run; among = contains_head run runs; start = sym (ap begins same) }
      | inr after ↦ later_run run runs x (drive_runs (done + minutes_of run) runs x after)
    ]

-- a rest's line begins when its run does
rest_runs : (runs : List Run) (x : EvidenceLine) → Contains (map Rest runs) x → OfRun runs x
rest_runs [] x h = absurd (no_line x h)
rest_runs (run ∷ runs) x h = elim (contains_cases (Rest run) (map Rest runs) x h) [
  | inl same ↦ record { run = run; among = contains_head run runs; start = sym (ap begins same) }
  | inr after ↦ later_run run runs x (rest_runs runs x after)
]

-- runs in order, none empty
record InOrder (runs : List Run) : Type 0 where
  pub some : (run : Run) → Contains runs run → run.start < run.past
  pub in_order : AllPairs Before runs

-- the runs after the first are in order, and begin after it
order_tail : (first : Run) (runs : List Run) → InOrder (first ∷ runs) → InOrder runs
order_tail first runs o = record {
  some = λ run h. o.some run (contains_tail first runs run h);
  in_order = tail_order Before first runs o.in_order;
}

begins_after : (first : Run) (runs : List Run) (x : EvidenceLine) → InOrder (first ∷ runs) → OfRun runs x → first.start ≢ begins x
begins_after first runs x o r e =
    let some : first.start < first.past = o.some first (contains_head first runs) in
    let lt : first.past < r.run.start = head_first Before first runs r.run o.in_order r.among in
    let start : begins x ≡ r.run.start = r.start in
    omega (arith, e, start, lt, some)

-- no two driving spans begin at the same minute
drives_apart : (done : ℕ) (runs : List Run) → InOrder runs → AllPairs (Apart begins) (map Drive (with_totals done runs))
drives_apart done [] o = λ i j d lt within. absurd (omega arith)
drives_apart done (run ∷ runs) o =
    AllPairs-cons (Apart begins) (Drive (span_of run (done + minutes_of run)))
    (map Drive (with_totals (done + minutes_of run) runs))
    (all_of (Apart begins (Drive (span_of run (done + minutes_of run)))) (map Drive (with_totals (done + minutes_of run) runs))
    (λ x h. begins_after run runs x o (drive_runs (done + minutes_of run) runs x h)))
    (drives_apart (done + minutes_of run) runs (order_tail run runs o))

-- nor two rests
rests_apart : (runs : List Run) → InOrder runs → AllPairs (Apart begins) (map Rest runs)
rests_apart [] o = λ i j d lt within. absurd (omega arith)
rests_apart (run ∷ runs) o =
    AllPairs-cons (Apart begins) (Rest run) (map Rest runs)
    (all_of (Apart begins (Rest run)) (map Rest runs) (λ x h. begins_after run runs x o (rest_runs runs x h)))
    (rests_apart runs (order_tail run runs o))

-- no activity is both
not_both : (a : Activity) → a ≡ AtDrive → a ≡ AtRest → ⊥
not_both a e f = let h : AtDrive ≡ AtRest = sym e ∙ f in cc

-- no two of the driving spans and rests between two breaks begin at the same minute
between_apart : (line : Line) (a b : Run) (from to : ℕ) (spans : List DrivenSpan) (rests : List Run) → AreDriven line from to spans
    → AreExactly (IsRestBetween line a b) Before rests → AllPairs (Apart begins) (map Drive spans ++ map Rest rests)
between_apart line a b from to spans rests driven rested =
    let some : (run : Run) → Contains driven.runs run → run.start < run.past = λ run h. ((driven.are.each run).0 h).some in
    let drives : AllPairs (Apart begins) (map Drive (with_totals 0 driven.runs)) =
    drives_apart 0 driven.runs (record { some = some; in_order = driven.are.in_order }) in
    let resting : AllPairs (Apart begins) (map Rest rests) =
    rests_apart rests (record {
      some = λ run h. ((rested.each run).0 h).rest.rests.some;
      in_order = rested.in_order;
    }) in
    subst (λ (s : List DrivenSpan). AllPairs (Apart begins) (map Drive s ++ map Rest rests)) (sym driven.totals)
    (pairs_append (Apart begins) (map Drive (with_totals 0 driven.runs)) (map Rest rests) drives resting
    (λ x y h k e.
    let p : OfRun driven.runs x = drive_runs 0 driven.runs x h in
    let q : OfRun rests y = rest_runs rests y k in
    let is : IsDrivingSpan line from to p.run = (driven.are.each p.run).0 p.among in
    let rest : IsRestRun line q.run = ((rested.each q.run).0 q.among).rest.rests in
    let same : p.run.start ≡ q.run.start = sym p.start ∙ e ∙ q.start in
    not_both (line q.run.start)
    (subst (λ (m : ℕ). line m ≡ AtDrive) same (is.drives p.run.start (omega arith) is.some))
    (rest.rest q.run.start (omega arith) rest.some)))

-- ---- the evidence of a breach

-- each breach has evidence
pub break_whole : (line : Line) (runs breaks : List Run) (breach : Breach) → AreRestRuns line runs → AreCompleteBreaks runs breaks
    → IsB1 line breaks breach → (lines : List EvidenceLine) × IsBreakEvidence line breaks breach lines
break_whole line runs breaks breach are are_breaks b =
    let from : ℕ = b.earlier.past in
    let to : ℕ = b.later.start in
    let (spans, driven) = driven_exist line from to in
    let above : IsAboveByTotals driving_before_break spans breach.moment breach.amount =
    (above_by_totals line driving_before_break from to breach.moment breach.amount spans driven).1 b.over in
    let f : Front spans = front_of spans above.before above.span above.after above.parts in
    let since : breach.since ≡ f.front.run.start =
    driving_minute_only line from to 1 breach.since f.front.run.start b.since
    (first_drive line from to spans f.front f.begun driven f.is) in
    let (rests, rested) = rests_between line runs b.earlier b.later are in
    let s : SortedOf begins (map Drive spans ++ map Rest rests) = sorted_of begins (map Drive spans ++ map Rest rests) in (
      Break b.earlier ∷ (s.all ++ (Break b.later ∷ [])),
      record {
        earlier = b.earlier;
        later = b.later;
        first = b.first;
        second = b.second;
        before = b.before;
        between = b.between;
        spans = spans;
        driven = driven;
        above = above;
        begun = f.begun;
        front = f.front;
        since = (f.is, since);
        rests = rests;
        rested = rested;
        middle = s.all;
        by_time = record { all = s.same; sorted = is_sorted begins s.all s.up };
        lines_are = refl;
      },
    )

-- two pairs of neighbouring breaks around one minute are the same
same_pair : (breaks : List Run) (m : ℕ) (a b c d : Run) → AllPairs Before breaks → Contains breaks a → Contains breaks b
    → Contains breaks c → Contains breaks d
    → ((x : Run) → Contains breaks x → Before a x → Before x b → ⊥)
    → ((x : Run) → Contains breaks x → Before c x → Before x d → ⊥)
    → a.past ≤ m → m < b.start → c.past ≤ m → m < d.start → (a ≡ c) × (b ≡ d)
same_pair breaks m a b c d o p q r s none none' above below above' below' = (
  elim (in_turn Before breaks a c o p r) [
    | inl same ↦ same
    | inr apart ↦ absurd (elim apart [
      | inl early ↦ none c r early (omega arith)
      | inr late ↦ none' a p late (omega arith)
    ])
  ],
  elim (in_turn Before breaks b d o q s) [
    | inl same ↦ same
    | inr apart ↦ absurd (elim apart [
      | inl early ↦ none' b q (omega arith) early
      | inr late ↦ none d s (omega arith) late
    ])
  ],
)

-- there is one order of the driving spans and rests
one_middle : (line : Line) (a b : Run) (spans : List DrivenSpan) (rests : List Run) (middle other : List EvidenceLine)
    → AreDriven line a.past b.start spans → AreExactly (IsRestBetween line a b) Before rests
    → AreByTime spans rests middle → AreByTime spans rests other → middle ≡ other
one_middle line a b spans rests middle other driven rested p q =
    sorted_once begins (map Drive spans ++ map Rest rests) middle other
    (between_apart line a b a.past b.start spans rests driven rested) p.all q.all
    (IsNonDecreasingBy-from_sort begins middle p.sorted) (IsNonDecreasingBy-from_sort begins other q.sorted)

-- and only one
pub break_one : (line : Line) (runs breaks : List Run) (breach : Breach) (lines others : List EvidenceLine) → AreRestRuns line runs
    → AreCompleteBreaks runs breaks → IsBreakEvidence line breaks breach lines → IsBreakEvidence line breaks breach others
    → lines ≡ others
break_one line runs breaks breach lines others are are_breaks a b =
    let p : IsDrivingAbove line driving_before_break a.earlier.past a.later.start breach.moment breach.amount =
    over_of line breaks breach lines a in
    let q : IsDrivingAbove line driving_before_break b.earlier.past b.later.start breach.moment breach.amount =
    over_of line breaks breach others b in
    let (earlier, later) =
    same_pair breaks breach.moment a.earlier a.later b.earlier b.later are_breaks.in_order a.first a.second b.first b.second
    a.between b.between p.moment.above p.moment.below q.moment.above q.moment.below in
    let driven : AreDriven line b.earlier.past b.later.start a.spans =
    subst (λ (x : Run). AreDriven line b.earlier.past x.start a.spans) later
    (subst (λ (x : Run). AreDriven line x.past a.later.start a.spans) earlier a.driven) in
    let spans : a.spans ≡ b.spans = one_driven line b.earlier.past b.later.start a.spans b.spans driven b.driven in
    let rested : AreExactly (IsRestBetween line b.earlier b.later) Before a.rests =
    subst (λ (x : Run). AreExactly (IsRestBetween line b.earlier x) Before a.rests) later
    (subst (λ (x : Run). AreExactly (IsRestBetween line x a.later) Before a.rests) earlier a.rested) in
    let rests : a.rests ≡ b.rests = one_between line b.earlier b.later a.rests b.rests rested b.rested in
    let by_time : AreByTime b.spans b.rests a.middle =
    subst (λ (x : List Run). AreByTime b.spans x a.middle) rests
    (subst (λ (x : List DrivenSpan). AreByTime x a.rests a.middle) spans a.by_time) in
    let middle : a.middle ≡ b.middle =
    one_middle line b.earlier b.later b.spans b.rests a.middle b.middle b.driven b.rested by_time b.by_time in
    a.lines_are
    ∙ (ap (λ (x : Run). Break x ∷ (a.middle ++ (Break a.later ∷ []))) earlier
    ∙ (ap (λ (x : Run). Break b.earlier ∷ (a.middle ++ (Break x ∷ []))) later
    ∙ (ap (λ (x : List EvidenceLine). Break b.earlier ∷ (x ++ (Break b.later ∷ []))) middle ∙ sym b.lines_are)))

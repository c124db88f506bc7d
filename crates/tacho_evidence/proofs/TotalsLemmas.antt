-- Running totals: one list of driving spans, the last total, and what the totals say of too much driving.
use Rattle.std.proofs.Common.{◌≡◌, ◌≢◌, ℕ, zero, suc, ◌+◌, ◌-◌, ◌<◌, ◌≤◌, ◌⊎◌, ◌↔◌, inl, inr, List, []}
use Rattle.std.proofs.Common.{◌∷◌, ◌++◌, length, get_or, refl, sym, ap, subst, ◌∙◌, arith}
use Rattle.std.specs.List.{AllPairs, Contains}
use Rattle.std.proofs.lemmas.Bool.{cases_lt}
use Rattle.tacho_time.specs.declared.span.Activity.{Activity}
use Rattle.tacho_time.specs.declared.span.Activity.TheVariants.{Rest, Available, Work, Drive}
use Rattle.tacho_law.specs.declared.run.Run.{Run}
use Rattle.tacho_law.specs.Line.{Line}
use Rattle.tacho_law.specs.Driving.{driving, IsDrivingMinute, IsDrivingAbove}
use Rattle.tacho_law.specs.Runs.{Before, minutes_of}
use Rattle.tacho_law.proofs.ExactlyLemmas.{one_exactly, contains_head, contains_tail, contains_cases}
use Rattle.tacho_law.proofs.ExactlyLemmas.{tail_order, head_first}
use Rattle.tacho_law.proofs.DrivingLemmas.{driving_all, driving_before, driving_none}
use Rattle.tacho_evidence.specs.declared.driven.DrivenSpan.{DrivenSpan}
use Rattle.tacho_evidence.specs.Driven.{IsDrivingSpan, AreDrivingSpans, with_totals, AreDriven, total_of, IsAboveByTotals}

-- a run with its total
abbrev pub span_of : Run → ℕ → DrivenSpan
span_of run total = record { run = run; total = total }

-- a span added to a list has the last total
pub total_of_push : (done : ℕ) (spans : List DrivenSpan) (span : DrivenSpan) → total_of done (spans ++ span ∷ []) ≡ span.total
total_of_push done [] span = refl
total_of_push done (first ∷ spans) span = total_of_push first.total spans span

-- no span
abbrev pub no_span : DrivenSpan
no_span = record { run = record { start = 0; past = 0 }; total = 0 }

-- the last total is that of the span at the last place
total_at : (done : ℕ) (first : DrivenSpan) (spans : List DrivenSpan) (d : DrivenSpan)
    → total_of done (first ∷ spans) ≡ (get_or (first ∷ spans) (length spans) d).total
total_at done first [] d = refl
total_at done first (next ∷ spans) d = total_at first.total next spans d

-- likewise, or 0 if there is no span
pub total_at_last : (spans : List DrivenSpan) → total_of 0 spans ≡ (get_or spans (length spans - 1) no_span).total
total_at_last [] = refl
total_at_last (first ∷ spans) =
    let e : length spans ≡ length (first ∷ spans) - 1 = omega arith in
    total_at 0 first spans no_span ∙ ap (λ (n : ℕ). (get_or (first ∷ spans) n no_span).total) e

-- totals of a list with one more run
pub with_totals_push : (done : ℕ) (runs : List Run) (run : Run) → with_totals done (runs ++ run ∷ [])
    ≡ with_totals done runs ++ span_of run (total_of done (with_totals done runs) + minutes_of run) ∷ []
with_totals_push done [] run = refl
with_totals_push done (first ∷ runs) run =
    ap (λ (spans : List DrivenSpan). span_of first (done + minutes_of first) ∷ spans)
    (with_totals_push (done + minutes_of first) runs run)

-- a range has one list of driving spans
pub one_driven : (line : Line) (from to : ℕ) (spans others : List DrivenSpan)
    → AreDriven line from to spans → AreDriven line from to others → spans ≡ others
one_driven line from to spans others a b =
    let e : a.runs ≡ b.runs =
    one_exactly (IsDrivingSpan line from to) Before
    (λ x y p q before after.
    let some : x.start < x.past = p.some in let some' : y.start < y.past = q.some in omega arith)
    a.runs b.runs a.are b.are in
    a.totals ∙ ap (with_totals 0) e ∙ sym b.totals

-- whether an activity is driving
drives_or : (a : Activity) → (a ≡ Drive) ⊎ (a ≢ Drive)
drives_or Drive = inl refl
drives_or Rest = inr (λ e. cc)
drives_or Available = inr (λ e. cc)
drives_or Work = inr (λ e. cc)

-- where the driving that ends with a driving minute begins
record Begins (line : Line) (from m : ℕ) : Type 0 where
  pub start : ℕ
  pub above : from ≤ start
  pub below : start ≤ m
  pub drives : (i : ℕ) → start ≤ i → i ≤ m → line i ≡ Drive
  pub first : (start ≡ from) ⊎ ((i : ℕ) → i + 1 ≡ start → line i ≢ Drive)

begins : (line : Line) (from m : ℕ) → from ≤ m → line m ≡ Drive → Begins line from m
begins line from zero above d = record {
  start = 0;
  above = above;
  below = omega arith;
  drives = λ i a b. let e : 0 ≡ i = omega arith in subst (λ (x : ℕ). line x ≡ Drive) e d;
  first = inl (omega arith);
}
begins line from (suc m) above d =
    let last : (i : ℕ) → suc m ≤ i → i ≤ suc m → line i ≡ Drive = λ i a b.
    (let e : suc m ≡ i = omega arith in subst (λ (x : ℕ). line x ≡ Drive) e d) in
    elim (cases_lt m from) [
      | inl lt ↦
          record { start = suc m; above = above; below = omega arith; drives = last; first = inl (omega arith) }
      | inr ge ↦ elim (drives_or (line m)) [
        | inl e ↦
            let b : Begins line from m = begins line from m ge e in
            record {
              start = b.start;
              above = b.above;
              below = let l : b.start ≤ m = b.below in omega arith;
              drives = λ i a l. elim (cases_lt m i) [
                | inl after ↦ last i (omega arith) l
                | inr within ↦ b.drives i a within
              ];
              first = b.first;
            }
        | inr n ↦ record {
          start = suc m;
          above = above;
          below = omega arith;
          drives = last;
          first = inr (λ i e. let f : m ≡ i = omega arith in subst (λ (x : ℕ). line x ≢ Drive) f n);
        }
      ]
    ]

-- where the driving from a minute on ends, at most n minutes later
record Ends (line : Line) (to m : ℕ) : Type 0 where
  pub past : ℕ
  pub above : m ≤ past
  pub below : past ≤ to
  pub drives : (i : ℕ) → m ≤ i → i < past → line i ≡ Drive
  pub last : (past ≡ to) ⊎ (line past ≢ Drive)

ends : (line : Line) (to m n : ℕ) → m + n ≡ to → Ends line to m
ends line to m zero e = record {
  past = m;
  above = omega arith;
  below = omega arith;
  drives = λ i a b. absurd (omega arith);
  last = inl (omega arith);
}
ends line to m (suc n) e = elim (drives_or (line m)) [
  | inl d ↦
      let r : Ends line to (m + 1) = ends line to (m + 1) n (omega arith) in
      let above : m + 1 ≤ r.past = r.above in
      record {
        past = r.past;
        above = omega arith;
        below = r.below;
        drives = λ i a b. elim (cases_lt m i) [
          | inl after ↦ r.drives i (omega arith) b
          | inr le ↦ let f : m ≡ i = omega arith in subst (λ (x : ℕ). line x ≡ Drive) f d
        ];
        last = r.last;
      }
  | inr idle ↦ record {
    past = m;
    above = omega arith;
    below = omega arith;
    drives = λ i a b. absurd (omega arith);
    last = inr idle;
  }
]

-- a driving minute of a range is in a driving span
record Spanned (line : Line) (from to m : ℕ) : Type 0 where
  pub run : Run
  pub is : IsDrivingSpan line from to run
  pub from_start : run.start ≤ m
  pub before_past : m < run.past

spanned : (line : Line) (from to m : ℕ) → from ≤ m → m < to → line m ≡ Drive → Spanned line from to m
spanned line from to m above below d =
    let b : Begins line from m = begins line from m above d in
    let e : Ends line to (m + 1) = ends line to (m + 1) (to - (m + 1)) (omega arith) in
    let low : b.start ≤ m = b.below in
    let high : m + 1 ≤ e.past = e.above in
    record {
      run = record { start = b.start; past = e.past };
      is = record {
        some = omega arith;
        above = b.above;
        below = e.below;
        drives = λ i a l. elim (cases_lt m i) [
          | inl after ↦ e.drives i (omega arith) l
          | inr within ↦ b.drives i a within
        ];
        first = b.first;
        last = e.last;
      };
      from_start = low;
      before_past = omega arith;
    }

-- the first of the remaining driving spans: nothing is driven before it
record Next (line : Line) (to at : ℕ) (run : Run) : Type 0 where
  pub from : at ≤ run.start
  pub idle : (m : ℕ) → at ≤ m → m < run.start → line m ≢ Drive
  pub some : run.start < run.past
  pub drives : (m : ℕ) → run.start ≤ m → m < run.past → line m ≡ Drive
  pub below : run.past ≤ to

-- the driving spans from a minute on: between them nothing is driven
abbrev Chain : Line → ℕ → ℕ → List Run → Type 0
Chain line to at [] = (m : ℕ) → at ≤ m → m < to → line m ≢ Drive
Chain line to at (run ∷ runs) = Next line to at run × Chain line to run.past runs

-- likewise, by what the list has
record Onward (line : Line) (from to at : ℕ) (runs : List Run) : Type 0 where
  pub each : (run : Run) → Contains runs run → IsDrivingSpan line from to run
  pub in_order : AllPairs Before runs
  pub ahead : (run : Run) → Contains runs run → at ≤ run.start
  pub all : (m : ℕ) → at ≤ m → m < to → line m ≡ Drive → (run : Run) × Contains runs run × (run.start ≤ m) × (m < run.past)

-- a list of all driving spans from a minute on is a chain
chain : (line : Line) (from to at : ℕ) (runs : List Run) → Onward line from to at runs → Chain line to at runs
chain line from to at [] o = λ m above below d.
    let (run, within, a, b) = o.all m above below d in let (k, short, is) = within in absurd (omega arith)
chain line from to at (run ∷ runs) o =
    let is : IsDrivingSpan line from to run = o.each run (contains_head run runs) in
    let some : run.start < run.past = is.some in
    let ahead : at ≤ run.start = o.ahead run (contains_head run runs) in
    let later : (x : Run) → Contains runs x → run.past < x.start = λ x h. head_first Before run runs x o.in_order h in (
      record {
        from = ahead;
        idle = λ m above below d.
            let below' : run.past ≤ to = is.below in
            let (x, within, a, b) = o.all m above (omega arith) d in
            elim (contains_cases run runs x within) [
              | inl same ↦ let e : run.start ≡ x.start = ap (λ (r : Run). r.start) same in absurd (omega arith)
              | inr after ↦ let l : run.past < x.start = later x after in absurd (omega arith)
            ];
        some = some;
        drives = is.drives;
        below = is.below;
      },
      chain line from to run.past runs (record {
        each = λ x h. o.each x (contains_tail run runs x h);
        in_order = tail_order Before run runs o.in_order;
        ahead = λ x h. let l : run.past < x.start = later x h in omega arith;
        all = λ m above below d.
            let (x, within, a, b) = o.all m (omega arith) below d in
            elim (contains_cases run runs x within) [
              | inl same ↦ let e : run.past ≡ x.past = ap (λ (r : Run). r.past) same in absurd (omega arith)
              | inr after ↦ (x, after, a, b)
            ];
      }),
    )

-- the driving spans of a range are a chain
are_chain : (line : Line) (from to : ℕ) (runs : List Run) → AreDrivingSpans line from to runs → Chain line to from runs
are_chain line from to runs are = chain line from to from runs (record {
  each = λ x h. (are.each x).0 h;
  in_order = are.in_order;
  ahead = λ x h. ((are.each x).0 h).above;
  all = λ m above below d.
      let s : Spanned line from to m = spanned line from to m above below d in
      (s.run, (are.each s.run).1 s.is, s.from_start, s.before_past);
})

-- a range that is empty has no driving spans
none_of_chain : (line : Line) (to at : ℕ) (runs : List Run) → to ≤ at → Chain line to at runs → runs ≡ []
none_of_chain line to at [] below c = refl
none_of_chain line to at (run ∷ runs) below c =
    let some : run.start < run.past = c.0.some in
    let a : at ≤ run.start = c.0.from in
    let b : run.past ≤ to = c.0.below in
    absurd (omega arith)

-- the driving up to a minute of the first span
driving_in : (line : Line) (from to at m : ℕ) (run : Run) → from ≤ at → Next line to at run → run.start ≤ m → m ≤ run.past
    → driving line from m ≡ driving line from at + (m - run.start)
driving_in line from to at m run above n late early =
    let a : at ≤ run.start = n.from in
    let e : driving line from run.start ≡ driving line from at = driving_none line from at run.start a n.idle in
    let f : driving line from m ≡ driving line from run.start + (m - run.start) =
    driving_all line from run.start m (omega arith) late (λ i b c. n.drives i b (omega arith)) in
    omega arith

-- the driving in a range is the last total
driving_of_chain : (line : Line) (from to at done : ℕ) (runs : List Run) → from ≤ at → at ≤ to
    → done ≡ driving line from at → Chain line to at runs → driving line from to ≡ total_of done (with_totals done runs)
driving_of_chain line from to at done [] above below e c = driving_none line from at to below c ∙ sym e
driving_of_chain line from to at done (run ∷ runs) above below e c =
    let some : run.start < run.past = c.0.some in
    let a : at ≤ run.start = c.0.from in
    let f : driving line from run.past ≡ driving line from at + (run.past - run.start) =
    driving_in line from to at run.past run above c.0 (omega arith) (omega arith) in
    driving_of_chain line from to run.past (done + minutes_of run) runs (omega arith) c.0.below (omega arith) c.1

-- the driving in a range is the sum of its driving spans
pub driving_is_total : (line : Line) (from to : ℕ) (spans : List DrivenSpan) → AreDriven line from to spans
    → driving line from to ≡ total_of 0 spans
driving_is_total line from to spans a =
    let c : Chain line to from a.runs = are_chain line from to a.runs a.are in
    let none : driving line from from ≡ 0 = driving_before line from from (omega arith) in
    let e : driving line from to ≡ total_of 0 (with_totals 0 a.runs) = elim (cases_lt from to) [
      | inl lt ↦ driving_of_chain line from to from 0 a.runs (omega arith) (omega arith) (sym none) c
      | inr ge ↦
          let n : a.runs ≡ [] = none_of_chain line to from a.runs ge c in
          driving_before line from to ge ∙ sym (ap (λ (runs : List Run). total_of 0 (with_totals 0 runs)) n)
    ] in
    e ∙ sym (ap (total_of 0) a.totals)

-- the first minute above a limit, in the span that has it
record IsOver (limit done : ℕ) (spans : List DrivenSpan) (m : ℕ) : Type 0 where
  pub before : List DrivenSpan
  pub span : DrivenSpan
  pub after : List DrivenSpan
  pub parts : spans ≡ before ++ (span ∷ after)
  pub reached : total_of done before ≤ limit
  pub exceeded : limit < span.total
  pub moment_is : m + total_of done before ≡ span.run.start + limit

-- a driving minute after as much driving as the limit is in a span of the list
over_of_minute : (line : Line) (from to at done limit m : ℕ) (runs : List Run) → from ≤ at → done ≡ driving line from at
    → Chain line to at runs → at ≤ m → m < to → line m ≡ Drive → driving line from m ≡ limit
    → IsOver limit done (with_totals done runs) m
over_of_minute line from to at done limit m [] above e c late below d is = absurd (c m late below d)
over_of_minute line from to at done limit m (run ∷ runs) above e c late below d is =
    let some : run.start < run.past = c.0.some in
    let a : at ≤ run.start = c.0.from in
    elim (cases_lt m run.start) [
      | inl early ↦ absurd (c.0.idle m late early d)
      | inr begun ↦ elim (cases_lt m run.past) [
        | inl within ↦
            let f : driving line from m ≡ driving line from at + (m - run.start) =
            driving_in line from to at m run above c.0 begun (omega arith) in
            record {
              before = [];
              span = span_of run (done + minutes_of run);
              after = with_totals (done + minutes_of run) runs;
              parts = refl;
              reached = omega arith;
              exceeded = omega arith;
              moment_is = omega arith;
            }
        | inr over ↦
            let f : driving line from run.past ≡ driving line from at + (run.past - run.start) =
            driving_in line from to at run.past run above c.0 (omega arith) (omega arith) in
            let r : IsOver limit (done + minutes_of run) (with_totals (done + minutes_of run) runs) m =
            over_of_minute line from to run.past (done + minutes_of run) limit m runs (omega arith)
            (omega arith) c.1 over below d is in
            record {
              before = span_of run (done + minutes_of run) ∷ r.before;
              span = r.span;
              after = r.after;
              parts = cc;
              reached = r.reached;
              exceeded = r.exceeded;
              moment_is = r.moment_is;
            }
      ]
    ]

-- the moment that the totals give is a driving minute after as much driving as the limit
minute_of_over : (line : Line) (from to at done limit m : ℕ) (runs : List Run) (before : List DrivenSpan) (span : DrivenSpan)
    (after : List DrivenSpan) → from ≤ at → done ≡ driving line from at → Chain line to at runs
    → with_totals done runs ≡ before ++ (span ∷ after) → total_of done before ≤ limit → limit < span.total
    → m + total_of done before ≡ span.run.start + limit → IsDrivingMinute line from to (limit + 1) m
minute_of_over line from to at done limit m [] [] span after above e c parts reached exceeded moment = absurd cc
minute_of_over line from to at done limit m [] (b ∷ before) span after above e c parts reached exceeded moment =
    absurd cc
minute_of_over line from to at done limit m (run ∷ runs) [] span after above e c parts reached exceeded moment =
    let same : span_of run (done + minutes_of run) ≡ span = cc in
    let total : done + minutes_of run ≡ span.total = ap (λ (s : DrivenSpan). s.total) same in
    let start : run.start ≡ span.run.start = ap (λ (s : DrivenSpan). s.run.start) same in
    let some : run.start < run.past = c.0.some in
    let a : at ≤ run.start = c.0.from in
    let below : run.past ≤ to = c.0.below in
    let f : driving line from m ≡ driving line from at + (m - run.start) =
    driving_in line from to at m run above c.0 (omega arith) (omega arith) in
    record {
      above = omega arith;
      below = omega arith;
      drives = c.0.drives m (omega arith) (omega arith);
      earlier = omega arith;
    }
minute_of_over line from to at done limit m (run ∷ runs) (b ∷ before) span after above e c parts reached exceeded moment =
    let same : span_of run (done + minutes_of run) ≡ b = cc in
    let rest : with_totals (done + minutes_of run) runs ≡ before ++ (span ∷ after) = cc in
    let total : b.total ≡ done + minutes_of run = sym (ap (λ (s : DrivenSpan). s.total) same) in
    let some : run.start < run.past = c.0.some in
    let a : at ≤ run.start = c.0.from in
    let f : driving line from run.past ≡ driving line from at + (run.past - run.start) =
    driving_in line from to at run.past run above c.0 (omega arith) (omega arith) in
    minute_of_over line from to run.past (done + minutes_of run) limit m runs before span after
    (omega arith) (omega arith) c.1 rest
    (subst (λ (x : ℕ). total_of x before ≤ limit) total reached) exceeded
    (subst (λ (x : ℕ). m + total_of x before ≡ span.run.start + limit) total moment)

-- the totals say of too much driving what the minutes say
pub above_by_totals : (line : Line) (limit from to moment amount : ℕ) (spans : List DrivenSpan) → AreDriven line from to spans
    → (IsAboveByTotals limit spans moment amount ↔ IsDrivingAbove line limit from to moment amount)
above_by_totals line limit from to moment amount spans a =
    let c : Chain line to from a.runs = are_chain line from to a.runs a.are in
    let none : 0 ≡ driving line from from = sym (driving_before line from from (omega arith)) in
    let all : driving line from to ≡ total_of 0 spans = driving_is_total line from to spans a in (
      λ h. record {
        moment =
            minute_of_over line from to from 0 limit moment a.runs h.before h.span h.after
            (omega arith) none c (sym a.totals ∙ h.parts) h.reached h.exceeded h.moment_is;
        amount = h.amount_is ∙ sym all;
      },
      λ h.
          let before : driving line from moment + 1 ≡ limit + 1 = h.moment.earlier in
          let r : IsOver limit 0 (with_totals 0 a.runs) moment =
          over_of_minute line from to from 0 limit moment a.runs (omega arith) none c
          h.moment.above h.moment.below h.moment.drives (omega arith) in
          record {
            before = r.before;
            span = r.span;
            after = r.after;
            parts = cc;
            reached = r.reached;
            exceeded = r.exceeded;
            moment_is = r.moment_is;
            amount_is = h.amount ∙ all;
          },
    )

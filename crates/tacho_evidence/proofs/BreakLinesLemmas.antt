-- The two complete breaks around a breach's moment are neighbours in the list of breaks, and the lines between them are its evidence
-- (`break_lines`).
use Rattle.std.proofs.Common.{◌≡◌, ℕ, zero, suc, ◌+◌, ◌-◌, ◌<◌, ◌≤◌, inl, inr, List, [], ◌∷◌, ◌++◌, refl, sym, ap, subst, ◌∙◌, arith, get_or, length, take, drop}
use Rattle.std.specs.List.{All, AllPairs, Contains}
use Rattle.std.proofs.lemmas.Bool.{cases_lt}
use Rattle.std.proofs.lemmas.List.{get_or-take, get_or-drop, get_or_default, length-take-le, length-drop}
use Rattle.std.proofs.lemmas.List.Elements.{Contains-get_or}
use Rattle.tacho_law.specs.declared.run.Run.{Run}
use Rattle.tacho_law.specs.declared.breach.Breach.{Breach}
use Rattle.tacho_law.specs.Breaches.{IsB1}
use Rattle.tacho_law.specs.Exactly.{AreExactly}
use Rattle.tacho_law.specs.Limits.{driving_before_break}
use Rattle.tacho_law.specs.Line.{Line}
use Rattle.tacho_law.specs.Runs.{AreRuns, Before, minutes_of}
use Rattle.tacho_law.proofs.DrivingLemmas.{driving_minute_only}
use Rattle.tacho_periods.proofs.RunsLemmas.{no_run}
use Rattle.tacho_evidence.specs.declared.driven.DrivenSpan.{DrivenSpan}
use Rattle.tacho_evidence.specs.declared.line.EvidenceLine.{EvidenceLine}
use Rattle.tacho_evidence.specs.declared.line.EvidenceLine.TheVariants.{Break}
use Rattle.tacho_evidence.specs.Driven.{AreDriven, IsAboveByTotals, with_totals}
use Rattle.tacho_evidence.specs.Evidence.{AreByTime, IsRestBetween, IsBreakEvidence}
use Rattle.tacho_evidence.proofs.TotalsLemmas.{above_by_totals}
use Rattle.tacho_evidence.proofs.BreakLemmas.{Front, front_of, first_drive}

-- the n-th break begins after the moment, and the one before it not: they are the two around the moment
pub record Around (breaks : List Run) (n : ℕ) (a b : Run) : Type 0 where
  pub some : 0 < n
  pub within : n < length breaks
  pub first : get_or breaks (n - 1) no_run ≡ a
  pub second : get_or breaks n no_run ≡ b

pub around : (breaks : List Run) (m n : ℕ) (a b : Run) → AreRuns breaks → Contains breaks a → Contains breaks b
    → ((x : Run) → Contains breaks x → Before a x → Before x b → ⊥) → a.past ≤ m → m < b.start
    → n ≤ length breaks → All (λ run. run.start ≤ m) (take n breaks) → All (λ run. m < run.start) (drop n breaks) → Around breaks n a b
around breaks m n a b o (i, in', is) (j, jn, js) none ended starts le begun late =
    let s : length (take n breaks) ≡ n = length-take-le n breaks le in
    let l : length (drop n breaks) ≡ length breaks - n = length-drop n breaks in
    let low : i < n = elim (cases_lt i n) [
      | inl lt ↦ lt
      | inr ge ↦ absurd (
          let x : m < (get_or (drop n breaks) (i - n) a).start = late (i - n) a (omega arith) in
          let e : get_or (drop n breaks) (i - n) a ≡ a = get_or-drop n breaks (i - n) a ∙ (ap (λ (y : ℕ). get_or breaks y a) (omega arith) ∙ is) in
          let x' : m < a.start = rw e at x in
          let y : (get_or breaks i a).start < (get_or breaks i a).past = o.some i a in' in
          let y' : a.start < a.past = rw is at y in
          omega arith)
    ] in
    let high : n ≤ j = elim (cases_lt j n) [
      | inr ge ↦ ge
      | inl lt ↦ absurd (
          let x : (get_or (take n breaks) j b).start ≤ m = begun j b (omega arith) in
          let e : get_or (take n breaks) j b ≡ b = get_or-take n breaks j b lt ∙ js in
          let x' : b.start ≤ m = rw e at x in
          omega arith)
    ] in
    let last : n - 1 ≡ i = elim (cases_lt i (n - 1)) [
      | inr ge ↦ omega arith
      | inl lt ↦ absurd (
          let x : Run = get_or breaks (n - 1) a in
          let p : (get_or breaks i a).past < x.start = o.in_order i (n - 1) a lt (omega arith) in
          let p' : a.past < x.start = rw is at p in
          let f : get_or breaks j a ≡ b = get_or_default breaks j a b jn ∙ js in
          let q : x.past < (get_or breaks j a).start = o.in_order (n - 1) j a (omega arith) jn in
          let q' : x.past < b.start = rw f at q in
          none x (Contains-get_or breaks (n - 1) a (omega arith)) p' q')
    ] in
    let next : n ≡ j = elim (cases_lt n j) [
      | inr ge ↦ omega arith
      | inl lt ↦ absurd (
          let x : Run = get_or breaks n a in
          let p : (get_or breaks i a).past < x.start = o.in_order i n a low (omega arith) in
          let p' : a.past < x.start = rw is at p in
          let f : get_or breaks j a ≡ b = get_or_default breaks j a b jn ∙ js in
          let q : x.past < (get_or breaks j a).start = o.in_order n j a lt jn in
          let q' : x.past < b.start = rw f at q in
          none x (Contains-get_or breaks n a (omega arith)) p' q')
    ] in
    record {
      some = omega arith;
      within = omega arith;
      first = ap (λ (y : ℕ). get_or breaks y no_run) last ∙ (get_or_default breaks i no_run a in' ∙ is);
      second = ap (λ (y : ℕ). get_or breaks y no_run) next ∙ (get_or_default breaks j no_run b jn ∙ js);
    }

-- the lines are the evidence
pub break_is : (line : Line) (breaks : List Run) (breach : Breach) (b : IsB1 line breaks breach) (spans : List DrivenSpan) (rests : List Run)
    (middle lines : List EvidenceLine) → AreDriven line b.earlier.past b.later.start spans
    → AreExactly (IsRestBetween line b.earlier b.later) Before rests → AreByTime spans rests middle
    → lines ≡ Break b.earlier ∷ (middle ++ (Break b.later ∷ [])) → IsBreakEvidence line breaks breach lines
break_is line breaks breach b spans rests middle lines driven rested by_time are =
    let from : ℕ = b.earlier.past in
    let to : ℕ = b.later.start in
    let above : IsAboveByTotals driving_before_break spans breach.moment breach.amount =
    (above_by_totals line driving_before_break from to breach.moment breach.amount spans driven).1 b.over in
    let f : Front spans = front_of spans above.before above.span above.after above.parts in
    let since : breach.since ≡ f.front.run.start =
    driving_minute_only line from to 1 breach.since f.front.run.start b.since
    (first_drive line from to spans f.front f.begun driven f.is) in
    record {
      earlier = b.earlier;
      later = b.later;
      first = b.first;
      second = b.second;
      before = b.before;
      between = b.between;
      spans = spans;
      driven = driven;
      above = above;
      begun = f.begun;
      front = f.front;
      since = (f.is, since);
      rests = rests;
      rested = rested;
      middle = middle;
      by_time = by_time;
      lines_are = are;
    }

-- the span at a place has the run at that place
run_at : (d : ℕ) (runs : List Run) (k : ℕ) (e : DrivenSpan) → (get_or (with_totals d runs) k e).run ≡ get_or runs k e.run
run_at d [] k e = refl
run_at d (run ∷ runs) zero e = refl
run_at d (run ∷ runs) (suc k) e = run_at (d + minutes_of run) runs k e

-- there are as many
as_many : (d : ℕ) (runs : List Run) → length (with_totals d runs) ≡ length runs
as_many d [] = refl
as_many d (run ∷ runs) = let e : length (with_totals (d + minutes_of run) runs) ≡ length runs = as_many (d + minutes_of run) runs in omega arith

-- runs with totals are in order of time
totals_rise : (d : ℕ) (runs : List Run) → ((run : Run) → Contains runs run → run.start < run.past) → AllPairs Before runs
    → AllPairs (λ (x y : DrivenSpan). x.run.start ≤ y.run.start) (with_totals d runs)
totals_rise d runs some o i j e lt within =
    let n : length (with_totals d runs) ≡ length runs = as_many d runs in
    let a : (get_or runs i e.run).start < (get_or runs i e.run).past = some (get_or runs i e.run) (Contains-get_or runs i e.run (omega arith)) in
    let b : (get_or runs i e.run).past < (get_or runs j e.run).start = o i j e.run lt (omega arith) in
    rw (run_at d runs i e, run_at d runs j e) (omega arith)

-- the driving spans of a range are in order of time
pub drives_rise : (line : Line) (from to : ℕ) (spans : List DrivenSpan) → AreDriven line from to spans
    → AllPairs (λ (a b : DrivenSpan). a.run.start ≤ b.run.start) spans
drives_rise line from to spans a =
    subst (λ (xs : List DrivenSpan). AllPairs (λ (x y : DrivenSpan). x.run.start ≤ y.run.start) xs) (sym a.totals)
    (totals_rise 0 a.runs (λ run h. ((a.are.each run).0 h).some) a.are.in_order)

-- by the moment of the breach
pub around_breach : (line : Line) (runs breaks : List Run) (breach : Breach) (n m : ℕ) (b : IsB1 line breaks breach) → AreRuns breaks
    → m ≡ breach.moment → n ≤ length breaks → All (λ run. run.start ≤ m) (take n breaks) → All (λ run. m < run.start) (drop n breaks)
    → Around breaks n b.earlier b.later
around_breach line runs breaks breach n m b o e le begun late =
    let low : b.earlier.past ≤ breach.moment = b.over.moment.above in
    let high : breach.moment < b.later.start = b.over.moment.below in
    around breaks m n b.earlier b.later o b.first b.second b.between (omega arith) (omega arith) le begun late

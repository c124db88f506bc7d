-- Each range of a line has a list of its driving spans: it is found minute by minute (`laws::driving_spans_exist`).
use Rattle.std.proofs.Common.{◌≡◌, ◌≢◌, ℕ, zero, suc, ◌+◌, ◌-◌, ◌<◌, ◌≤◌, ◌⊎◌, inl, inr, List, [], ◌∷◌, ◌++◌, refl}
use Rattle.std.proofs.Common.{subst, arith}
use Rattle.std.proofs.lemmas.Bool.{cases_lt}
use Rattle.tacho_time.specs.declared.span.Activity.{Activity}
use Rattle.tacho_time.specs.declared.span.Activity.TheVariants.{Rest, Available, Work, Drive}
use Rattle.tacho_law.specs.declared.run.Run.{Run}
use Rattle.tacho_law.specs.Line.{Line}
use Rattle.tacho_law.proofs.ExactlyLemmas.{exactly_none}
use Rattle.tacho_law.proofs.RunsLemmas.{run_of}
use Rattle.tacho_law.specs.Runs.{Before}
use Rattle.tacho_evidence.specs.declared.driven.DrivenSpan.{DrivenSpan}
use Rattle.tacho_evidence.specs.Driven.{IsDrivingSpan, AreDrivingSpans, with_totals, AreDriven}
use Rattle.tacho_evidence.proofs.DrivenLemmas.{Reached, Closed, reached_none, reached_drive, closed_none, closed_some}
use Rattle.tacho_evidence.proofs.DrivenLemmas.{reached_idle, closed_end}

-- an activity is driving or it isn't
drives_or : (a : Activity) → (a ≡ Drive) ⊎ (a ≢ Drive)
drives_or Drive = inl refl
drives_or Rest = inr (λ e. cc)
drives_or Available = inr (λ e. cc)
drives_or Work = inr (λ e. cc)

-- some list of spans, and the start of the open one, are what is known up to minute p
record Known (line : Line) (from to p : ℕ) : Type 0 where
  pub runs : List Run
  pub start : ℕ
  pub reached : Reached line from to runs start p

-- where the open span ends, or there was none, no span is open
record Stopped (line : Line) (from to p : ℕ) : Type 0 where
  pub runs : List Run
  pub closed : Closed line from to runs p

-- at a minute that isn't driving, or at the range's end, no span is open
stopped : (line : Line) (from to p : ℕ) → Known line from to p → p ≤ to → (p ≡ to) ⊎ (line p ≢ Drive) → Stopped line from to p
stopped line from to p k below last = elim (cases_lt k.start p) [
  | inl some ↦ record {
    runs = k.runs ++ run_of k.start p ∷ [];
    closed = closed_some line from to k.runs k.start p p k.reached some (omega arith) below last;
  }
  | inr none ↦
      let le : k.start ≤ p = k.reached.below in
      let e : k.start ≡ p = omega arith in
      record {
        runs = k.runs;
        closed = subst (λ (x : ℕ). Closed line from to k.runs x) e (closed_none line from to k.runs k.start p k.reached);
      }
]

-- n minutes of the range are known
known : (line : Line) (from to n : ℕ) → from + n ≤ to → Known line from to (from + n)
known line from to zero below =
    let e : from ≡ from + 0 = omega arith in
    subst (λ (x : ℕ). Known line from to x) e
    (record { runs = []; start = from; reached = reached_none line from to from (omega arith) (λ m a b. absurd (omega arith)) })
known line from to (suc n) below =
    let before : Known line from to (from + n) = known line from to n (omega arith) in
    let p : ℕ = from + n in
    let e : p + 1 ≡ from + suc n = omega arith in
    let at : (m : ℕ) → p ≤ m → m < p + 1 → p ≡ m = λ m a b. omega arith in
    subst (λ (x : ℕ). Known line from to x) e
    (elim (drives_or (line p)) [
      | inl d ↦ record {
        runs = before.runs;
        start = before.start;
        reached = reached_drive line from to before.runs before.start p (p + 1) before.reached (omega arith)
            (λ m a b. subst (λ (x : ℕ). line x ≡ Drive) (at m a b) d);
      }
      | inr idle ↦
          let s : Stopped line from to p = stopped line from to p before (omega arith) (inr idle) in
          record {
            runs = s.runs;
            start = p + 1;
            reached = reached_idle line from to s.runs p (p + 1) s.closed (omega arith)
                (λ m a b. subst (λ (x : ℕ). line x ≢ Drive) (at m a b) idle);
          }
    ])

-- a range has a list of driving spans
pub spans_exist : (line : Line) (from to : ℕ) → (runs : List Run) × AreDrivingSpans line from to runs
spans_exist line from to = elim (cases_lt to from) [
  | inl none ↦ (
    [],
    exactly_none (IsDrivingSpan line from to) Before (λ run is.
        let some : run.start < run.past = is.some in
        let above : from ≤ run.start = is.above in
        let below : run.past ≤ to = is.below in
        omega arith),
  )
  | inr some ↦
      let e : from + (to - from) ≡ to = omega arith in
      let k : Known line from to to = subst (λ (x : ℕ). Known line from to x) e (known line from to (to - from) (omega arith)) in
      let s : Stopped line from to to = stopped line from to to k (omega arith) (inl refl) in
      (s.runs, closed_end line from to s.runs to s.closed (λ m a b. absurd (omega arith)))
]

-- likewise with their totals
pub driven_exist : (line : Line) (from to : ℕ) → (spans : List DrivenSpan) × AreDriven line from to spans
driven_exist line from to =
    let (runs, are) = spans_exist line from to in
    (with_totals 0 runs, record { runs = runs; are = are; totals = refl })

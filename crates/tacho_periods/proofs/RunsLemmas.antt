-- The loop over spans (`rest_runs`); rest runs by their places, and which of them are neighbours.
use Rattle.std.proofs.Common.{◌≡◌, ℕ, ◌+◌, ◌<◌, inl, inr, List, ◌∷◌}
use Rattle.std.proofs.Common.{length, get_or, drop, sym, ap, subst, ◌∙◌, arith}
use Rattle.std.specs.List.{Contains}
use Rattle.std.proofs.lemmas.Bool.{cases_lt}
use Rattle.std.proofs.lemmas.List.{drop_more, get_or_default}
use Rattle.std.proofs.lemmas.List.Elements.{Contains-get_or}
use Rattle.tacho_time.specs.declared.span.Span.{Span}
use Rattle.tacho_law.specs.declared.run.Run.{Run}
use Rattle.tacho_law.specs.Line.{Line}
use Rattle.tacho_law.specs.Runs.{IsRestOf, AreRestsOf, AreRuns, Before}
use Rattle.tacho_law.proofs.ExactlyLemmas.{at_index}
use Rattle.tacho_law.proofs.RunsLemmas.{Running}

-- in a loop at index i, with the span s
pub running_here : (spans : List Span) (i : ℕ) (s : Span) (past : ℕ) (runs : List Run) (start : ℕ)
    → i < length spans → s ≡ get_or spans i s → Running spans (drop i spans) past runs start
    → Running spans (s ∷ drop (i + 1) spans) past runs start
running_here spans i s past runs start within is r =
    let e : drop i spans ≡ s ∷ drop (i + 1) spans =
    drop_more spans i s within ∙ ap (λ (x : Span). x ∷ drop (i + 1) spans) (sym is) in
    subst (λ (left : List Span). Running spans left past runs start) e r

-- the rests of at least `least` minutes are runs in order
pub rests_are : (line : Line) (least : ℕ) (rests : List Run) → AreRestsOf line least rests → AreRuns rests
rests_are line least rests are = record {
  some = λ k d within. (at_index (IsRestOf line least) Before rests are k d within).rests.some;
  in_order = are.in_order;
}

-- the result of an index past the end of a list of runs
abbrev pub no_run : Run
no_run = record { start = 0; past = 0 }

-- places and neighbours in an ordered list of runs
module _ (runs : List Run) (are : AreRuns runs) where
  -- each run has a place
  place_of_run : (run : Run) → Contains runs run → (i : ℕ) × (i < length runs) × (run ≡ get_or runs i no_run)
  place_of_run run (i, within, e) = (i, within, sym e ∙ get_or_default runs i run no_run within)

  -- a run that starts after another has a later place
  behind : (i k : ℕ) → i < length runs → k < length runs → Before (get_or runs i no_run) (get_or runs k no_run) → i < k
  behind i k within within' before =
      let one : (get_or runs i no_run).start < (get_or runs i no_run).past = are.some i no_run within in
      let two : (get_or runs k no_run).start < (get_or runs k no_run).past = are.some k no_run within' in
      elim (cases_lt i k) [
        | inl lt ↦ lt
        | inr ge ↦ absurd (elim (cases_lt k i) [
          | inl lt ↦
              let b : (get_or runs k no_run).past < (get_or runs i no_run).start = are.in_order k i no_run lt within in
              omega arith
          | inr le ↦
              let e : k ≡ i = omega arith in
              let f : (get_or runs k no_run).start ≡ (get_or runs i no_run).start =
              ap (λ (x : ℕ). (get_or runs x no_run).start) e in
              omega arith
        ])
      ]

  -- no run is between the runs at i and i + 1
  pub none_at_between : (i : ℕ) → i + 1 < length runs → (c : Run) → Contains runs c
      → Before (get_or runs i no_run) c → Before c (get_or runs (i + 1) no_run) → ⊥
  none_at_between i within c in' after before =
      let (k, below, e) = place_of_run c in' in
      let low : i < k = behind i k (omega arith) below (subst (λ (x : Run). Before (get_or runs i no_run) x) e after) in
      let high : k < i + 1 =
      behind k (i + 1) below within (subst (λ (x : Run). Before x (get_or runs (i + 1) no_run)) e before) in
      omega arith

  -- two runs without a run between them are at i and i + 1 for some i
  pub neighbours_at : (a b : Run) → Contains runs a → Contains runs b
      → Before a b → ((c : Run) → Contains runs c → Before a c → Before c b → ⊥)
      → (i : ℕ) × (i + 1 < length runs) × (a ≡ get_or runs i no_run) × (b ≡ get_or runs (i + 1) no_run)
  neighbours_at a b first second before between =
      let (i, in', e) = place_of_run a first in
      let (k, in'', f) = place_of_run b second in
      let low : i < k =
      behind i k in' in''
      (subst (λ (x : Run). Before x (get_or runs k no_run)) e (subst (λ (x : Run). Before a x) f before)) in
      let next : k ≡ i + 1 = elim (cases_lt (i + 1) k) [
        | inl lt ↦ absurd (between (get_or runs (i + 1) no_run) (Contains-get_or runs (i + 1) no_run (omega arith))
            (subst (λ (x : Run). Before x (get_or runs (i + 1) no_run)) (sym e)
            (are.in_order i (i + 1) no_run (omega arith) (omega arith)))
            (subst (λ (x : Run). Before (get_or runs (i + 1) no_run) x)
            (sym f) (are.in_order (i + 1) k no_run lt in'')))
        | inr ge ↦ omega arith
      ] in
      (i, omega arith, e, f ∙ ap (λ (x : ℕ). get_or runs x no_run) next)

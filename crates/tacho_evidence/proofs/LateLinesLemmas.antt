-- The two weekly rests of a late one are neighbours among the weekly rests of a line (`late_lines`).
use Rattle.std.proofs.Common.{◌≡◌, ℕ, ◌+◌, ◌-◌, ◌<◌, ◌≤◌, inl, inr, List, [], ◌∷◌, length, get_or, take, drop, sym, ap, ◌∙◌, arith}
use Rattle.std.specs.List.{All}
use Rattle.std.proofs.lemmas.Bool.{cases_lt}
use Rattle.std.proofs.lemmas.List.{get_or-take, get_or-drop, length-take-le, length-drop}
use Rattle.tacho_law.specs.declared.run.Run.{Run}
use Rattle.tacho_law.specs.declared.breach.Breach.{Breach}
use Rattle.tacho_law.specs.Breaches.{IsB8}
use Rattle.tacho_law.specs.Line.{Line}
use Rattle.tacho_law.specs.Runs.{AreRestsOf, AreRuns}
use Rattle.tacho_periods.proofs.RunsLemmas.{neighbours_at, no_run, rests_are}
use Rattle.tacho_evidence.specs.declared.line.EvidenceLine.TheVariants.{Weekly}
use Rattle.tacho_evidence.specs.Evidence.{IsLateEvidence}

-- of rests in order of time, n end before a minute
module _ (rests : List Run) (are : AreRuns rests) (n minute : ℕ) (ended : All (λ run. run.past < minute) (take n rests))
    (later : All (λ run. minute ≤ run.past) (drop n rests)) (low : n ≤ length rests) where
  -- the rest that ends at that minute isn't among them
  not_sooner : (i : ℕ) → (get_or rests i no_run).past ≡ minute → n ≤ i
  not_sooner i is = elim (cases_lt i n) [
    | inr ge ↦ ge
    | inl lt ↦ absurd (
        let l : length (take n rests) ≡ n = length-take-le n rests low in
        let e : (get_or (take n rests) i no_run).past ≡ (get_or rests i no_run).past =
        ap (λ (x : Run). x.past) (get_or-take n rests i no_run lt) in
        let f : (get_or (take n rests) i no_run).past < minute = ended i no_run (omega arith) in
        omega arith)
  ]

  -- it is the next one
  next_ends : (i : ℕ) → i < length rests → (get_or rests i no_run).past ≡ minute → i ≡ n
  next_ends i within is = elim (cases_lt n i) [
    | inr le ↦ let ge : n ≤ i = not_sooner i is in omega arith
    | inl lt ↦ absurd (
        let l : length (drop n rests) ≡ length rests - n = length-drop n rests in
        let z : n + 0 ≡ n = omega arith in
        let e : (get_or (drop n rests) 0 no_run).past ≡ (get_or rests n no_run).past =
        ap (λ (x : Run). x.past) (get_or-drop n rests 0 no_run) ∙ ap (λ (k : ℕ). (get_or rests k no_run).past) z in
        let f : minute ≤ (get_or (drop n rests) 0 no_run).past = later 0 no_run (omega arith) in
        let o : (get_or rests n no_run).past < (get_or rests i no_run).start = are.in_order n i no_run lt within in
        let some : (get_or rests i no_run).start < (get_or rests i no_run).past = are.some i no_run within in
        omega arith)
  ]

-- of the weekly rests of a line, n end before the range of a late one begins: it is between those at n and n + 1
pub late_at : (line : Line) (weekly : List Run) → AreRestsOf line 1440 weekly → (n minute : ℕ)
    → All (λ run. run.past < minute) (take n weekly) → All (λ run. minute ≤ run.past) (drop n weekly) → n ≤ length weekly
    → (breach : Breach) (h : IsB8 line breach) → minute ≡ breach.since
    → (n + 1 < length weekly) × (get_or weekly n no_run ≡ h.earlier) × (get_or weekly (n + 1) no_run ≡ h.later)
late_at line weekly rests n minute ended later low breach h since =
    let are : AreRuns weekly = rests_are line 1440 weekly rests in
    let (i, within, first, second) = neighbours_at weekly are h.earlier h.later
    ((rests.each h.earlier).1 h.neighbours.first) ((rests.each h.later).1 h.neighbours.second) h.neighbours.before
    (λ c among after before. h.neighbours.between c ((rests.each c).0 among) after before) in
    let same : i ≡ n = next_ends weekly are n minute ended later low i (omega arith)
    (ap (λ (x : Run). x.past) (sym first) ∙ (sym h.since ∙ sym since)) in (
      omega arith,
      ap (λ (k : ℕ). get_or weekly k no_run) (sym same) ∙ sym first,
      ap (λ (k : ℕ). get_or weekly (k + 1) no_run) (sym same) ∙ sym second,
    )

-- two weekly rests that are those of a late one are its evidence
pub late_evidence_of : (line : Line) (breach : Breach) (h : IsB8 line breach) (a b : Run) → a ≡ h.earlier → b ≡ h.later
    → IsLateEvidence line breach (Weekly a ∷ (Weekly b ∷ []))
late_evidence_of line breach h a b e f =
    let moment : breach.moment ≡ h.earlier.past + 8640 = h.moment in
    let late : 0 < breach.amount = h.late in
    let amount : breach.moment + breach.amount ≡ h.later.start = h.amount in
    record {
      earlier = h.earlier;
      later = h.later;
      neighbours = h.neighbours;
      moment = h.moment;
      since = h.since;
      late = omega (arith, moment, late, amount);
      amount = h.amount;
      lines_are = ap (λ (x : Run). Weekly x ∷ (Weekly b ∷ [])) e ∙ ap (λ (x : Run). Weekly h.earlier ∷ (Weekly x ∷ [])) f;
    }

-- The rests that have a minute in a range are a contiguous part of their list (`touching`).
use Rattle.std.proofs.Common.{◌≡◌, ℕ, ◌+◌, ◌-◌, ◌<◌, ◌≤◌, inl, inr, List, length, get_or}
use Rattle.std.proofs.Common.{take, drop, true, false, sym, ap, subst, ◌∙◌, arith}
use Rattle.std.specs.Prelude.{◌↔◌}
use Rattle.std.specs.List.{Contains}
use Rattle.std.specs.List.Sorted.{IsPartitionPoint}
use Rattle.std.proofs.Math.Dec.{ltb}
use Rattle.std.proofs.lemmas.Bool.{cases_lt, ltb-true, ltb-false, leb-true, leb-false}
use Rattle.std.proofs.lemmas.List.{get_or_default, get_or-take, get_or-drop, length-take-le, length-drop}
use Rattle.std.proofs.lemmas.List.Elements.{Contains-get_or}
use Rattle.tacho_law.specs.declared.run.Run.{Run}
use Rattle.tacho_periods.proofs.RunsLemmas.{no_run}
use Rattle.tacho_periods.proofs.DaysLemmas.{HaveEnded}
use Rattle.tacho_periods.specs.Rests.{AreInTime}

-- the first n rests start before a minute, and the others don't
abbrev pub HaveStarted : List Run → ℕ → ℕ → Type 0
HaveStarted rests minute n =
    IsPartitionPoint (λ (s : Run). ltb s.start minute ≡ true) (λ (s : Run). ltb s.start minute ≡ false) rests n

module _ (rests : List Run) (x : AreInTime rests) (from to first past : ℕ) (range : from ≤ to)
    (ended : HaveEnded rests from first) (started : HaveStarted rests to past)
    (bound : first ≤ length rests) (bound' : past ≤ length rests) where
  -- the rests that have ended by `from` have started before `to`
  pub in_range : first ≤ past
  in_range = elim (cases_lt past first) [
    | inl lt ↦ absurd (
        let a : (get_or rests past no_run).past ≤ from =
        leb-true (get_or rests past no_run).past from (ended.0 past no_run (omega arith) lt) in
        let b : to ≤ (get_or rests past no_run).start =
        ltb-false (get_or rests past no_run).start to (started.1 past no_run (omega arith) (omega arith)) in
        let c : (get_or rests past no_run).start < (get_or rests past no_run).past = x.some past no_run (omega arith) in
        omega arith)
    | inr ge ↦ ge
  ]

  -- the length of the part
  part_length : length (take (past - first) (drop first rests)) ≡ past - first
  part_length =
      let l : length (drop first rests) ≡ length rests - first = length-drop first rests in
      length-take-le (past - first) (drop first rests) (omega arith)

  -- the rest at a place of the part
  part_at : (k : ℕ) (d : Run) → k < past - first
      → get_or (take (past - first) (drop first rests)) k d ≡ get_or rests (first + k) d
  part_at k d within = get_or-take (past - first) (drop first rests) k d within ∙ get_or-drop first rests k d

  -- each rest of the part has a minute in the range
  part_to : (run : Run) → Contains (take (past - first) (drop first rests)) run
      → Contains rests run × (run.start < to) × (from < run.past)
  part_to run (k, within, is) =
      let l : length (take (past - first) (drop first rests)) ≡ past - first = part_length in
      let low : first ≤ past = in_range in
      let e : get_or rests (first + k) no_run ≡ run =
      get_or_default rests (first + k) no_run run (omega arith) ∙ sym (part_at k run (omega arith)) ∙ is in
      let a : (get_or rests (first + k) no_run).start < to =
      ltb-true (get_or rests (first + k) no_run).start to
      (started.0 (first + k) no_run (omega arith) (omega arith)) in
      let b : from < (get_or rests (first + k) no_run).past =
      leb-false (get_or rests (first + k) no_run).past from
      (ended.1 (first + k) no_run (omega arith) (omega arith)) in
      subst (λ (z : Run). Contains rests z × (z.start < to) × (from < z.past))
      e (Contains-get_or rests (first + k) no_run (omega arith), a, b)

  -- each rest that has a minute in the range is in the part
  part_from : (run : Run) → Contains rests run → run.start < to
      → from < run.past → Contains (take (past - first) (drop first rests)) run
  part_from run (i, within, is) early late =
      let e : get_or rests i no_run ≡ run = get_or_default rests i no_run run within ∙ is in
      let s : (get_or rests i no_run).start ≡ run.start = ap (λ (z : Run). z.start) e in
      let p : (get_or rests i no_run).past ≡ run.past = ap (λ (z : Run). z.past) e in
      let low : first ≤ i = elim (cases_lt i first) [
        | inl lt ↦ absurd (
            let a : (get_or rests i no_run).past ≤ from =
            leb-true (get_or rests i no_run).past from (ended.0 i no_run (omega arith) lt) in
            omega arith)
        | inr ge ↦ ge
      ] in
      let high : i < past = elim (cases_lt i past) [
        | inl lt ↦ lt
        | inr ge ↦ absurd (
            let a : to ≤ (get_or rests i no_run).start =
            ltb-false (get_or rests i no_run).start to (started.1 i no_run ge within) in
            omega arith)
      ] in
      let l : length (take (past - first) (drop first rests)) ≡ past - first = part_length in
      let back : first + (i - first) ≡ i = omega arith in
      let f : get_or (take (past - first) (drop first rests)) (i - first) run ≡ run =
      part_at (i - first) run (omega arith) ∙ ap (λ (n : ℕ). get_or rests n run) back ∙ is in
      (i - first, omega arith, f)

  -- so the part is the rests that have a minute in the range
  pub part_each : (run : Run)
      → Contains (take (past - first) (drop first rests)) run
      ↔ (Contains rests run × (run.start < to) × (from < run.past))
  part_each run = (λ h. part_to run h, λ h. part_from run h.0 h.1 h.2)

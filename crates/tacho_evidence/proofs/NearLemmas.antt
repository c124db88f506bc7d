-- What is near a breach is a part of an ordered list: the days that begin or end in a range (`begun_within`, `ended_within`), and the rests
-- with a minute in one. Also the rest runs of an examined line.
use Rattle.std.proofs.Common.{◌≡◌, ℕ, ◌+◌, ◌-◌, ◌<◌, ◌≤◌, inl, inr, List, length, get_or, take, drop, Bool, true, false}
use Rattle.std.proofs.Common.{sym, subst, ◌∙◌, arith}
use Rattle.std.specs.Prelude.{◌↔◌}
use Rattle.std.specs.List.{AllPairs, Contains}
use Rattle.std.specs.List.Sorted.{IsPartitionPoint}
use Rattle.std.proofs.lemmas.Bool.{cases_lt}
use Rattle.std.proofs.lemmas.List.{get_or-take, get_or-drop, length-take-le, length-drop}
use Rattle.std.proofs.lemmas.List.Elements.{All-contains, Contains-get_or}
use Rattle.tacho_time.specs.declared.span.Span.{Span}
use Rattle.tacho_law.specs.declared.run.Run.{Run}
use Rattle.tacho_law.specs.declared.days.DutyDay.{DutyDay}
use Rattle.tacho_law.specs.Days.{EarlierDay}
use Rattle.tacho_law.specs.Line.{line_of, IsExamined}
use Rattle.tacho_law.specs.Runs.{AreRestRuns, AreRuns, Before}
use Rattle.tacho_pass.proofs.HearingLemmas.{line_runs}
use Rattle.tacho_evidence.specs.DaysInTime.{AreInTime, IsInTime}

-- the things of a list from the first that isn't low up to the last that isn't high
module _ {A : Type 0} (xs : List A) (low below : A → Bool) (first past : ℕ) (d : A)
    (found : IsPartitionPoint (λ (x : A). low x ≡ true) (λ (x : A). low x ≡ false) xs first)
    (found' : IsPartitionPoint (λ (x : A). below x ≡ true) (λ (x : A). below x ≡ false) xs past)
    (bound : first ≤ length xs) (bound' : past ≤ length xs) (nested : (x : A) → low x ≡ true → below x ≡ true) where
  -- the part isn't inside out
  pub in_range : first ≤ past
  in_range = elim (cases_lt past first) [
    | inl lt ↦ absurd (
        let a : below (get_or xs past d) ≡ true = nested (get_or xs past d) (found.0 past d (omega arith) lt) in
        let b : below (get_or xs past d) ≡ false = found'.1 past d (omega arith) (omega arith) in
        cc)
    | inr ge ↦ ge
  ]

  -- the length of the part
  part_length : length (take (past - first) (drop first xs)) ≡ past - first
  part_length =
      let l : length (drop first xs) ≡ length xs - first = length-drop first xs in
      length-take-le (past - first) (drop first xs) (omega arith)

  -- the thing at a place of the part
  part_at : (k : ℕ) (e : A) → k < past - first → get_or (take (past - first) (drop first xs)) k e ≡ get_or xs (first + k) e
  part_at k e within = get_or-take (past - first) (drop first xs) k e within ∙ get_or-drop first xs k e

  -- each thing of the part is so
  part_to : (x : A) → Contains (take (past - first) (drop first xs)) x
      → Contains xs x × (low x ≡ false) × (below x ≡ true)
  part_to x (k, within, is) =
      let l : length (take (past - first) (drop first xs)) ≡ past - first = part_length in
      let e : get_or xs (first + k) x ≡ x = sym (part_at k x (omega arith)) ∙ is in
      subst (λ (z : A). Contains xs z × (low z ≡ false) × (below z ≡ true)) e (
        Contains-get_or xs (first + k) x (omega arith),
        found.1 (first + k) x (omega arith) (omega arith),
        found'.0 (first + k) x (omega arith) (omega arith),
      )

  -- each thing that is so is in the part
  part_from : (x : A) → Contains xs x → low x ≡ false → below x ≡ true → Contains (take (past - first) (drop first xs)) x
  part_from x (i, within, is) above under =
      let from : first ≤ i = elim (cases_lt i first) [
        | inl lt ↦ absurd (
            let a : low x ≡ true = subst (λ (z : A). low z ≡ true) is (found.0 i x (omega arith) lt) in
            cc)
        | inr ge ↦ ge
      ] in
      let until : i < past = elim (cases_lt i past) [
        | inl lt ↦ lt
        | inr ge ↦ absurd (
            let a : below x ≡ false = subst (λ (z : A). below z ≡ false) is (found'.1 i x ge within) in
            cc)
      ] in
      let l : length (take (past - first) (drop first xs)) ≡ past - first = part_length in
      let back : first + (i - first) ≡ i = omega arith in (
        i - first,
        omega arith,
        part_at (i - first) x (omega arith) ∙ subst (λ (n : ℕ). get_or xs n x ≡ x) (sym back) is,
      )

  -- so the part is what is so
  pub part_each : (x : A) → Contains (take (past - first) (drop first xs)) x
      ↔ (Contains xs x × (low x ≡ false) × (below x ≡ true))
  part_each x = (λ h. part_to x h, λ h. part_from x h.0 h.1 h.2)

  -- and it is in the same order
  pub part_in_order : (R : A → A → Type 0) → AllPairs R xs → AllPairs R (take (past - first) (drop first xs))
  part_in_order R order i k e lt within =
      let l : length (take (past - first) (drop first xs)) ≡ past - first = part_length in
      rw (part_at i e (omega arith), part_at k e (omega arith))
      (order (first + i) (first + k) e (omega arith) (omega arith))

-- days in time end one after another
pub ends_rise : (days : List DutyDay) → AreInTime days → AllPairs (λ (a b : DutyDay). a.past < b.past) days
ends_rise days are i k d lt within =
    let s : IsInTime (get_or days i d) = are.each i d (omega arith) in
    let t : IsInTime (get_or days k d) = are.each k d within in
    let a : (get_or days i d).past ≡ (get_or days i d).rest.start = s.rests in
    let b : (get_or days i d).rest.start < (get_or days i d).rest.past = s.rested in
    let c : (get_or days k d).start < (get_or days k d).past = t.some in
    let e : (get_or days i d).rest.past ≤ (get_or days k d).start = are.in_order i k d lt within in
    omega arith

-- some of the days in time are in time
pub days_near_in_time : (days part : List DutyDay) → AreInTime days → ((day : DutyDay) → Contains part day → Contains days day)
    → AllPairs EarlierDay part → AreInTime part
days_near_in_time days part are among order = record {
  each = λ k d within.
      All-contains IsInTime days (get_or part k d) are.each (among (get_or part k d) (Contains-get_or part k d within));
  in_order = order;
}

-- some of the runs are runs in order
pub runs_near_are : (runs part : List Run) → AreRuns runs → ((run : Run) → Contains part run → Contains runs run)
    → AllPairs Before part → AreRuns part
runs_near_are runs part are among order = record {
  some = λ k d within.
      All-contains (λ (run : Run). run.start < run.past) runs (get_or part k d) are.some
      (among (get_or part k d) (Contains-get_or part k d within));
  in_order = order;
}

-- an examined line has a list of rest runs
pub examined_runs : (spans : List Span) (base past : ℕ) → IsExamined spans base past
    → (runs : List Run) × AreRestRuns (line_of spans) runs
examined_runs spans base past x =
    let within : past ≤ 68374080 = x.within in
    line_runs spans past (omega (arith, within)) base x.joined

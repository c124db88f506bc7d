-- Duty days are between neighbouring rests of nine hours (`long_rests`, `duty_days`); which rests of three hours are within a duty day
-- (`has_run_between`).
use Rattle.std.proofs.Common.{◌≡◌, ℕ, ◌+◌, ◌-◌, ◌<◌, ◌≤◌, ◌⊎◌, inl, inr, List, [], ◌∷◌, ◌++◌, length}
use Rattle.std.proofs.Common.{get_or, length-append, true, false, refl, sym, ap, subst, ◌∙◌, arith}
use Rattle.std.specs.Prelude.{◌↔◌, IsTrue}
use Rattle.std.specs.List.Sorted.{IsPartitionPoint}
use Rattle.std.proofs.Math.Dec.{leb, ltb}
use Rattle.std.specs.List.{All, AllPairs, Contains}
use Rattle.std.proofs.lemmas.Bool.{cases_lt, ltb-true, ltb-false, leb-true, le-leb}
use Rattle.std.proofs.lemmas.List.{get_or_default, get_or_append_left, get_or_push}
use Rattle.std.proofs.lemmas.List.Elements.{Contains-get_or}
use Rattle.tacho_law.specs.declared.run.Run.{Run}
use Rattle.tacho_law.specs.declared.days.DutyDay.{DutyDay}
use Rattle.tacho_law.specs.Runs.{AreRestRuns, Before, minutes_of, IsRestOf, AreRestsOf, AreNeighbours}
use Rattle.tacho_law.specs.Line.{Line}
use Rattle.tacho_law.specs.Days.{IsDuty}
use Rattle.tacho_periods.specs.DutyDays.{AreDutyDays}
use Rattle.tacho_periods.proofs.KeptLemmas.{AreKept}
use Rattle.tacho_law.proofs.ExactlyLemmas.{at_index}
use Rattle.tacho_periods.proofs.RunsLemmas.{no_run, none_at_between, neighbours_at, rests_are}

-- the result of an index past the end of a list of days
abbrev pub no_day : DutyDay
no_day = record { start = 0; past = 0; rest = no_run }

-- the runs of at least `least` minutes that were kept are the rests of at least `least` minutes
pub rests_of : (line : Line) (runs rests : List Run) (least : ℕ) → AreRestRuns line runs
    → AreKept Run Before (λ run. least ≤ minutes_of run) runs rests → AreRestsOf line least rests
rests_of line runs rests least are kept = record {
  each = λ run. (
    λ h. let k : Contains runs run × (least ≤ minutes_of run) = (kept.each run).0 h in
        record { rests = (are.each run).0 k.0; enough = k.1 },
    λ h. (kept.each run).1 ((are.each run).1 h.rests, h.enough),
  );
  in_order = kept.in_order;
}

-- the duty day between two rests
abbrev pub day_of : Run → Run → DutyDay
day_of last rest = record { start = last.past; past = rest.start; rest = rest }

-- the duty days between the first n rests
pub record DaysBelow (rests : List Run) (n : ℕ) (days : List DutyDay) : Type 0 where
  pub many : length days + 1 ≡ n
  pub within : (n ≡ 1) ⊎ (n ≤ length rests)
  pub each : (k : ℕ) → k + 1 < n → get_or days k no_day ≡ day_of (get_or rests k no_run) (get_or rests (k + 1) no_run)

-- before the second rest there is no day
pub days_none : (rests : List Run) → DaysBelow rests 1 []
days_none rests = record { many = omega arith; within = inl refl; each = λ k below. absurd (omega arith) }

-- one more day
pub days_add : (rests : List Run) (n : ℕ) (days : List DutyDay) → 1 ≤ n → n < length rests
    → DaysBelow rests n days → (last rest : Run) → last ≡ get_or rests (n - 1) last
    → rest ≡ get_or rests n rest → DaysBelow rests (n + 1) (days ++ day_of last rest ∷ [])
days_add rests n days some within r last rest e' f' =
    let new : DutyDay = day_of last rest in
    let is-last : last ≡ get_or rests (n - 1) no_run = e' ∙ get_or_default rests (n - 1) last no_run (omega arith) in
    let is-rest : rest ≡ get_or rests n no_run = f' ∙ get_or_default rests n rest no_run within in
    let is-new : new ≡ day_of (get_or rests (n - 1) no_run) (get_or rests n no_run) =
    ap (λ (x : Run). day_of x rest) is-last ∙ ap (λ (x : Run). day_of (get_or rests (n - 1) no_run) x) is-rest in
    let m : length days + 1 ≡ n = r.many in
    record {
      many = omega (arith, length-append days (new ∷ []));
      within = inr (omega arith);
      each = λ k below. elim (cases_lt (k + 1) n) [
        | inl lt ↦ get_or_append_left days (new ∷ []) no_day k (omega arith) ∙ r.each k lt
        | inr ge ↦
            let e : k ≡ length days = omega arith in
            let f : n - 1 ≡ k = omega arith in
            let g : n ≡ k + 1 = omega arith in
            ap (λ (x : ℕ). get_or (days ++ new ∷ []) x no_day) e
            ∙ (get_or_push days new no_day (length days) refl
            ∙ (is-new
            ∙ (ap (λ (x : ℕ). day_of (get_or rests x no_run) (get_or rests n no_run)) f
            ∙ ap (λ (x : ℕ). day_of (get_or rests k no_run) (get_or rests x no_run)) g)))
      ];
    }

-- neighbours among the rests of at least `least` minutes
module _ (line : Line) (least : ℕ) (rests : List Run) (are : AreRestsOf line least rests) where
  -- the rests at i and i + 1 are neighbours
  pub next_are_neighbours : (i : ℕ) → i + 1 < length rests
      → AreNeighbours line least (get_or rests i no_run) (get_or rests (i + 1) no_run)
  next_are_neighbours i within = record {
    first = at_index (IsRestOf line least) Before rests are i no_run (omega arith);
    second = at_index (IsRestOf line least) Before rests are (i + 1) no_run within;
    before = are.in_order i (i + 1) no_run (omega arith) within;
    between = λ c is after before.
        none_at_between rests (rests_are line least rests are) i within c ((are.each c).1 is) after before;
  }

  -- neighbours are at i and i + 1 for some i
  pub neighbours_are_next : (a b : Run) → AreNeighbours line least a b
      → (i : ℕ) × (i + 1 < length rests) × (a ≡ get_or rests i no_run) × (b ≡ get_or rests (i + 1) no_run)
  neighbours_are_next a b h =
      neighbours_at rests (rests_are line least rests are) a b ((are.each a).1 h.first) ((are.each b).1 h.second)
      h.before (λ c in' after before. h.between c ((are.each c).0 in') after before)

-- a day's members determine it
pub same_day : (day : DutyDay) (last rest : Run) → day.start ≡ last.past
    → day.past ≡ rest.start → day.rest ≡ rest → day ≡ day_of last rest
same_day day last rest e f g =
    let one : ℕ → DutyDay = λ x. record { start = x; past = day.past; rest = day.rest } in
    let two : ℕ → DutyDay = λ x. record { start = last.past; past = x; rest = day.rest } in
    let three : Run → DutyDay = λ x. record { start = last.past; past = rest.start; rest = x } in
    ap one e ∙ (ap two f ∙ ap three g)

module _ (line : Line) (rests : List Run) (are : AreRestsOf line 540 rests) (n : ℕ)
    (days : List DutyDay) (r : DaysBelow rests n days) (most : length rests ≤ n) where
  -- the day at a place is a duty day
  day_at : (k : ℕ) → k < length days → IsDuty line (get_or days k no_day)
  day_at k within =
      let m : length days + 1 ≡ n = r.many in
      let low : k + 1 < length rests = elim r.within [ inl one ↦ absurd (omega arith) | inr le ↦ omega arith ] in
      subst (λ (x : DutyDay). IsDuty line x) (sym (r.each k (omega arith)))
      (record {
        last = get_or rests k no_run;
        neighbours = next_are_neighbours line 540 rests are k low;
        start = refl;
        past = refl;
      })

  -- after the last rest, all days are found
  pub days_all : AreDutyDays line days
  days_all = record {
    each = λ day. (
      λ (k, within, is).
          subst (λ (x : DutyDay). IsDuty line x) (sym (get_or_default days k day no_day within) ∙ is) (day_at k within),
      λ h.
          (let (i, in', e, f) = neighbours_are_next line 540 rests are h.last day.rest h.neighbours in
          let m : length days + 1 ≡ n = r.many in
          let within : i < length days = omega arith in
          let same : day ≡ day_of (get_or rests i no_run) (get_or rests (i + 1) no_run) =
          same_day day (get_or rests i no_run) (get_or rests (i + 1) no_run)
          (h.start ∙ ap (λ (x : Run). x.past) e) (h.past ∙ ap (λ (x : Run). x.start) f) f in
          subst (λ (x : DutyDay). Contains days x) (r.each i (omega arith) ∙ sym same)
          (Contains-get_or days i no_day within)),
    );
    in_order = λ i j d below within.
        (let m : length days + 1 ≡ n = r.many in
        let low : j + 1 < length rests = elim r.within [ inl one ↦ absurd (omega arith) | inr le ↦ omega arith ] in
        let e : get_or days i d ≡ day_of (get_or rests i no_run) (get_or rests (i + 1) no_run) =
        get_or_default days i d no_day (omega arith) ∙ r.each i (omega arith) in
        let f : get_or days j d ≡ day_of (get_or rests j no_run) (get_or rests (j + 1) no_run) =
        get_or_default days j d no_day within ∙ r.each j (omega arith) in
        let e' : (get_or days i d).rest.past ≡ (get_or rests (i + 1) no_run).past =
        ap (λ (x : DutyDay). x.rest.past) e in
        let f' : (get_or days j d).start ≡ (get_or rests j no_run).past = ap (λ (x : DutyDay). x.start) f in
        let c : (get_or rests (i + 1) no_run).past ≤ (get_or rests j no_run).past = elim (cases_lt (i + 1) j) [
          | inl lt ↦
              let o : (get_or rests (i + 1) no_run).past < (get_or rests j no_run).start =
              are.in_order (i + 1) j no_run lt (omega arith) in
              let t : (get_or rests j no_run).start < (get_or rests j no_run).past =
              (at_index (IsRestOf line 540) Before rests are j no_run (omega arith)).rests.some in
              omega arith
          | inr ge ↦
              let same : i + 1 ≡ j = omega arith in
              let p : (get_or rests (i + 1) no_run).past ≡ (get_or rests j no_run).past =
              ap (λ (x : ℕ). (get_or rests x no_run).past) same in
              omega arith
        ] in
        omega arith);
  }

-- the first n runs have ended by a minute, and the others have not
abbrev pub HaveEnded : List Run → ℕ → ℕ → Type 0
HaveEnded runs minute n =
    IsPartitionPoint (λ (x : Run). leb x.past minute ≡ true) (λ (x : Run). leb x.past minute ≡ false) runs n

-- in an ordered list, no run starts before an earlier one
pub starts_rise : (runs : List Run) → All (λ (x : Run). x.start < x.past) runs → AllPairs Before runs
    → (i k : ℕ) (d : Run) → i ≤ k → k < length runs → (get_or runs i d).start ≤ (get_or runs k d).start
starts_rise runs some order i k d le within = elim (cases_lt i k) [
  | inl lt ↦
      let a : (get_or runs i d).start < (get_or runs i d).past = some i d (omega arith) in
      let b : (get_or runs i d).past < (get_or runs k d).start = order i k d lt within in
      omega arith
  | inr ge ↦
      let e : i ≡ k = omega arith in
      let f : (get_or runs i d).start ≡ (get_or runs k d).start = ap (λ (x : ℕ). (get_or runs x d).start) e in
      omega arith
]

-- no run ends before an earlier one
pub pasts_rise : (runs : List Run) → All (λ (x : Run). x.start < x.past) runs → AllPairs Before runs
    → (i k : ℕ) (d : Run) → i ≤ k → k < length runs → (get_or runs i d).past ≤ (get_or runs k d).past
pasts_rise runs some order i k d le within = elim (cases_lt i k) [
  | inl lt ↦
      let a : (get_or runs k d).start < (get_or runs k d).past = some k d within in
      let b : (get_or runs i d).past < (get_or runs k d).start = order i k d lt within in
      omega arith
  | inr ge ↦
      let e : i ≡ k = omega arith in
      let f : (get_or runs i d).past ≡ (get_or runs k d).past = ap (λ (x : ℕ). (get_or runs x d).past) e in
      omega arith
]

-- the first n runs start before a minute, and the others don't
abbrev pub IsCut : List Run → ℕ → ℕ → Type 0
IsCut runs from n =
    IsPartitionPoint (λ (x : Run). ltb x.start from ≡ true) (λ (x : Run). ltb x.start from ≡ false) runs n

-- one of the runs is between two minutes
abbrev pub HasBetween : List Run → ℕ → ℕ → Type 0
HasBetween runs from to = (run : Run) × Contains runs run × (from ≤ run.start) × (run.past ≤ to)

-- a run that starts at `from` or later is at the partition point or after it
after_cut : (runs : List Run) (from n k : ℕ) → IsCut runs from n
    → k < length runs → from ≤ (get_or runs k no_run).start → n ≤ k
after_cut runs from n k cut within late = elim (cases_lt k n) [
  | inl lt ↦ absurd (
      let h : (get_or runs k no_run).start < from =
      ltb-true (get_or runs k no_run).start from (cut.0 k no_run (omega arith) lt) in
      omega arith)
  | inr ge ↦ ge
]

-- the run at the partition point is the first that may be between the two minutes
pub first_between : (runs : List Run) → All (λ (x : Run). x.start < x.past) runs
    → AllPairs Before runs → (from to n : ℕ) → IsCut runs from n → n < length runs
    → IsTrue (leb (get_or runs n no_run).past to) ↔ HasBetween runs from to
first_between runs some order from to n cut within = (
  λ h. (
    get_or runs n no_run,
    Contains-get_or runs n no_run within,
    ltb-false (get_or runs n no_run).start from (cut.1 n no_run (omega arith) within),
    leb-true (get_or runs n no_run).past to h,
  ),
  λ (run, (k, in', is), late, early).
      (let e : get_or runs k no_run ≡ run = get_or_default runs k no_run run in' ∙ is in
      let s : (get_or runs k no_run).start ≡ run.start = ap (λ (x : Run). x.start) e in
      let p : (get_or runs k no_run).past ≡ run.past = ap (λ (x : Run). x.past) e in
      let low : n ≤ k = after_cut runs from n k cut in' (omega arith) in
      let rise : (get_or runs n no_run).past ≤ (get_or runs k no_run).past =
      pasts_rise runs some order n k no_run low in' in
      le-leb (get_or runs n no_run).past to (omega arith)),
)

-- if no run is at the partition point, none is between
pub none_between : (runs : List Run) (from to n : ℕ) → IsCut runs from n
    → length runs ≤ n → IsTrue (ltb n (length runs)) ↔ HasBetween runs from to
none_between runs from to n cut none = (
  λ h. absurd (let l : n < length runs = ltb-true n (length runs) h in omega arith),
  λ (run, (k, in', is), late, early).
      (let e : get_or runs k no_run ≡ run = get_or_default runs k no_run run in' ∙ is in
      let s : (get_or runs k no_run).start ≡ run.start = ap (λ (x : Run). x.start) e in
      let low : n ≤ k = after_cut runs from n k cut in' (omega arith) in
      absurd (omega arith)),
)

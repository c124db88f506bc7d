-- Duty days of an examined line are in time and in order; what a binary search by a minute finds among days and runs (`day_from`,
-- `rest_until`).
use Rattle.std.proofs.Common.{◌≡◌, ◌≢◌, ℕ, zero, suc, ◌-◌, ◌<◌, ◌≤◌, inl, inr, List, length, get_or, true, false, ap, arith}
use Rattle.std.proofs.Math.Dec.{ltb}
use Rattle.std.specs.List.{AllPairs, Contains}
use Rattle.std.specs.List.Sorted.{IsPartitionPoint}
use Rattle.std.proofs.lemmas.Bool.{cases_lt, ltb-true, ltb-false}
use Rattle.std.proofs.lemmas.List.{get_or_default}
use Rattle.std.proofs.lemmas.List.Elements.{Contains-get_or}
use Rattle.tacho_time.specs.declared.span.Activity.TheVariants.{Rest}
use Rattle.tacho_time.specs.declared.span.Span.{Span}
use Rattle.tacho_law.specs.declared.run.Run.{Run}
use Rattle.tacho_law.specs.declared.days.DutyDay.{DutyDay}
use Rattle.tacho_law.specs.Days.{IsDuty}
use Rattle.tacho_law.specs.Line.{line_of, IsExamined}
use Rattle.tacho_law.specs.Runs.{AreRuns}
use Rattle.tacho_law.proofs.DrivingLemmas.{line_from_past}
use Rattle.tacho_periods.specs.DutyDays.{AreDutyDays}
use Rattle.tacho_evidence.specs.DaysInTime.{IsInTime, AreInTime}

-- the result of an index past the end of a list of runs
abbrev pub no_run : Run
no_run = record { start = 0; past = 0 }

-- the result of an index past the end of a list of days
abbrev pub no_day : DutyDay
no_day = record { start = 0; past = 0; rest = no_run }

-- a duty day of an examined line is in time
module _ (spans : List Span) (base past : ℕ) (x : IsExamined spans base past) where
  -- minutes that aren't at rest are before the end of 2099
  before_past : (m : ℕ) → line_of spans m ≢ Rest → m < 68374080
  before_past m busy = elim (cases_lt m past) [
    | inl lt ↦ let b : past ≤ 68374080 = x.within in omega arith
    | inr ge ↦ absurd (busy (line_from_past spans base past m x.joined ge))
  ]

  pub duty_in_time : (day : DutyDay) → IsDuty (line_of spans) day → IsInTime day
  duty_in_time day d =
      let before : d.last.past < day.rest.start = d.neighbours.before in
      let s : day.start ≡ d.last.past = d.start in
      let p : day.past ≡ day.rest.start = d.past in
      let some : day.rest.start < day.rest.past = d.neighbours.second.rests.some in
      let ended : day.rest.start ≤ 68374080 = elim d.neighbours.second.rests.from [
        | inl zero' ↦ omega arith
        | inr busy ↦
            let b : day.rest.start - 1 < 68374080 =
            before_past (day.rest.start - 1) (busy (day.rest.start - 1) (omega arith)) in
            omega arith
      ] in
      record { some = omega arith; ended = omega arith; rests = p; rested = some }

  -- so are all
  pub days_in_time : (days : List DutyDay) → AreDutyDays (line_of spans) days → AreInTime days
  days_in_time days are = record {
    each = λ k d within.
        duty_in_time (get_or days k d) ((are.each (get_or days k d)).0 (Contains-get_or days k d within));
    in_order = are.in_order;
  }

-- days in time start one after another
pub starts_rise : (days : List DutyDay) → AreInTime days → AllPairs (λ (a b : DutyDay). a.start < b.start) days
starts_rise days are i k d lt within =
    let t : IsInTime (get_or days i d) = are.each i d (omega arith) in
    let a : (get_or days i d).start < (get_or days i d).past = t.some in
    let b : (get_or days i d).past ≡ (get_or days i d).rest.start = t.rests in
    let c : (get_or days i d).rest.start < (get_or days i d).rest.past = t.rested in
    let e : (get_or days i d).rest.past ≤ (get_or days k d).start = are.in_order i k d lt within in
    omega arith

-- so a day's place isn't greater than its start
pub place_below : (days : List DutyDay) → AreInTime days → (i : ℕ) → i < length days → i ≤ (get_or days i no_day).start
place_below days are zero within = omega arith
place_below days are (suc i) within =
    let below : i ≤ (get_or days i no_day).start = place_below days are i (omega arith) in
    let next : (get_or days i no_day).start < (get_or days (suc i) no_day).start =
    starts_rise days are i (suc i) no_day (omega arith) within in
    omega arith

-- rest runs end one after another
pub pasts_rise : (runs : List Run) → AreRuns runs → AllPairs (λ (a b : Run). a.past < b.past) runs
pasts_rise runs are i k d lt within =
    let a : (get_or runs i d).past < (get_or runs k d).start = are.in_order i k d lt within in
    let b : (get_or runs k d).start < (get_or runs k d).past = are.some k d within in
    omega arith

-- numbers that rise don't fall
pub rise : {A : Type 0} (key : A → ℕ) (xs : List A) → AllPairs (λ (a b : A). key a < key b) xs
    → (i k : ℕ) (d : A) → i ≤ k → k < length xs → key (get_or xs i d) ≤ key (get_or xs k d)
rise key xs order i k d le within = elim (cases_lt i k) [
  | inl lt ↦ let l : key (get_or xs i d) < key (get_or xs k d) = order i k d lt within in omega arith
  | inr ge ↦
      let e : i ≡ k = omega arith in
      let f : key (get_or xs i d) ≡ key (get_or xs k d) = ap (λ (n : ℕ). key (get_or xs n d)) e in
      omega arith
]

-- where numbers rise, and one of them is sought, it is at the partition point
pub place_of_sought : {A : Type 0} (key : A → ℕ) (xs : List A) (n sought : ℕ) → AllPairs (λ (a b : A). key a < key b) xs
    → IsPartitionPoint (λ (x : A). ltb (key x) sought ≡ true) (λ (x : A). ltb (key x) sought ≡ false) xs n
    → (x : A) → Contains xs x → key x ≡ sought → (n < length xs) × ((d : A) → key (get_or xs n d) ≡ sought)
place_of_sought key xs n sought order found x (k, within, is) e =
    let f : key (get_or xs k x) ≡ key x = ap key is in
    let low : n ≤ k = elim (cases_lt k n) [
      | inl lt ↦ absurd (
          let l : key (get_or xs k x) < sought = ltb-true (key (get_or xs k x)) sought (found.0 k x (omega arith) lt) in
          omega arith)
      | inr ge ↦ ge
    ] in (
      omega arith,
      λ d. (
          let g : get_or xs n d ≡ get_or xs n x = get_or_default xs n d x (omega arith) in
          let h : key (get_or xs n d) ≡ key (get_or xs n x) = ap key g in
          let late : sought ≤ key (get_or xs n x) =
          ltb-false (key (get_or xs n x)) sought (found.1 n x (omega arith) (omega arith)) in
          let early : key (get_or xs n x) ≤ key (get_or xs k x) = rise key xs order n k x low within in
          omega arith),
    )

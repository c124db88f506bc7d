-- The last rest of spans (`rest_since`), the last run that has ended (`last_ended`), and how many days have a property (`reduced_since`,
-- `extended_before`).
use Rattle.std.proofs.Common.{◌≡◌, ℕ, zero, suc, ◌+◌, ◌-◌, ◌<◌, ◌≤◌, inl, inr, List, [], ◌∷◌, ◌++◌, length, get_or, take, true, false}
use Rattle.std.proofs.Common.{length-append, None, Some, refl, sym, ap, subst, ◌∙◌, arith}
use Rattle.std.proofs.Math.Dec.{leb}
use Rattle.std.specs.List.{AllPairs, Contains}
use Rattle.std.proofs.lemmas.Bool.{cases_lt, le-leb, leb-true}
use Rattle.std.proofs.lemmas.Bool.Decides.{nat_tests}
use Rattle.std.proofs.lemmas.List.{get_or_default, take_all}
use Rattle.tacho_time.specs.declared.span.Activity.TheVariants.{Rest}
use Rattle.tacho_time.specs.declared.span.Span.{Span}
use Rattle.tacho_law.specs.declared.run.Run.{Run}
use Rattle.tacho_law.specs.declared.days.DutyDay.{DutyDay}
use Rattle.tacho_law.specs.Days.{EarlierDay, IsReduced, HasReducedRest}
use Rattle.tacho_law.specs.Exactly.{HasCount}
use Rattle.tacho_law.specs.Line.{line_of, Joined, Line}
use Rattle.tacho_law.specs.Runs.{AreRuns, AreRestsOf, Before}
use Rattle.tacho_law.proofs.DaysLemmas.{reduced_by_parts}
use Rattle.tacho_law.proofs.ExactlyLemmas.{how_many_as}
use Rattle.tacho_law.proofs.RunsLemmas.{line_within, line_past}
use Rattle.tacho_pass.specs.Heard.{is_rest}
use Rattle.tacho_pass.proofs.HearingLemmas.{rests_yes, rests_no}
use Rattle.tacho_periods.specs.DutyDays.{AreDutyDays}
use Rattle.tacho_periods.proofs.DaysLemmas.{no_day, HaveEnded, starts_rise as runs_rise}
use Rattle.tacho_periods.proofs.DrivingLemmas.{ends_rise}
use Rattle.tacho_periods.proofs.KeptLemmas.{kept_none, kept_add_at, kept_skip_at}
use Rattle.tacho_periods.proofs.RunsLemmas.{no_run}
use Rattle.tacho_ahead.specs.DaysInTime.{AreInTime, IsInTime}
use Rattle.tacho_ahead.specs.Used.{IsRestSince}

-- ---- the last rest

-- spans of rest have a line of rest
rest_all : (spans : List Span) → ((k : ℕ) (d : Span) → k < length spans → is_rest (get_or spans k d).mark.activity ≡ true)
    → (m : ℕ) → line_of spans m ≡ Rest
rest_all [] all m = refl
rest_all (s ∷ spans) all m =
    let e : s.mark.activity ≡ Rest = rests_yes s.mark.activity (all 0 s (omega arith)) in
    let f : line_of spans m ≡ Rest = rest_all spans (λ k d within. all (suc k) d (omega arith)) m in
    grind (arith, nat_tests)

-- if all spans are rest, so is each minute
pub rest_never : (spans : List Span) → ((k : ℕ) (d : Span) → k < length spans → is_rest (get_or spans k d).mark.activity ≡ true)
    → IsRestSince (line_of spans) None
rest_never spans all = rest_all spans all

-- a span of spans that follow one another has minutes, none of them before the first span
begins_at : (spans : List Span) (base past i : ℕ) (d : Span) → Joined spans base past → i < length spans
    → (base ≤ (get_or spans i d).start) × ((get_or spans i d).start < (get_or spans i d).past)
begins_at [] base past i d j within = absurd (omega arith)
begins_at (s ∷ spans) base past zero d j within =
    let e : s.start ≡ base = j.0 in let l : base < s.past = j.1 in (omega arith, omega arith)
begins_at (s ∷ spans) base past (suc i) d j within =
    let t = begins_at spans s.past past i d j.2 (omega arith) in
    let from : s.past ≤ (get_or spans i d).start = t.0 in
    let l : base < s.past = j.1 in
    (omega arith, t.1)

-- its minutes have its activity
within_at : (spans : List Span) (base past i : ℕ) (d : Span) → Joined spans base past → i < length spans
    → (m : ℕ) → (get_or spans i d).start ≤ m → m < (get_or spans i d).past → line_of spans m ≡ (get_or spans i d).mark.activity
within_at [] base past i d j within m above below = absurd (omega arith)
within_at (s ∷ spans) base past zero d j within m above below = line_within s spans m above below
within_at (s ∷ spans) base past (suc i) d j within m above below =
    let from : s.past ≤ (get_or spans i d).start = (begins_at spans s.past past i d j.2 (omega arith)).0 in
    line_past s spans m (omega arith) ∙ within_at spans s.past past i d j.2 (omega arith) m above below

-- if only rest comes after it, each minute after it is at rest
rest_after : (spans : List Span) (base past i : ℕ) (d : Span) → Joined spans base past → i < length spans
    → ((k : ℕ) (d : Span) → i + 1 ≤ k → k < length spans → is_rest (get_or spans k d).mark.activity ≡ true)
    → (m : ℕ) → (get_or spans i d).past ≤ m → line_of spans m ≡ Rest
rest_after [] base past i d j within after m late = absurd (omega arith)
rest_after (s ∷ spans) base past zero d j within after m late =
    line_past s spans m late ∙ rest_all spans (λ k d low. after (suc k) d (omega arith) (omega arith)) m
rest_after (s ∷ spans) base past (suc i) d j within after m late =
    let le : s.past ≤ (get_or spans i d).past = ends_rise (s ∷ spans) base past 0 (suc i) d j (omega arith) within in
    line_past s spans m (omega arith)
    ∙ rest_after spans s.past past i d j.2 (omega arith) (λ k e low below. after (suc k) e (omega arith) (omega arith)) m late

-- the last rest begins where the last span ends that isn't rest
pub rest_from : (spans : List Span) (i : ℕ) (d : Span) → i < length spans → is_rest (get_or spans i d).mark.activity ≡ false
    → ((k : ℕ) (d : Span) → i + 1 ≤ k → k < length spans → is_rest (get_or spans k d).mark.activity ≡ true)
    → (base past : ℕ) → Joined spans base past → IsRestSince (line_of spans) (Some (get_or spans i d).past)
rest_from spans i d within busy after base past j =
    let some : (get_or spans i d).start < (get_or spans i d).past = (begins_at spans base past i d j within).1 in (
      (
        (get_or spans i d).past - 1,
        omega arith,
        λ e. rests_no (get_or spans i d).mark.activity busy
            (sym (within_at spans base past i d j within ((get_or spans i d).past - 1) (omega arith) (omega arith)) ∙ e),
      ),
      rest_after spans base past i d j within after,
    )

-- ---- the last run that has ended

module _ (runs : List Run) (are : AreRuns runs) (minute n : ℕ) (ended : HaveEnded runs minute n)
    (some : (run : Run) × Contains runs run × (run.past ≤ minute)) where
  -- a run that has ended is before the partition point
  early : (k : ℕ) (run : Run) → k < length runs → get_or runs k run ≡ run → run.past ≤ minute → k < n
  early k run within is by = elim (cases_lt k n) [
    | inl lt ↦ lt
    | inr ge ↦ absurd (
        let late = ended.1 k run ge within in
        let late' = subst (λ (x : Run). leb x.past minute ≡ false) is late in
        let e = le-leb run.past minute by in
        cc)
  ]

  -- one has
  pub has_ended : 1 ≤ n
  has_ended =
      let (run, (k, within, is), by) = some in
      let l : k < n = early k run within is by in
      omega arith

  pub last_within : n ≤ length runs → n - 1 < length runs
  last_within bound = let l : 1 ≤ n = has_ended in omega arith

  pub last_has_ended : n ≤ length runs → (get_or runs (n - 1) no_run).past ≤ minute
  last_has_ended bound =
      let l : 1 ≤ n = has_ended in
      leb-true (get_or runs (n - 1) no_run).past minute (ended.0 (n - 1) no_run (omega arith) (omega arith))

  -- and no later one has
  pub last_is_last : n ≤ length runs → (run : Run) → Contains runs run → run.past ≤ minute
      → run.start ≤ (get_or runs (n - 1) no_run).start
  last_is_last bound run (k, within, is) by =
      let l : k < n = early k run within is by in
      let e : get_or runs k no_run ≡ run = get_or_default runs k no_run run within ∙ is in
      let f : (get_or runs k no_run).start ≡ run.start = ap (λ (x : Run). x.start) e in
      let le : (get_or runs k no_run).start ≤ (get_or runs (n - 1) no_run).start =
      runs_rise runs are.some are.in_order k (n - 1) no_run (omega arith) (omega arith) in
      omega arith

-- ---- days are counted

-- n of the first i days have the property
abbrev pub Counted : (DutyDay → Type 0) → List DutyDay → ℕ → ℕ → Type 0
Counted P days i n = HasCount (λ day. Contains (take i days) day × P day) EarlierDay n

module _ (P : DutyDay → Type 0) (days : List DutyDay) where
  pub counted_none : Counted P days 0 0
  counted_none = record { all = []; exactly = kept_none DutyDay EarlierDay P; count = refl }

  -- the next day has it
  pub counted_add : (i n : ℕ) → i < length days → AllPairs EarlierDay days → Counted P days i n → P (get_or days i no_day)
      → Counted P days (i + 1) (n + 1)
  counted_add i n within order c holds = record {
    all = c.all ++ get_or days i no_day ∷ [];
    exactly = kept_add_at DutyDay EarlierDay P days i no_day within order c.all c.exactly holds;
    count = (
        let l : length c.all ≡ n = c.count in
        omega (arith, length-append c.all (get_or days i no_day ∷ []), l));
  }

  -- it doesn't
  pub counted_skip : (i n : ℕ) → i < length days → AllPairs EarlierDay days → Counted P days i n → (P (get_or days i no_day) → ⊥)
      → Counted P days (i + 1) n
  counted_skip i n within order c fails = record {
    all = c.all;
    exactly = kept_skip_at DutyDay EarlierDay P days i no_day within order c.all c.exactly fails;
    count = c.count;
  }

  -- after the last day
  pub counted_all : (i n : ℕ) → length days ≤ i → Counted P days i n → HasCount (λ day. Contains days day × P day) EarlierDay n
  counted_all i n over c =
      subst (λ (seen : List DutyDay). HasCount (λ day. Contains seen day × P day) EarlierDay n) (take_all i days over) c

-- days in time start one after another
starts_rise : (days : List DutyDay) → AreInTime days → AllPairs (λ (a b : DutyDay). a.start < b.start) days
starts_rise days are i k d lt within =
    let t : IsInTime (get_or days i d) = are.each i d (omega arith) in
    let a : (get_or days i d).start < (get_or days i d).past = t.some in
    let b : (get_or days i d).past ≡ (get_or days i d).rest.start = t.rests in
    let c : (get_or days i d).rest.start < (get_or days i d).rest.past = t.rested in
    let e : (get_or days i d).rest.past ≤ (get_or days k d).start = are.in_order i k d lt within in
    omega arith

-- so a day's place isn't greater than its start
place_below : (days : List DutyDay) → AreInTime days → (i : ℕ) → i < length days → i ≤ (get_or days i no_day).start
place_below days are zero within = omega arith
place_below days are (suc i) within =
    let below : i ≤ (get_or days i no_day).start = place_below days are i (omega arith) in
    let next : (get_or days i no_day).start < (get_or days (suc i) no_day).start =
    starts_rise days are i (suc i) no_day (omega arith) within in
    omega arith

-- and is in range
pub place_in_range : (days : List DutyDay) → AreInTime days → (i : ℕ) → i < length days → i < 68374080
place_in_range days are i within =
    let low : i ≤ (get_or days i no_day).start = place_below days are i within in
    let t : IsInTime (get_or days i no_day) = are.each i no_day within in
    let a : (get_or days i no_day).start < (get_or days i no_day).past = t.some in
    let b : (get_or days i no_day).past ≤ 68374080 = t.ended in
    omega arith

-- the days with a reduced daily rest that doesn't end before a weekly rest
abbrev pub ReducedSince : List Run → Run → DutyDay → Type 0
ReducedSince parts weekly day = (weekly.start ≤ day.rest.past) × HasReducedRest parts day

-- are so by the line
pub reduced_counted : (line : Line) (days : List DutyDay) (parts : List Run) (weekly : Run) (n : ℕ) → AreDutyDays line days
    → AreRestsOf line 180 parts → HasCount (λ day. Contains days day × ReducedSince parts weekly day) EarlierDay n
    → HasCount (λ day. IsReduced line day × (Before day.rest weekly → ⊥)) EarlierDay n
reduced_counted line days parts weekly n are rests c =
    how_many_as (λ day. Contains days day × ReducedSince parts weekly day) (λ day. IsReduced line day × (Before day.rest weekly → ⊥))
    EarlierDay n
    (λ day. (
      λ h. (
        (reduced_by_parts line parts day rests ((are.each day).0 h.0)).0 h.1.1,
        λ before. let l : weekly.start ≤ day.rest.past = h.1.0 in omega arith,
      ),
      λ h. (
        (are.each day).1 h.0.duty,
        (
          elim (cases_lt day.rest.past weekly.start) [ inl lt ↦ absurd (h.1 lt) | inr ge ↦ ge ],
          (reduced_by_parts line parts day rests h.0.duty).1 h.0,
        ),
      ),
    ))
    c

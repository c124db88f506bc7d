-- The last rest run of an examined line has no end; the line's rests start by the end of 2099 and touch some week (`rests`).
use Rattle.std.proofs.Common.{◌≡◌, ℕ, ◌-◌, ◌<◌, ◌≤◌, inl, inr, List}
use Rattle.std.proofs.Common.{length, get_or, sym, ap, ◌∙◌, arith}
use Rattle.std.proofs.lemmas.Bool.{cases_lt}
use Rattle.std.proofs.lemmas.List.{get_or_default}
use Rattle.std.proofs.lemmas.List.Elements.{Contains-get_or}
use Rattle.tacho_time.specs.declared.span.Span.{Span}
use Rattle.tacho_law.specs.declared.run.Run.{Run}
use Rattle.tacho_law.specs.declared.run.TheConstants.{FAR}
use Rattle.tacho_law.specs.Line.{line_of, IsExamined}
use Rattle.tacho_law.specs.Runs.{IsRestRun, AreRestRuns, AreRestsOf, Before}
use Rattle.tacho_choice.specs.Weeks.{IsInWeeks}
use Rattle.tacho_choice.proofs.SeenLemmas.{in_weeks as weeks_by}
use Rattle.tacho_periods.specs.Rests.{AreInTime}
use Rattle.tacho_law.proofs.ExactlyLemmas.{at_index}
use Rattle.tacho_law.proofs.RunsLemmas.{line_before}
use Rattle.tacho_periods.proofs.RunsLemmas.{rests_are}
use Rattle.tacho_law.proofs.DrivingLemmas.{line_from_past}
use Rattle.tacho_law.proofs.CoveringLemmas.{Covers, covered}
use Rattle.tacho_plain.specs.RestBreaches.{IsLastRun}
use Rattle.tacho_plain.proofs.DayBreachesLemmas.{before_past}

module _ (spans : List Span) (base past : ℕ) (x : IsExamined spans base past) where
  -- a rest run of an examined line starts by the end of 2099
  pub starts_early : (run : Run) → IsRestRun (line_of spans) run → run.start ≤ 68374080
  starts_early run is = elim is.from [
    | inl zero' ↦ omega arith
    | inr busy ↦ elim (cases_lt 68374080 run.start) [
      | inl late ↦ absurd (
          let b : run.start - 1 < 68374080 =
          before_past spans base past x (run.start - 1) (busy (run.start - 1) (omega arith)) in
          omega arith)
      | inr early ↦ early
    ]
  ]

  -- a rest run that goes past the horizon has no end
  no_end : (run : Run) → IsRestRun (line_of spans) run → past < run.past → run.past ≡ FAR
  no_end run is late = elim is.until [
    | inl far ↦ far
    | inr busy ↦ absurd (busy (line_from_past spans base past run.past x.joined (omega arith)))
  ]

  -- there is a rest run without an end
  far_run : (run : Run) × IsRestRun (line_of spans) run × (run.past ≡ FAR)
  far_run =
      let w : past ≤ 68374080 = x.within in
      let c : Covers (line_of spans) past =
      covered (line_of spans) past (omega arith) (line_from_past spans base past past x.joined (omega arith)) in
      (c.run, c.rests, no_end c.run c.rests c.to)

  module _ (runs : List Run) (are : AreRestRuns (line_of spans) runs) where
    -- there is at least one rest run
    pub some_run : 0 < length runs
    some_run = let (run, is, far) = far_run in let (k, within, e) = (are.each run).1 is in omega arith

    -- the last one has no end
    pub last_is_last : (d : Run) → IsLastRun (line_of spans) (get_or runs (length runs - 1) d)
    last_is_last d =
        let (run, is, far) = far_run in
        let (k, within, e) = (are.each run).1 is in
        let at : get_or runs k d ≡ run = get_or_default runs k d run within ∙ e in
        let ends : (get_or runs k d).past ≡ FAR = ap (λ (z : Run). z.past) at ∙ far in
        let last : IsRestRun (line_of spans) (get_or runs (length runs - 1) d) =
        at_index (IsRestRun (line_of spans)) Before runs are (length runs - 1) d (omega arith) in
        let early : (get_or runs (length runs - 1) d).start ≤ 68374080 =
        starts_early (get_or runs (length runs - 1) d) last in
        elim (cases_lt k (length runs - 1)) [
          | inl lt ↦ absurd (
              let b : (get_or runs k d).past < (get_or runs (length runs - 1) d).start =
              are.in_order k (length runs - 1) d lt (omega arith) in
              omega arith)
          | inr ge ↦
              let same : k ≡ length runs - 1 = omega arith in
              record { rests = last; no_end = ap (λ (i : ℕ). (get_or runs i d).past) (sym same) ∙ ends; early = early }
        ]

    -- each weekly rest has a minute in some week, since the line is at rest before its base
    pub in_weeks : IsInWeeks (line_of spans)
    in_weeks =
        let from : 15780960 ≤ base = x.base_is.from in
        weeks_by (line_of spans) runs are (λ m early. line_before spans base past m x.joined (omega arith))

  -- the rests of at least `least` minutes are in time
  pub rests_in_time : (least : ℕ) (rests : List Run) → AreRestsOf (line_of spans) least rests → AreInTime rests
  rests_in_time least rests are = record {
    some = (rests_are (line_of spans) least rests are).some;
    in_order = are.in_order;
    early = λ k d within.
        starts_early (get_or rests k d) ((are.each (get_or rests k d)).0 (Contains-get_or rests k d within)).rests;
  }

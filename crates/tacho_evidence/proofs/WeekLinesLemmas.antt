-- The lines of a week's dates are written one date after another (`append_dates`).
use Rattle.std.proofs.Common.{◌≡◌, ◌≢◌, ℕ, zero, suc, ◌+◌, ◌*◌, ◌<◌, ◌≤◌, ◌==◌, inl, inr, List, [], ◌∷◌, ◌++◌, map, refl, sym, ap, ap₂, subst, ◌∙◌, arith, if◌then◌else◌, true, false, append_assoc, append-nil, get_or, length}
use Rattle.std.specs.List.{All}
use Rattle.std.proofs.lemmas.Bool.{cases_lt, eq-eqb, ne_eqb}
use Rattle.tacho_law.specs.declared.run.Run.{Run}
use Rattle.tacho_law.specs.declared.breach.Breach.{Breach}
use Rattle.tacho_time.specs.Limits.{greatest_minute}
use Rattle.tacho_time.specs.declared.span.Activity.TheVariants.{Rest as AtRest, Drive as AtDrive}
use Rattle.tacho_time.specs.declared.span.Span.{Span}
use Rattle.tacho_law.specs.Breaches.{IsB6, IsB7}
use Rattle.tacho_law.specs.Limits.{latest, driving_in_week, driving_in_two_weeks}
use Rattle.tacho_law.specs.Weeks.{week_start}
use Rattle.tacho_law.specs.Line.{Line, line_of, IsExamined}
use Rattle.tacho_law.specs.Driving.{driving, IsDrivingAbove, IsDrivingMinute}
use Rattle.tacho_law.specs.Runs.{minutes_of}
use Rattle.tacho_law.proofs.DrivingLemmas.{driving_le, line_from_past}
use Rattle.tacho_evidence.specs.declared.driven.DrivenSpan.{DrivenSpan}
use Rattle.tacho_evidence.specs.declared.line.EvidenceLine.{EvidenceLine}
use Rattle.tacho_evidence.specs.declared.line.EvidenceLine.TheVariants.{Date, Week, WeekDrive}
use Rattle.tacho_evidence.specs.Driven.{AreDriven, with_totals, total_of}
use Rattle.tacho_evidence.specs.Evidence.{date_of, date_line, AreDrivenOn, IsWeeklyExcess, IsWeekEvidence, IsTwoWeeksEvidence}
use Rattle.tacho_evidence.specs.Totals.{dates, drives, raised}
use Rattle.tacho_evidence.proofs.TotalsLemmas.{driving_is_total}
use Rattle.tacho_evidence.proofs.WeekLemmas.{excess_has_evidence, from_date, one_list_on, split_at, totals_rise, totals_from}

-- ---- one date

-- a date with driving has a line
pub date_some : (line : Line) (origin date drive total : ℕ) → driving line date (date + 1440) ≡ drive
    → driving line origin (date + 1440) ≡ total → 0 < drive → date_line line origin date ≡ Date date drive total ∷ []
date_some line origin date drive total e f some =
    let n : (driving line date (date + 1440) == 0) ≡ false = ne_eqb (driving line date (date + 1440)) 0 (λ z. omega arith) in
    rw n (ap₂ (λ (x y : ℕ). Date date x y ∷ []) e f)

-- a date without driving has none
pub date_none : (line : Line) (origin date : ℕ) → driving line date (date + 1440) ≡ 0 → date_line line origin date ≡ []
date_none line origin date e =
    let n : (driving line date (date + 1440) == 0) ≡ true = eq-eqb (driving line date (date + 1440)) 0 e in
    rw n refl

-- ---- one date after another

-- after the lines of a date, those of the next dates follow
module _ (line : Line) (origin date : ℕ) (spans : List DrivenSpan) (start n m next : ℕ) (done middle all : List EvidenceLine)
    (count : n ≡ suc m) (step : start + 1440 ≡ next) (is : middle ≡ done ++ date_line line origin start)
    (e : done ++ dates line origin date spans start n ≡ all) where
  -- the lines of the next dates
  others : List EvidenceLine
  others = dates line origin date spans next m

  -- one date
  opened : done ++ (date_line line origin start ++ ((if start == date then drives line origin date spans else []) ++ others)) ≡ all
  unfolding others dates
  opened =
      let f : done ++ dates line origin date spans start n ≡ done ++ dates line origin date spans start (suc m) =
      ap (λ (x : ℕ). done ++ dates line origin date spans start x) count in
      let h : dates line origin date spans next m ≡ dates line origin date spans (start + 1440) m =
      ap (λ (x : ℕ). dates line origin date spans x m) (sym step) in
      ap (λ (xs : List EvidenceLine). done ++ (date_line line origin start ++ ((if start == date then drives line origin date spans else []) ++ xs))) h
      ∙ (sym f ∙ e)

  -- the date with its driving spans
  pub dates_here : (lines : List EvidenceLine) → lines ≡ middle ++ drives line origin date spans → start ≡ date
      → lines ++ dates line origin date spans next m ≡ all
  unfolding others
  dates_here lines more same =
      let t : (start == date) ≡ true = eq-eqb start date same in
      let o : done ++ (date_line line origin start ++ (drives line origin date spans ++ others)) ≡ all = rw t at opened in
      rw (more, is) (simp append_assoc o)

  -- another date
  pub dates_other : (lines : List EvidenceLine) → lines ≡ middle → start ≢ date → lines ++ dates line origin date spans next m ≡ all
  unfolding others
  dates_other lines more other =
      let t : (start == date) ≡ false = ne_eqb start date other in
      let o : done ++ (date_line line origin start ++ others) ≡ all = rw t at opened in
      rw (more, is) (simp append_assoc o)

-- after the last date no line is left
pub dates_end : (line : Line) (origin date start n : ℕ) (spans : List DrivenSpan) (done all : List EvidenceLine) → n ≡ 0
    → done ++ dates line origin date spans start n ≡ all → done ≡ all
unfolding dates
dates_end line origin date start n spans done all none e =
    let f : done ++ dates line origin date spans start n ≡ done ++ [] =
    ap (λ (x : ℕ). done ++ dates line origin date spans start x) none in
    sym (append-nil done) ∙ (sym f ∙ e)

-- ---- totals

-- no total is above the last
totals_below : (d : ℕ) (runs : List Run) (k : ℕ) (e : DrivenSpan) → k < length (with_totals d runs)
    → (get_or (with_totals d runs) k e).total ≤ total_of d (with_totals d runs)
totals_below d [] k e within = absurd (omega arith)
totals_below d (run ∷ runs) zero e within = totals_rise (d + minutes_of run) runs
totals_below d (run ∷ runs) (suc k) e within = totals_below (d + minutes_of run) runs k e (omega arith)

-- nor above the range's end
pub totals_fit : (line : Line) (from to : ℕ) (spans : List DrivenSpan) → AreDriven line from to spans → to ≤ greatest_minute
    → All (λ (span : DrivenSpan). span.total ≤ greatest_minute) spans
totals_fit line from to spans a le =
    let t : total_of 0 spans ≡ total_of 0 (with_totals 0 a.runs) = ap (total_of 0) a.totals in
    let s : driving line from to ≡ total_of 0 spans = driving_is_total line from to spans a in
    let b : driving line from to ≤ to = driving_le line from to in
    subst (λ (xs : List DrivenSpan). All (λ (span : DrivenSpan). span.total ≤ greatest_minute) xs) (sym a.totals)
    (λ k d within. let u : (get_or (with_totals 0 a.runs) k d).total ≤ total_of 0 (with_totals 0 a.runs) = totals_below 0 a.runs k d within in
    omega arith)

-- ---- the excess

-- a date's driving spans, raised by the driving before it
pub driven_on : (line : Line) (origin date : ℕ) (spans : List DrivenSpan) → AreDriven line date (date + 1440) spans
    → AreDrivenOn line origin date (map (raised (driving line origin date)) spans)
driven_on line origin date spans a = record {
  runs = a.runs;
  are = a.are;
  totals = ap (map (raised (driving line origin date))) a.totals ∙ sym (totals_from (driving line origin date) a.runs);
}

-- they show the excess
pub excess_is : (line : Line) (limit origin end : ℕ) (breach : Breach) (spans : List DrivenSpan) → origin ≤ date_of breach.moment
    → AreDriven line (date_of breach.moment) (date_of breach.moment + 1440) spans
    → IsDrivingAbove line limit origin end breach.moment breach.amount → breach.since ≡ origin
    → IsWeeklyExcess line limit origin end breach (map (raised (driving line origin (date_of breach.moment))) spans)
excess_is line limit origin end breach spans from a over since =
    let x = excess_has_evidence line limit origin end breach spans from a over since in
    subst (λ (xs : List DrivenSpan). IsWeeklyExcess line limit origin end breach xs)
    (one_list_on line origin (date_of breach.moment) x.0 (map (raised (driving line origin (date_of breach.moment))) spans) x.1.driven
    (driven_on line origin (date_of breach.moment) spans a))
    x.1

-- a date's driving comes on top of the driving before it
pub total_more : (line : Line) (origin start total drive : ℕ) → origin ≤ start → total ≡ driving line origin start
    → drive ≡ driving line start (start + 1440) → total + drive ≡ driving line origin (start + 1440)
total_more line origin start total drive le e f =
    let s : driving line origin (start + 1440) ≡ driving line origin start + driving line start (start + 1440) =
    split_at line origin start (start + 1440) le (omega arith) in
    omega arith

-- the driving before a minute has a bound
pub total_fits : (line : Line) (origin start total : ℕ) → total ≡ driving line origin start → total ≤ start
total_fits line origin start total e = let b : driving line origin start ≤ start = driving_le line origin start in omega arith

-- ---- the range of an examined line

-- a driving minute is before 2100
pub drives_early : (spans : List Span) (base past from to k m : ℕ) → IsExamined spans base past
    → IsDrivingMinute (line_of spans) from to k m → m < latest
drives_early spans base past from to k m x is = elim (cases_lt m past) [
  | inl lt ↦ let b : past ≤ latest = x.within in omega arith
  | inr ge ↦ absurd (
      let e : line_of spans m ≡ AtRest = line_from_past spans base past m x.joined ge in
      let f : AtRest ≡ AtDrive = sym e ∙ is.drives in
      cc)
]

-- so is the minute's date
pub date_early : (date m : ℕ) → date ≡ date_of m → m < latest → date ≤ latest
date_early date m e early = omega arith

-- ---- the evidence

-- the lines of a week are its evidence
pub week_is : (line : Line) (breach : Breach) (date : ℕ) (spans : List DrivenSpan) (lines : List EvidenceLine) → IsB6 line breach
    → date ≡ date_of breach.moment → AreDriven line date (date + 1440) spans
    → lines ≡ Week breach.since ∷ dates line breach.since date spans breach.since 7 → IsWeekEvidence line breach lines
unfolding dates
week_is line breach date spans lines b at driven are =
    let driven' : AreDriven line (date_of breach.moment) (date_of breach.moment + 1440) spans =
    subst (λ (x : ℕ). AreDriven line x (x + 1440) spans) at driven in
    let text : ℕ → ℕ → List EvidenceLine = λ x y. Week x ∷ dates line x y spans x 7 in
    record {
      week = b.week;
      spans = map (raised (driving line (week_start b.week) (date_of breach.moment))) spans;
      excess = excess_is line driving_in_week (week_start b.week) (week_start (b.week + 1)) breach spans
          (from_date b.week breach.moment b.over.moment.above) driven' b.over b.since;
      lines_are = are ∙ ap₂ text b.since at;
    }

-- the lines of one of two weeks
abbrev pub one_week : Line → ℕ → ℕ → List DrivenSpan → ℕ → List EvidenceLine
one_week line origin date spans w =
    WeekDrive (5760 + 10080 * w) (driving line (5760 + 10080 * w) (5760 + 10080 * (w + 1))) ∷ dates line origin date spans (5760 + 10080 * w) 7

-- the lines of two weeks are their evidence
pub two_weeks_are : (line : Line) (breach : Breach) (date : ℕ) (spans : List DrivenSpan) (lines : List EvidenceLine) (b : IsB7 line breach)
    → (w next : ℕ) → w ≡ b.week → next ≡ w + 1 → date ≡ date_of breach.moment → AreDriven line date (date + 1440) spans
    → lines ≡ one_week line breach.since date spans w ++ one_week line breach.since date spans next → IsTwoWeeksEvidence line breach lines
unfolding dates
two_weeks_are line breach date spans lines b w next is after at driven are =
    let driven' : AreDriven line (date_of breach.moment) (date_of breach.moment + 1440) spans =
    subst (λ (x : ℕ). AreDriven line x (x + 1440) spans) at driven in
    let text : ℕ → ℕ → ℕ → ℕ → List EvidenceLine = λ o x v u. one_week line o x spans v ++ one_week line o x spans u in
    let later : next ≡ b.week + 1 = omega arith in
    record {
      week = b.week;
      spans = map (raised (driving line (week_start b.week) (date_of breach.moment))) spans;
      excess = excess_is line driving_in_two_weeks (week_start b.week) (week_start (b.week + 2)) breach spans
          (from_date b.week breach.moment b.over.moment.above) driven' b.over b.since;
      lines_are = are ∙ (ap₂ (λ (o x : ℕ). text o x w next) b.since at ∙ ap₂ (text (week_start b.week) (date_of breach.moment)) is later);
    }

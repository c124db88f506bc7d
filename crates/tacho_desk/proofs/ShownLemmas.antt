-- The texts of a driver, derived from what was read.
use Rattle.std.proofs.Common.{◌≡◌, ℕ, ◌*◌, ◌≤◌, All, List, [], ◌∷◌, Option, Some, None, Ok, refl, arith, rules}
use Rattle.std.proofs.lemmas.List.Elements.{All-nil, All-cons, All-contains}
use Rattle.std.specs.List.{Contains}
use Rattle.std.specs.Prelude.{IfSome}
use Rattle.tacho_time.specs.Limits.{greatest_minute}
use Rattle.tacho_time.specs.declared.span.Span.{Span}
use Rattle.tacho_line.specs.Line.{AgreeWithin}
use Rattle.tacho_law.specs.Limits.{latest}
use Rattle.tacho_rules.specs.Report.{IsReport}
use Rattle.tacho_rules.specs.declared.report.Report.{Report}
use Rattle.tacho_stretches.specs.Start.{IsEndOfHeld}
use Rattle.tacho_stretches.specs.Stretches.{AreAll, AreStretches, Judged, first_monday}
use Rattle.tacho_state.specs.State.{Driver, held_spans}
use Rattle.tacho_state.specs.Steps.{reading_of}
use Rattle.tacho_sheet.specs.Chart.{IsMonthChart}
use Rattle.tacho_sheet.specs.Form.{IsForm}
use Rattle.tacho_sheet.specs.Reports.{breaches_within, AgreeIn, AreBounds, IsMonthSheet}
use Rattle.tacho_sheet.specs.Why.{AgreeOn, IsMonthWhy}
use Rattle.tacho_sheet.proofs.ChartLemmas.{chart_same}
use Rattle.tacho_sheet.proofs.MarkLemmas.{form_same, month_sheet_same}
use Rattle.tacho_desk.specs.Doing.{IsTextOf}
use Rattle.tacho_desk.specs.Tasks.{IsFormOf, OfReport, OfStretches, cut_at}
use Rattle.tacho_desk.specs.Told.{Long}

-- lines that agree between the bounds of a month agree in the month
pub agree_in : (month start past : ℕ) (a b : List Span) → AreBounds month start past → AgreeWithin start past a b → AgreeIn month a b
agree_in month start past a b bounds e first end others = grind arith

-- a text of a line that has the marks of a month is a text of what the driver holds
module _ (month start past : ℕ) (bounds : AreBounds month start past) where
  -- a sheet of the driver's name, of the line and of the report is the driver's sheet
  pub sheet_of : (n : ℕ) (o : Option Driver) (name : List ℕ) (line : List Span) (report : Report) (text : List ℕ)
      → reading_of (λ d. Ok d.name) o ≡ Ok name → IfSome o (λ d. AgreeWithin start past line (held_spans d))
      → IfSome o (λ d. IsReport (held_spans d) (1440 * d.base) report.horizon report.breaches.items report.debts.items)
      → IsMonthSheet n name line report.breaches.items report.horizon month text
      → IsTextOf (λ d. OfReport (λ breaches debts horizon. IsMonthSheet n d.name (held_spans d) breaches horizon month) d) o (Ok (Long text))
  sheet_of n None name line report text is_name within r is = cc
  sheet_of n (Some d) name line report text is_name within r is = (
    report.horizon,
    report.breaches.items,
    report.debts.items,
    r,
    search (month_sheet_same n d.name line (held_spans d) report.breaches.items report.horizon month text, agree_in, rules),
  )

  -- a chart of the driver's name, of the line and of the stretches is the driver's chart
  pub chart_of : (n : ℕ) (o : Option Driver) (name : List ℕ) (line : List Span) (stretches : List Judged) (text : List ℕ)
      → reading_of (λ d. Ok d.name) o ≡ Ok name → IfSome o (λ d. AgreeWithin start past line (held_spans d))
      → IfSome o (λ d. AreStretches (held_spans d) (1440 * d.base) stretches) → IsMonthChart n name line stretches month text
      → IsTextOf (λ d. OfStretches (λ stretches. IsMonthChart n d.name (held_spans d) stretches month) d) o (Ok (Long text))
  chart_of n None name line stretches text is_name within are is = cc
  chart_of n (Some d) name line stretches text is_name within are is =
      (stretches, are, search (chart_same n d.name line (held_spans d) stretches month text, agree_in, rules))

-- ---- stretches

-- the range for which a form is made goes from the base to the end of what is held
abbrev pub AreEnds : List Judged → ℕ → ℕ → Type 0
AreEnds stretches start past =
    (line : List Span) (base end : ℕ) → AreStretches line base stretches → IsEndOfHeld line base end → (start ≡ base) × (past ≡ end)

-- the form of a driver, as far as a day if there is one
pub form_of : (before : Option ℕ) (o : Option Driver) (stretches : List Judged) (start past : ℕ) (line : List Span) (text : List ℕ)
    → reading_of {A = Unit {0}} (λ d. Ok tt) o ≡ Ok tt → IfSome o (λ d. AreStretches (held_spans d) (1440 * d.base) stretches)
    → AreEnds stretches start past → IfSome o (λ d. AgreeWithin start (cut_at before past) line (held_spans d))
    → IsForm line start (cut_at before past) text → IsTextOf (IsFormOf before) o (Ok (Long text))
form_of before None stretches start past line text there are ends within is = cc
form_of before (Some d) stretches start past line text there are ends within is =
    let both = ends (held_spans d) (1440 * d.base) are.end are are.is_end in
    (are.end, are.is_end, rw (← both.1, ← both.0) (form_same line (held_spans d) start (cut_at before past) text within is))

-- ---- the evidence for a month's breaches

-- each such stretch ends by the end of 2099
abbrev pub EndInTime : List Judged → ℕ → Type 0
EndInTime stretches month =
    (s : Judged) (start past : ℕ) → AreBounds month start past → Contains stretches s → (breaches_within start past s.breaches ≡ [] → ⊥)
    → s.horizon.minute ≤ latest

-- the text is the evidence, if the line agrees with what is held at the minutes of such stretches
abbrev pub IsWhyIf : List Span → List Judged → ℕ → List ℕ → Type 0
IsWhyIf line stretches month text =
    (held : List Span) (end : ℕ) → AreAll held end stretches
    → ((start past : ℕ) → AreBounds month start past → (s : Judged) → Contains stretches s → AgreeOn line held start past s)
    → IsMonthWhy held stretches month text

-- a stretch begins at the base or later
abbrev IsLater : ℕ → Judged → Type 0
IsLater base s = base ≤ s.monday

-- so does each
all_later : (line : List Span) (end base start : ℕ) (xs : List Judged) → first_monday xs ≡ Some start → base ≤ start → AreAll line end xs
    → All (IsLater base) xs
all_later line end base start [] first le all = All-nil (IsLater base)
all_later line end base start (s ∷ []) first le all = All-cons (IsLater base) s [] (grind arith) (All-nil (IsLater base))
all_later line end base start (s ∷ t ∷ xs) first le all =
    let at = all.0.report.is_horizon.from in
    All-cons (IsLater base) s (t ∷ xs) (grind arith) (all_later line end base t.monday (t ∷ xs) refl (grind (arith, at)) all.1)

-- the evidence for the breaches of a driver's month
pub why_of : (month : ℕ) (o : Option Driver) (stretches : List Judged) (line : List Span) (text : List ℕ)
    → reading_of {A = Unit {0}} (λ d. Ok tt) o ≡ Ok tt → IfSome o (λ d. AreStretches (held_spans d) (1440 * d.base) stretches)
    → IfSome o (λ d. AgreeWithin (1440 * d.base) greatest_minute line (held_spans d)) → EndInTime stretches month
    → IsWhyIf line stretches month text → IsTextOf (λ d. OfStretches (λ stretches. IsMonthWhy (held_spans d) stretches month) d) o (Ok (Long text))
why_of month None stretches line text there are held early is = cc
why_of month (Some d) stretches line text there are held early is = (
  stretches,
  are,
  is (held_spans d) are.end are.all (λ start past bounds s among some m inside.
      let end = early s start past bounds among some in
      let base = 1440 * d.base in
      let low = All-contains (IsLater base) stretches s
      (all_later (held_spans d) are.end base base stretches are.first (omega arith) are.all) among in
      held m (omega (arith, low, inside.0), omega (arith, end, inside.1))),
)

-- A month has exactly one text of each kind, and a line exactly one form for gaps.
use Rattle.std.proofs.Common.{◌≡◌, ◌∙◌, ◌*◌, ◌+◌, ℕ, List, ap, arith, sym, subst, codes, flat_map, ◌++◌}
use Rattle.tacho_time.specs.Spans.{GiveSame, IsCanonical, IsCanonicalOf}
use Rattle.tacho_time.specs.declared.span.Mark.{Mark}
use Rattle.tacho_time.specs.declared.span.Span.{Span}
use Rattle.tacho_line.specs.Line.{AreGaps, HoldsWithin}
use Rattle.tacho_line.specs.declared.gap.Gap.{Gap}
use Rattle.tacho_line.specs.declared.horizon.Horizon.{Horizon}
use Rattle.tacho_law.specs.declared.breach.Breach.{Breach}
use Rattle.tacho_sheet.specs.Reports.{AreBounds, IsGapText, IsMonthSheet, IsSpanCsv, csv_text, gap_line, sheet_text}
use Rattle.tacho_stretches.specs.Stretches.{Judged}
use Rattle.tacho_sheet.specs.Months.{month_breaches, incident_row, numbers_of, overview_row, AreIncidentRows, IsOverviewRow}
use Rattle.tacho_sheet.specs.Form.{form_row, AreRows, IsForm}
use Rattle.tacho_sheet.proofs.FormLemmas.{one_rows}

pub same_bounds : (month start past first end : ℕ) → AreBounds month start past → AreBounds month first end → (first ≡ start) × (end ≡ past)
same_bounds month start past first end a b = ((let x = a.first in let y = b.first in cc), (let x = a.end in let y = b.end in cc))

pub one_gap_text : ((line : List Span) (start past : ℕ) (gaps others : List Gap) → AreGaps line start past gaps → AreGaps line start past others → gaps ≡ others)
    → (line : List Span) (month : ℕ) (a b : List ℕ) → IsGapText line month a → IsGapText line month b → a ≡ b
one_gap_text one line month a b x y =
    let same = same_bounds month x.start x.past y.start y.past x.bounds y.bounds in
    let lacking = subst (λ (past : ℕ). AreGaps line x.start past y.gaps) same.1 (subst (λ (start : ℕ). AreGaps line start y.past y.gaps) same.0 y.lacking) in
    x.is ∙ (ap (flat_map gap_line) (one line x.start x.past x.gaps y.gaps x.lacking lacking) ∙ sym y.is)

-- two canonical lists of the same pairs give the same marks
pub give_same : (P : ℕ → Mark → Type 0) (xs ys : List Span) → IsCanonicalOf P xs → IsCanonicalOf P ys → GiveSame xs ys
give_same P xs ys x y m mark = (λ g. (y.same m mark).1 ((x.same m mark).0 g), λ g. (x.same m mark).1 ((y.same m mark).0 g))

pub one_span_csv : ((xs ys : List Span) → IsCanonical xs → IsCanonical ys → GiveSame xs ys → xs ≡ ys)
    → (line : List Span) (month : ℕ) (a b : List ℕ) → IsSpanCsv line month a → IsSpanCsv line month b → a ≡ b
one_span_csv one line month a b x y =
    let same = same_bounds month x.start x.past y.start y.past x.bounds y.bounds in
    let held = subst (λ (past : ℕ). IsCanonicalOf (HoldsWithin line x.start past) y.spans) same.1
    (subst (λ (start : ℕ). IsCanonicalOf (HoldsWithin line start y.past) y.spans) same.0 y.held) in
    let spans = one x.spans y.spans x.held.canonical held.canonical (give_same (HoldsWithin line x.start x.past) x.spans y.spans x.held held) in
    x.is ∙ (ap (λ (spans : List Span). csv_text spans) spans ∙ sym y.is)

pub same_day : (day other days others : ℕ) → 1440 * other ≡ 1440 * day → 1440 * (other + others) ≡ 1440 * (day + days) → (day ≡ other) × (days ≡ others)
same_day day other days others first end = (omega arith, omega arith)

pub one_sheet : (number : ℕ) (name : List ℕ) (line : List Span) (breaches : List Breach) (horizon : Horizon) (month : ℕ) (a b : List ℕ)
    → IsMonthSheet number name line breaches horizon month a → IsMonthSheet number name line breaches horizon month b → a ≡ b
one_sheet number name line breaches horizon month a b x y =
    let bounds = same_bounds month (1440 * x.day) (1440 * (x.day + x.days)) (1440 * y.day) (1440 * (y.day + y.days)) x.bounds y.bounds in
    let same = same_day x.day y.day x.days y.days bounds.0 bounds.1 in
    x.is ∙ (ap (λ (days : ℕ). sheet_text number name line breaches horizon month x.day days) same.1
    ∙ (ap (λ (day : ℕ). sheet_text number name line breaches horizon month day y.days) same.0 ∙ sym y.is))

pub one_overview : (number : ℕ) (name : List ℕ) (line : List Span) (stretches : List Judged) (month : ℕ) (a b : List ℕ)
    → IsOverviewRow number name line stretches month a → IsOverviewRow number name line stretches month b → a ≡ b
one_overview number name line stretches month a b x y =
    let same = same_bounds month x.start x.past y.start y.past x.bounds y.bounds in
    x.is ∙ (ap (λ (past : ℕ). overview_row number name (numbers_of line stretches x.start past)) (sym same.1)
    ∙ (ap (λ (start : ℕ). overview_row number name (numbers_of line stretches start y.past)) (sym same.0) ∙ sym y.is))

pub one_incidents : (number : ℕ) (name : List ℕ) (stretches : List Judged) (month : ℕ) (a b : List ℕ)
    → AreIncidentRows number name stretches month a → AreIncidentRows number name stretches month b → a ≡ b
one_incidents number name stretches month a b x y =
    let same = same_bounds month x.start x.past y.start y.past x.bounds y.bounds in
    x.is ∙ (ap (λ (past : ℕ). flat_map (incident_row number name) (month_breaches x.start past stretches)) (sym same.1)
    ∙ (ap (λ (start : ℕ). flat_map (incident_row number name) (month_breaches start y.past stretches)) (sym same.0) ∙ sym y.is))

pub one_form : ((line : List Span) (start past : ℕ) (gaps others : List Gap) → AreGaps line start past gaps
    → AreGaps line start past others → gaps ≡ others)
    → (line : List Span) (base end : ℕ) (a b : List ℕ) → IsForm line base end a → IsForm line base end b → a ≡ b
one_form one line base end a b x y =
    let gaps : x.gaps ≡ y.gaps = one line base end x.gaps y.gaps x.lacking y.lacking in
    let rows : x.rows ≡ y.rows = one_rows y.gaps x.rows y.rows (subst (λ (g : List Gap). AreRows g x.rows) gaps x.are_rows) y.are_rows in
    x.is ∙ (ap (λ (r : List Gap). codes "start,past,activity,author,note\n" ++ flat_map form_row r) rows ∙ sym y.is)

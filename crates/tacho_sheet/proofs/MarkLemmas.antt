-- The texts of a line depend only on the marks that it gives to the minutes.
use Rattle.std.proofs.Common.{◌≡◌, ℕ, zero, suc, ◌+◌, ◌-◌, ◌*◌, ◌++◌, ◌%◌, Bool, List, [], ◌∷◌, Option, codes, decimal, flat_map, map, refl, sym, ap, ◌∙◌, arith}
use Rattle.tacho_time.specs.declared.span.Mark.{Mark}
use Rattle.tacho_time.specs.declared.span.Span.{Span}
use Rattle.tacho_time.specs.Spans.{IsCanonicalOf}
use Rattle.tacho_time.specs.Text.{day_text, month_text}
use Rattle.tacho_line.specs.declared.gap.Gap.{Gap}
use Rattle.tacho_line.specs.declared.horizon.Horizon.{Horizon}
use Rattle.tacho_line.specs.Line.{mark_at, AgreeWithin, AreGaps, HoldsWithin}
use Rattle.tacho_law.specs.declared.breach.Breach.{Breach}
use Rattle.tacho_stretches.specs.Stretches.{Judged}
use Rattle.tacho_sheet.proofs.AmountLemmas.{count_same}
use Rattle.tacho_sheet.specs.Reports.{amount_text, amounts_text, breach_line, breaches_within, columns, count_from, day_line, day_lines, horizon_line, right_aligned, column_minutes, weekday_name, AgreeIn, IsGapText, IsMonthSheet, IsSpanCsv}
use Rattle.tacho_sheet.specs.Months.{month_breaches, count_of, is_examined, kinds, overview_row, IsOverviewRow}
use Rattle.tacho_sheet.specs.Form.{IsForm}

-- ---- gaps, and spans as CSV

pub gaps_same : (a b : List Span) (start past : ℕ) (gaps : List Gap) → AgreeWithin start past a b
    → AreGaps a start past gaps → AreGaps b start past gaps
gaps_same a b start past gaps e h = record {
  apart = h.apart;
  lacking = λ m. (
    (λ g. let w = (h.lacking m).0 g in (w.0, sym (e m w.0) ∙ w.1)),
    (λ g. (h.lacking m).1 (g.0, e m g.0 ∙ g.1)),
  );
}

pub held_same : (a b : List Span) (start past : ℕ) (spans : List Span) → AgreeWithin start past a b → IsCanonicalOf (HoldsWithin a start past) spans
    → IsCanonicalOf (HoldsWithin b start past) spans
held_same a b start past spans e h = record {
  canonical = h.canonical;
  same = λ m k. (
    (λ g. let w = (h.same m k).0 g in (w.0, sym (e m w.0) ∙ w.1)),
    (λ g. (h.same m k).1 (g.0, e m g.0 ∙ g.1)),
  );
}

pub gap_text_same : (a b : List Span) (month : ℕ) (text : List ℕ) → AgreeIn month a b → IsGapText a month text → IsGapText b month text
gap_text_same a b month text e h = record {
  start = h.start;
  past = h.past;
  bounds = h.bounds;
  gaps = h.gaps;
  lacking = gaps_same a b h.start h.past h.gaps (e h.start h.past h.bounds) h.lacking;
  is = h.is;
}

pub span_csv_same : (a b : List Span) (month : ℕ) (text : List ℕ) → AgreeIn month a b → IsSpanCsv a month text → IsSpanCsv b month text
span_csv_same a b month text e h = record {
  start = h.start;
  past = h.past;
  bounds = h.bounds;
  spans = h.spans;
  held = held_same a b h.start h.past h.spans (e h.start h.past h.bounds) h.held;
  is = h.is;
}

-- ---- the sheet of a month

columns_same : (a b : List Span) (m n : ℕ) (tests : List (Option Mark → Bool)) → AgreeWithin m (m + n) a b
    → flat_map (λ column. right_aligned (amount_text (column_minutes a m n column))) tests
    ≡ flat_map (λ column. right_aligned (amount_text (column_minutes b m n column))) tests
columns_same a b m n [] e = refl
columns_same a b m n (test ∷ tests) e =
    let same : column_minutes a m n test ≡ column_minutes b m n test =
    count_same (λ k. test (mark_at a k)) (λ k. test (mark_at b k)) m n (λ k from to. ap test (e k (from, to))) in
    ap (λ (t : ℕ). right_aligned (amount_text t) ++ flat_map (λ column. right_aligned (amount_text (column_minutes a m n column))) tests) same
    ∙ ap (λ (t : List ℕ). right_aligned (amount_text (column_minutes b m n test)) ++ t) (columns_same a b m n tests e)

amounts_same : (a b : List Span) (m n : ℕ) → AgreeWithin m (m + n) a b → amounts_text a m n ≡ amounts_text b m n
amounts_same a b m n e = columns_same a b m n columns e

day_same : (a b : List Span) (day : ℕ) → AgreeWithin (1440 * day) (1440 * day + 1440) a b → day_line a day ≡ day_line b day
day_same a b day e =
    ap (λ (t : List ℕ). day_text day ++ (codes " " ++ (weekday_name ((day + 3) % 7) ++ (t ++ codes "\n"))))
    (amounts_same a b (1440 * day) 1440 e)

days_same : (a b : List Span) (day n : ℕ) → AgreeWithin (1440 * day) (1440 * (day + n)) a b → day_lines a day n ≡ day_lines b day n
days_same a b day zero e = refl
days_same a b day (suc n) e =
    ap (λ (t : List ℕ). t ++ day_lines a (day + 1) n) (day_same a b day (λ m w. let x = w.0 in let y = w.1 in e m (omega arith, omega arith)))
    ∙ ap (λ (t : List ℕ). day_line b day ++ t) (days_same a b (day + 1) n (λ m w. let x = w.0 in let y = w.1 in e m (omega arith, omega arith)))

-- sheets with equal lines of days and equal sums are equal
abbrev sheet_text : ℕ → List ℕ → List Breach → Horizon → ℕ → ℕ → ℕ → List ℕ → List ℕ → List ℕ
sheet_text number name breaches horizon month start past days sums =
    codes "DRIVER " ++ (decimal number ++ (codes " " ++ (name ++ (codes "\nMONTH " ++ (month_text month
    ++ (codes "\nDATE       DAY   REST  AVAIL   WORK  DRIVE   CREW   NONE\n"
    ++ (days ++ (codes "TOTAL         " ++ (sums ++ (codes "\n"
    ++ (flat_map breach_line (breaches_within start past breaches) ++ horizon_line horizon)))))))))))

pub month_sheet_same : (number : ℕ) (name : List ℕ) (a b : List Span) (breaches : List Breach) (horizon : Horizon)
    (month : ℕ) (text : List ℕ) → AgreeIn month a b → IsMonthSheet number name a breaches horizon month text
    → IsMonthSheet number name b breaches horizon month text
month_sheet_same number name a b breaches horizon month text e h =
    let within : AgreeWithin (1440 * h.day) (1440 * (h.day + h.days)) a b = e (1440 * h.day) (1440 * (h.day + h.days)) h.bounds in
    let total : AgreeWithin (1440 * h.day) (1440 * h.day + 1440 * h.days) a b =
    λ m w. let x = w.0 in let y = w.1 in within m (omega arith, omega arith) in
    let sheet : List ℕ → List ℕ → List ℕ = sheet_text number name breaches horizon month (1440 * h.day) (1440 * (h.day + h.days)) in
    record {
      day = h.day;
      days = h.days;
      bounds = h.bounds;
      is = h.is
          ∙ ap (λ (t : List ℕ). sheet t (amounts_text a (1440 * h.day) (1440 * h.days))) (days_same a b h.day h.days within)
          ∙ ap (λ (t : List ℕ). sheet (day_lines b h.day h.days) t) (amounts_same a b (1440 * h.day) (1440 * h.days) total);
    }

-- ---- the overview of a month, and the form for gaps

counts_same : (a b : List Span) (m n : ℕ) (tests : List (Option Mark → Bool)) → AgreeWithin m (m + n) a b
    → map (column_minutes a m n) tests ≡ map (column_minutes b m n) tests
counts_same a b m n [] e = refl
counts_same a b m n (test ∷ tests) e =
    let same : column_minutes a m n test ≡ column_minutes b m n test =
    count_same (λ k. test (mark_at a k)) (λ k. test (mark_at b k)) m n (λ k from to. ap test (e k (from, to))) in
    ap (λ (t : ℕ). t ∷ map (column_minutes a m n) tests) same
    ∙ ap (λ (t : List ℕ). column_minutes b m n test ∷ t) (counts_same a b m n tests e)

pub overview_same : (number : ℕ) (name : List ℕ) (a b : List Span) (stretches : List Judged) (month : ℕ) (text : List ℕ)
    → AgreeIn month a b → IsOverviewRow number name a stretches month text → IsOverviewRow number name b stretches month text
overview_same number name a b stretches month text e h =
    let n : ℕ = h.past - h.start in
    let agree : AgreeWithin h.start h.past a b = e h.start h.past h.bounds in
    let within : AgreeWithin h.start (h.start + n) a b =
    λ m w. let x = w.0 in let y = w.1 in agree m (x, omega (arith, x, y)) in
    let rest : List ℕ =
    count_from (is_examined stretches) h.start n ∷ map (count_of (month_breaches h.start h.past stretches)) kinds in
    record {
      start = h.start;
      past = h.past;
      bounds = h.bounds;
      is = h.is ∙ ap (λ (t : List ℕ). overview_row number name (t ++ rest)) (counts_same a b h.start n columns within);
    }

pub form_same : (a b : List Span) (base end : ℕ) (text : List ℕ) → AgreeWithin base end a b
    → IsForm a base end text → IsForm b base end text
form_same a b base end text e h = record {
  gaps = h.gaps;
  lacking = gaps_same a b base end h.gaps e h.lacking;
  rows = h.rows;
  are_rows = h.are_rows;
  is = h.is;
}

-- The sheet of a month, piece by piece.
use Rattle.std.proofs.Common.{◌≡◌, ℕ, zero, suc, ◌+◌, ◌-◌, ◌*◌, ◌/◌, ◌≤◌, ◌++◌, ◌*ℤ◌, ℤ, pos, negsuc, List, refl, sym, ap, ◌∙◌, arith, append_assoc, codes, ◌%◌}
use Rattle.std.proofs.lemmas.List.{append-nil}
use Rattle.jiff_core.proofs.SignedLemmas.{signed_arith}
use Rattle.tacho_time.specs.declared.span.Span.{Span}
use Rattle.tacho_time.specs.Text.{day_text}
use Rattle.tacho_sheet.specs.declared.amounts.Amounts.{Amounts}
use Rattle.tacho_sheet.specs.Reports.{amounts_text, day_line, day_lines, weekday_name}
use Rattle.tacho_sheet.specs.Amounts.{AreAmounts, amounts_line, line_of_day}

-- the amounts of minutes, as they are written
pub amounts_written : (line : List Span) (m n : ℕ) (a : Amounts) → AreAmounts line m n a → amounts_line a ≡ amounts_text line m n
amounts_written line m n a h = rw (h.rest, h.available, h.work, h.drive, h.crew, h.lacking) refl

-- the line of a day
day_written : (line : List Span) (day : ℕ) (a : Amounts) → AreAmounts line (1440 * day) 1440 a → line_of_day day a ≡ day_line line day
day_written line day a h = ap (λ (t : List ℕ). day_text day ++ (codes " " ++ (weekday_name ((day + 3) % 7) ++ (t ++ codes "\n")))) (amounts_written line (1440 * day) 1440 a h)

-- the lines of n days, followed by the line of the next day
lines_more : (line : List Span) (day n : ℕ) → day_lines line day (suc n) ≡ day_lines line day n ++ day_line line (day + n)
lines_more line day zero = let e : day ≡ day + zero = omega arith in append-nil (day_line line day) ∙ ap (λ (x : ℕ). day_line line x) e
lines_more line day (suc n) =
    let e : (day + 1) + n ≡ day + suc n = omega arith in
    ap (λ (t : List ℕ). day_line line day ++ t) (lines_more line (day + 1) n ∙ ap (λ (x : ℕ). day_lines line (day + 1) n ++ day_line line x) e)
    ∙ sym (append_assoc (day_line line day) (day_lines line (day + 1) n) (day_line line (day + suc n)))

-- the lines that were written, and one more day
pub days_more : (line : List Span) (first day : ℕ) (t before after : List ℕ) (a : Amounts) → first ≤ day → AreAmounts line (1440 * day) 1440 a
    → before ≡ t ++ day_lines line first (day - first) → after ≡ before ++ line_of_day day a → after ≡ t ++ day_lines line first ((day + 1) - first)
days_more line first day t before after a le h e g =
    let n : ℕ = day - first in
    let k : (day + 1) - first ≡ suc n = omega arith in
    let l : first + n ≡ day = omega arith in
    let more : day_lines line first (suc n) ≡ day_lines line first n ++ day_line line day = lines_more line first n ∙ ap (λ (x : ℕ). day_lines line first n ++ day_line line x) l in
    g ∙ ap (λ (x : List ℕ). before ++ x) (day_written line day a h) ∙ ap (λ (x : List ℕ). x ++ day_line line day) e ∙ append_assoc t (day_lines line first n) (day_line line day)
    ∙ ap (λ (x : List ℕ). t ++ x) (sym more) ∙ ap (λ (x : ℕ). t ++ day_lines line first x) (sym k)

-- a month begins with a day
pub whole_days : (m : ℕ) (z : ℤ) → pos m ≡ pos 1440 *ℤ z → 1440 * (m / 1440) ≡ m
whole_days m (pos n) e = omega (arith, signed_arith, e)
whole_days m (negsuc n) e = omega (arith, signed_arith, e)

-- the sheet is the concatenation of its pieces
pub sheet_pieces : (a b c d e f g days words sums feed breaches end t1 t2 t3 t4 t5 t6 t7 : List ℕ) → t1 ≡ a ++ (b ++ (c ++ (d ++ (e ++ (f ++ g))))) → t2 ≡ t1 ++ days → t3 ≡ t2 ++ words → t4 ≡ t3 ++ sums
    → t5 ≡ t4 ++ feed → t6 ≡ t5 ++ breaches → t7 ≡ t6 ++ end
    → t7 ≡ a ++ (b ++ (c ++ (d ++ (e ++ (f ++ (g ++ (days ++ (words ++ (sums ++ (feed ++ (breaches ++ end)))))))))))
sheet_pieces a b c d e f g days words sums feed breaches end t1 t2 t3 t4 t5 t6 t7 e1 e2 e3 e4 e5 e6 e7 = simp (e7, e6, e5, e4, e3, e2, e1, append_assoc) refl

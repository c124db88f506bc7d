-- The texts of evidence: weeks by their Mondays, and the part of a daily rest (`push_mondays`, `push_reduced`).
use Rattle.std.proofs.Common.{◌≡◌, ◌∙◌, ℕ, zero, suc, ◌+◌, ◌*◌, ◌++◌, List, ap, append_assoc, codes, sym, arith}
use Rattle.std.proofs.lemmas.List.{append-nil}
use Rattle.tacho_sheet.specs.Evidence.{date_text, mondays_text}

-- one more week
after_weeks : (monday n : ℕ) → mondays_text monday (suc n) ≡ mondays_text monday n ++ (codes " " ++ date_text (monday + 10080 * n))
after_weeks monday zero =
    let e : monday ≡ monday + 10080 * 0 = omega arith in
    append-nil (codes " " ++ date_text monday) ∙ ap (λ (m : ℕ). codes " " ++ date_text m) e
after_weeks monday (suc n) =
    let e : (monday + 10080) + 10080 * n ≡ monday + 10080 * suc n = omega arith in
    ap (λ (t : List ℕ). codes " " ++ (date_text monday ++ t))
    (after_weeks (monday + 10080) n ∙ ap (λ (m : ℕ). mondays_text (monday + 10080) n ++ (codes " " ++ date_text m)) e)
    ∙ sym (append_assoc (codes " " ++ date_text monday) (mondays_text (monday + 10080) n) (codes " " ++ date_text (monday + 10080 * suc n)))

pub mondays_more : (monday n : ℕ) → mondays_text monday (n + 1) ≡ mondays_text monday n ++ (codes " " ++ date_text (monday + 10080 * n))
mondays_more monday n = let e : n + 1 ≡ suc n = omega arith in ap (λ (k : ℕ). mondays_text monday k) e ∙ after_weeks monday n

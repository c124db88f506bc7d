use Rattle.std.proofs.Common.{rules, ◌≡◌, ◌+◌, ◌*◌, ◌++◌, codes, decimal, string_bytes, ℕ, List, refl, append_assoc}
use Rattle.tacho_time.specs.Text.{day_text, minute_text}
use Rattle.tacho_sheet.specs.Reports.{paid_text}
use Rattle.tacho_sheet.proofs.TextLemmas.{on_pushed}
use Rattle.tacho_sheet.proofs.reports.push_debt.Goals as goal

-- the pieces of the line, five of them written at once
pieces : (t a b v n x m y d e t1 t2 t3 t4 t5 : List ℕ) → t1 ≡ t ++ a → t2 ≡ t1 ++ b → t3 ≡ t2 ++ (v ++ (n ++ (x ++ (m ++ y)))) → t4 ≡ t3 ++ d → t5 ≡ t4 ++ e
    → t5 ≡ t ++ (a ++ (b ++ (v ++ (n ++ (x ++ (m ++ (y ++ (d ++ e))))))))
pieces t a b v n x m y d e t1 t2 t3 t4 t5 e1 e2 e3 e4 e5 = simp (e5, e4, e3, e2, e1, append_assoc) refl

pub returns : goal.returns
returns c =
    let week = 4 + 7 * c.args.debt.now.week in
    let debt = c.args.debt.now in
    let one : string_bytes c.push_str.new.self ≡ string_bytes c.args.text.now ++ codes "WEEK " = search rules in
    let two : string_bytes c.write_day.new.text ≡ string_bytes c.push_str.new.self ++ day_text week = search rules in
    let three : string_bytes c.write.new.self ≡ string_bytes c.write_day.new.text ++ (codes " owes " ++ (decimal debt.amount ++ (codes " by " ++ (minute_text debt.deadline ++ codes " ")))) = search rules in
    let four : string_bytes c.push_paid.new.text ≡ string_bytes c.write.new.self ++ paid_text c.args.horizon debt.deadline debt.paid_by = search rules in
    on_pushed c.push_str-2.result (string_bytes c.push_paid.new.text ++ codes "\n") (string_bytes c.push_paid.new.text) c.push_str-2.ensures.bytes
    (pieces (string_bytes c.args.text.now) (codes "WEEK ") (day_text week) (codes " owes ") (decimal debt.amount) (codes " by ") (minute_text debt.deadline) (codes " ")
    (paid_text c.args.horizon debt.deadline debt.paid_by) (codes "\n") _ _ _ _ _ one two three four)

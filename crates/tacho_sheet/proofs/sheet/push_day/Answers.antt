use Rattle.std.proofs.Common.{rules, ◌≡◌, ◌+◌, ◌%◌, ◌++◌, ◌∙◌, codes, string_bytes, ℕ, List, ap, refl, append_assoc}
use Rattle.tacho_time.specs.Text.{day_text}
use Rattle.tacho_sheet.specs.Reports.{weekday_name}
use Rattle.tacho_sheet.specs.Amounts.{amounts_line}
use Rattle.tacho_sheet.proofs.sheet.push_day.Goals as goal

pieces : (t a b n s f t1 t2 t3 t4 t5 : List ℕ) → t1 ≡ t ++ a → t2 ≡ t1 ++ b → t3 ≡ t2 ++ n → t4 ≡ t3 ++ s → t5 ≡ t4 ++ f → t5 ≡ t ++ (a ++ (b ++ (n ++ (s ++ f))))
pieces t a b n s f t1 t2 t3 t4 t5 e1 e2 e3 e4 e5 = simp (e5, e4, e3, e2, e1, append_assoc) refl

pub returns : goal.returns
returns c =
    let name : c.name_of_weekday.result.now ≡ weekday_name ((c.args.day + 3) % 7) = c.name_of_weekday.ensures ∙ ap weekday_name c.weekday.ensures in
    let one : string_bytes c.write_day.new.text ≡ string_bytes c.args.text.now ++ day_text c.args.day = search rules in
    let two : string_bytes c.push_str.new.self ≡ string_bytes c.write_day.new.text ++ codes " " = search rules in
    let three : string_bytes c.push_str-2.new.self ≡ string_bytes c.push_str.new.self ++ c.name_of_weekday.result.now = search rules in
    let four : string_bytes c.push_amounts.new.text ≡ string_bytes c.push_str-2.new.self ++ amounts_line c.args.amounts.now = search rules in
    let five : string_bytes c.push_str-3.new.self ≡ string_bytes c.push_amounts.new.text ++ codes "\n" = search rules in
    pieces (string_bytes c.args.text.now) (day_text c.args.day) (codes " ") (weekday_name ((c.args.day + 3) % 7)) (amounts_line c.args.amounts.now) (codes "\n") _ _ _ _ _
    one two (three ∙ ap (λ (x : List ℕ). string_bytes c.push_str.new.self ++ x) name) four five

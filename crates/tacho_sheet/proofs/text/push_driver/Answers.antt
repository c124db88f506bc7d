use Rattle.std.proofs.Common.{rules, ◌≡◌, ◌++◌, codes, decimal, string_bytes, ℕ, List, refl, append_assoc}
use Rattle.std.proofs.lemmas.Result.{on_ok_weaker}
use Rattle.std.specs.List.{flat_map}
use Rattle.tacho_time.specs.Text.{day_text}
use Rattle.tacho_sheet.specs.Lines.{byte_digits}
use Rattle.tacho_sheet.proofs.text.push_driver.Goals as goal

-- the pieces of the line, the last eight written at once
pieces : (t n a h b d e t1 t2 t3 t4 t5 : List ℕ) → t1 ≡ t ++ (n ++ a) → t2 ≡ t1 ++ h → t3 ≡ t2 ++ b → t4 ≡ t3 ++ d → t5 ≡ t4 ++ e
    → t5 ≡ t ++ (n ++ (a ++ (h ++ (b ++ (d ++ e)))))
pieces t n a h b d e t1 t2 t3 t4 t5 e1 e2 e3 e4 e5 = simp (e5, e4, e3, e2, e1, append_assoc) refl

pub returns : goal.returns
returns c =
    let driver = c.args.driver.now in
    let digits = flat_map byte_digits driver.holder.items in
    let last =
    codes " " ++ (decimal driver.downloads ++ (codes " " ++ (decimal driver.entries ++ (codes " " ++ (string_bytes driver.name ++ codes "\n"))))) in
    let one : string_bytes c.write.new.self ≡ string_bytes c.args.text.now ++ (decimal driver.number ++ codes " ") = search rules in
    let two : string_bytes c.push_bytes.new.text ≡ string_bytes c.write.new.self ++ digits = search rules in
    let three : string_bytes c.push_str.new.self ≡ string_bytes c.push_bytes.new.text ++ codes " " = search rules in
    let four : string_bytes c.write_day.new.text ≡ string_bytes c.push_str.new.self ++ day_text driver.base = search rules in
    on_ok_weaker c.writeln.result (λ (e : string_bytes c.writeln.new.self ≡ string_bytes c.write_day.new.text ++ last).
    pieces (string_bytes c.args.text.now) (decimal driver.number) (codes " ") digits (codes " ")
    (day_text driver.base) last _ _ _ _ _ one two three four e) (search rules)

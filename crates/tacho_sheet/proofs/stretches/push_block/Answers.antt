use Rattle.std.proofs.Common.{rules, ◌≡◌, ◌++◌, ◌/◌, codes, string_bytes, ℕ, List, refl, append_assoc}
use Rattle.std.proofs.lemmas.Result.{on_ok_weaker}
use Rattle.tacho_time.specs.Text.{day_text}
use Rattle.tacho_sheet.specs.Stretches.{unseen_line}
use Rattle.tacho_sheet.proofs.stretches.push_block.Goals as goal

pieces : (t a b d r u t1 t2 t3 t4 t5 : List ℕ) → t1 ≡ t ++ a → t2 ≡ t1 ++ b → t3 ≡ t2 ++ d → t4 ≡ t3 ++ r → t5 ≡ t4 ++ u
    → t5 ≡ t ++ (a ++ (b ++ (d ++ (r ++ u))))
pieces t a b d r u t1 t2 t3 t4 t5 e1 e2 e3 e4 e5 = simp (e5, e4, e3, e2, e1, append_assoc) refl

pub returns : goal.returns
returns c =
    let s = c.args.stretch.now in
    let last = unseen_line s.report.horizon.minute s.unseen in
    let one : string_bytes c.push_str.new.self ≡ string_bytes c.args.text.now ++ codes "FROM " = search rules in
    let two : string_bytes c.write_day.new.text ≡ string_bytes c.push_str.new.self ++ day_text (s.monday / 1440) = search rules in
    let three : string_bytes c.push_str-2.new.self ≡ string_bytes c.write_day.new.text ++ codes "\n" = search rules in
    let four : string_bytes c.push_str-3.new.self ≡ string_bytes c.push_str-2.new.self ++ c.args.report.now = search rules in
    on_ok_weaker c.push_unseen.result (λ (e : string_bytes c.push_unseen.new.text ≡ string_bytes c.push_str-3.new.self ++ last).
    pieces (string_bytes c.args.text.now) (codes "FROM ") (day_text (s.monday / 1440)) (codes "\n") c.args.report.now last
    _ _ _ _ _ one two three four e) (search rules)

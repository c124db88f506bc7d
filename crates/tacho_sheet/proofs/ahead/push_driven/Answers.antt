use Rattle.std.proofs.Common.{rules, ◌≡◌, ◌+◌, ◌*◌, ◌++◌, codes, string_bytes, List, ℕ}
use Rattle.std.proofs.lemmas.Result.{on_ok_weaker}
use Rattle.tacho_time.specs.Text.{day_text}
use Rattle.tacho_sheet.specs.Reports.{amount_text}
use Rattle.tacho_sheet.proofs.TextLemmas.{pieces3}
use Rattle.tacho_sheet.proofs.ahead.push_driven.Goals as goal

pub returns : goal.returns
returns c =
    let monday = 4 + 7 * c.args.week in
    let rest : List ℕ = codes " " ++ (amount_text c.args.minutes ++ codes "\n") in
    let one : string_bytes c.push_str.new.self ≡ string_bytes c.args.text.now ++ codes "DRIVEN " = search rules in
    let two : string_bytes c.write_day.new.text ≡ string_bytes c.push_str.new.self ++ day_text monday = search rules in
    on_ok_weaker c.writeln.result (λ (three : string_bytes c.writeln.new.self ≡ string_bytes c.write_day.new.text ++ rest).
    pieces3 (codes "DRIVEN ") (day_text monday) rest (string_bytes c.args.text.now) _ _ _ one two three) c.writeln.ensures.bytes

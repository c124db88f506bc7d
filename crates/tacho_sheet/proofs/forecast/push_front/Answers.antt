use Rattle.std.proofs.Common.{rules, ◌≡◌, ◌/◌, ◌++◌, List, ℕ, codes, decimal, string_bytes}
use Rattle.std.proofs.lemmas.Result.{on_ok_weaker}
use Rattle.tacho_time.specs.Text.{day_text}
use Rattle.tacho_sheet.specs.Cells.{minute_cell}
use Rattle.tacho_sheet.proofs.RowsLemmas.{front_pieces}
use Rattle.tacho_sheet.proofs.forecast.push_front.Goals as goal

pub returns : goal.returns
returns c =
    let number : List ℕ = decimal c.args.driver.now.number in
    let name : List ℕ = string_bytes c.args.driver.now.name in
    let day : List ℕ = day_text (c.args.monday / 1440) in
    let held : List ℕ = minute_cell c.args.held.minute in
    let one : string_bytes c.write.new.self ≡ string_bytes c.args.text.now ++ (number ++ (codes "," ++ (name ++ codes ","))) = search rules in
    let two : string_bytes c.write_day.new.text ≡ string_bytes c.write.new.self ++ day = search rules in
    on_ok_weaker c.write-2.result (λ (three : string_bytes c.write-2.new.self ≡ string_bytes c.write_day.new.text ++ (codes "," ++ held)).
    front_pieces number name day held (string_bytes c.args.text.now) _ _ _ one two three) c.write-2.ensures.bytes

use Rattle.std.proofs.Common.{◌≡◌, ◌++◌, List, ℕ, codes, decimal, map, string_bytes}
use Rattle.std.proofs.lemmas.Result.{on_ok_weaker}
use Rattle.tacho_time.specs.Text.{minute_text}
use Rattle.tacho_ahead.specs.declared.limits.Limits.{Limits}
use Rattle.tacho_ahead.specs.declared.used.Used.{Used}
use Rattle.tacho_ahead.specs.Ahead.{limit_of}
use Rattle.tacho_sheet.specs.Ahead.{limited}
use Rattle.tacho_sheet.specs.Cells.{cells_text, minute_cell}
use Rattle.tacho_sheet.proofs.RowsLemmas.{outlook_pieces}
use Rattle.tacho_sheet.proofs.forecast.push_outlook.Goals as goal

pub returns : goal.returns
returns c =
    let l : Limits = c.args.limits.now in
    let u : Used = c.args.used.now in
    let start : List ℕ = minute_text c.args.start in
    let limits : List (List ℕ) = map (λ kind. minute_cell (limit_of l kind)) limited in
    let used : List ℕ = codes "," ++ (decimal u.reduced ++ (codes "," ++ (decimal u.extended ++ (codes "," ++ (decimal u.driven_before
    ++ (codes "," ++ (decimal u.driven_in_week ++ codes "\n"))))))) in
    let one : string_bytes c.write.new.self ≡ string_bytes c.args.text.now ++ (codes "," ++ start) = c.in_ok-write.ensures.bytes in
    let two : string_bytes c.push_limits.new.text ≡ string_bytes c.write.new.self ++ cells_text limits = c.in_ok-push_limits.ensures in
    on_ok_weaker c.writeln.result (λ (three : string_bytes c.writeln.new.self ≡ string_bytes c.push_limits.new.text ++ used).
    outlook_pieces start limits (decimal u.reduced) (decimal u.extended) (decimal u.driven_before) (decimal u.driven_in_week)
    (string_bytes c.args.text.now) _ _ _ one two three) c.writeln.ensures.bytes

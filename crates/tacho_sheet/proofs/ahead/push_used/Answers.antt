use Rattle.std.proofs.Common.{◌≡◌, ◌+◌, ◌-◌, ◌++◌, ◌∙◌, ap, codes, decimal, string_bytes, ℕ, sym, arith}
use Rattle.std.proofs.lemmas.Result.{on_ok_weaker}
use Rattle.tacho_time.specs.Text.{minute_text}
use Rattle.tacho_ahead.specs.declared.used.Used.{Used}
use Rattle.tacho_law.proofs.MainRestLemmas.{one_week}
use Rattle.tacho_sheet.specs.Ahead.{driven_line, since_text}
use Rattle.tacho_sheet.proofs.AheadLemmas.{used_pieces}
use Rattle.tacho_sheet.proofs.ahead.push_used.Goals as goal

pub returns : goal.returns
returns c =
    let u : Used = c.args.used.now in
    let w : ℕ = c.week_of-week.result in
    let one : string_bytes c.write.new.self
    ≡ string_bytes c.args.text.now
    ++ (codes "START " ++ (minute_text c.args.start ++ (codes "\nREST SINCE " ++ (since_text u.rest_since ++ (codes "\nDAY SINCE "
    ++ (minute_text u.day_since ++ (codes "\nREDUCED " ++ (decimal u.reduced ++ (codes "\nEXTENDED " ++ (decimal u.extended
    ++ codes "\n")))))))))) = c.in_ok-write.ensures.bytes in
    let before : c.new.result ≡ w - 1 = c.new.ensures ∙ ap (λ (n : ℕ). n - 1) c.number.ensures.value in
    let two : string_bytes c.push_driven.new.text ≡ string_bytes c.write.new.self ++ driven_line c.new.result u.driven_before =
    c.in_ok-push_driven.ensures in
    on_ok_weaker c.push_driven-2.result (λ (three : string_bytes c.push_driven-2.new.text
    ≡ string_bytes c.push_driven.new.text ++ driven_line w u.driven_in_week) week here.
    let same : week + 1 ≡ w = one_week (week + 1) w c.args.start here (c.week_of-week.ensures.from, c.week_of-week.ensures.before) in
    let back : c.new.result ≡ week = omega (arith, before, same) in
    used_pieces (codes "START ") (minute_text c.args.start) (codes "\nREST SINCE ") (since_text u.rest_since) (codes "\nDAY SINCE ")
    (minute_text u.day_since) (codes "\nREDUCED ") (decimal u.reduced) (codes "\nEXTENDED ") (decimal u.extended) (codes "\n")
    (driven_line week u.driven_before) (driven_line (week + 1) u.driven_in_week) (string_bytes c.args.text.now) _ _ _
    one
    (two ∙ ap (λ (n : ℕ). string_bytes c.write.new.self ++ driven_line n u.driven_before) back)
    (three ∙ ap (λ (n : ℕ). string_bytes c.push_driven.new.text ++ driven_line n u.driven_in_week) (sym same)))
    c.push_driven-2.ensures

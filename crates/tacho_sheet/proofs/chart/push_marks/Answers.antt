use Rattle.std.proofs.Common.{rules, ◌≡◌, ◌∙◌, ◌<◌, ◌++◌, ap, get_or, string_bytes, length}
use Rattle.tacho_sheet.specs.Chart.{breach_mark}
use Rattle.tacho_sheet.proofs.TextLemmas.{one_more_row}
use Rattle.tacho_sheet.proofs.chart.push_marks.Goals as goal

pub loop-breach-preserved : goal.loop-breach-preserved
loop-breach-preserved c =
    let pushed : string_bytes c.push_mark.new.text ≡ string_bytes c.loop-breach.text ++ breach_mark c.args.first c.breach-item.result = search rules in
    let within : c.loop-breach.breach-index < length c.args.breaches.now = search rules in
    let item : c.breach-item.result ≡ get_or c.args.breaches.now c.loop-breach.breach-index c.breach-item.result = c.breach-item.is in
    one_more_row (breach_mark c.args.first) c.args.breaches.now c.loop-breach.breach-index c.breach-item.result (string_bytes c.args.text.now) (string_bytes c.loop-breach.text) _ within c.loop-breach.invariant
    (pushed ∙ ap (λ e. string_bytes c.loop-breach.text ++ breach_mark c.args.first e) item)

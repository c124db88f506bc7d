use Rattle.std.proofs.Common.{rules, ◌≡◌, ◌∙◌, ◌<◌, ◌++◌, ap, get_or, string_bytes, length}
use Rattle.tacho_sheet.specs.Reports.{breach_line}
use Rattle.tacho_sheet.proofs.TextLemmas.{one_more_row}
use Rattle.tacho_sheet.proofs.reports.push_breaches.Goals as goal

pub loop-breach-preserved : goal.loop-breach-preserved
loop-breach-preserved c =
    let pushed : string_bytes c.push_breach.new.text ≡ string_bytes c.loop-breach.text ++ breach_line c.breach-item.result = search rules in
    let within : c.loop-breach.breach-index < length c.args.breaches.now = search rules in
    let item : c.breach-item.result ≡ get_or c.args.breaches.now c.loop-breach.breach-index c.breach-item.result = c.breach-item.is in
    one_more_row breach_line c.args.breaches.now c.loop-breach.breach-index c.breach-item.result (string_bytes c.args.text.now)
    (string_bytes c.loop-breach.text) _ within c.loop-breach.invariant
    (pushed ∙ ap (λ e. string_bytes c.loop-breach.text ++ breach_line e) item)

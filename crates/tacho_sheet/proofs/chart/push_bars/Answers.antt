use Rattle.std.proofs.Common.{rules, ◌≡◌, ◌∙◌, ◌<◌, ◌++◌, ap, get_or, string_bytes, length}
use Rattle.tacho_sheet.specs.Chart.{bar}
use Rattle.tacho_sheet.proofs.TextLemmas.{one_more_row}
use Rattle.tacho_sheet.proofs.chart.push_bars.Goals as goal

pub loop-span-preserved : goal.loop-span-preserved
loop-span-preserved c =
    let pushed : string_bytes c.push_bar.new.text ≡ string_bytes c.loop-span.text ++ bar c.args.first c.span-item.result = search rules in
    let within : c.loop-span.span-index < length c.args.spans.now = search rules in
    let item : c.span-item.result ≡ get_or c.args.spans.now c.loop-span.span-index c.span-item.result = c.span-item.is in
    one_more_row (bar c.args.first) c.args.spans.now c.loop-span.span-index c.span-item.result (string_bytes c.args.text.now) (string_bytes c.loop-span.text) _ within c.loop-span.invariant
    (pushed ∙ ap (λ e. string_bytes c.loop-span.text ++ bar c.args.first e) item)

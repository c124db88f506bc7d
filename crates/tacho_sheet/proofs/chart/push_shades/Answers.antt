use Rattle.std.proofs.Common.{rules, ◌≡◌, ◌∙◌, ◌<◌, ◌++◌, ap, get_or, string_bytes, length}
use Rattle.tacho_sheet.specs.Chart.{shade}
use Rattle.tacho_sheet.proofs.TextLemmas.{one_more_row}
use Rattle.tacho_sheet.proofs.chart.push_shades.Goals as goal

pub loop-gap-preserved : goal.loop-gap-preserved
loop-gap-preserved c =
    let pushed : string_bytes c.push_shade.new.text ≡ string_bytes c.loop-gap.text ++ shade c.args.first c.gap-item.result = search rules in
    let within : c.loop-gap.gap-index < length c.args.gaps.now = search rules in
    let item : c.gap-item.result ≡ get_or c.args.gaps.now c.loop-gap.gap-index c.gap-item.result = c.gap-item.is in
    one_more_row (shade c.args.first) c.args.gaps.now c.loop-gap.gap-index c.gap-item.result (string_bytes c.args.text.now) (string_bytes c.loop-gap.text) _ within c.loop-gap.invariant
    (pushed ∙ ap (λ e. string_bytes c.loop-gap.text ++ shade c.args.first e) item)

use Rattle.std.proofs.Common.{rules, ◌≡◌, ◌∙◌, ◌<◌, ◌++◌, ap, get_or, string_bytes, length, codes}
use Rattle.tacho_sheet.specs.Reports.{csv_line}
use Rattle.tacho_sheet.proofs.TextLemmas.{one_more_row}
use Rattle.tacho_sheet.proofs.reports.csv_lines.Goals as goal

pub loop-span-preserved : goal.loop-span-preserved
loop-span-preserved c =
    let pushed : string_bytes c.push_span.new.text ≡ string_bytes c.loop-span.text ++ csv_line c.span-item.result = search rules in
    let within : c.loop-span.span-index < length c.args.spans.now = search rules in
    let item : c.span-item.result ≡ get_or c.args.spans.now c.loop-span.span-index c.span-item.result = c.span-item.is in
    one_more_row csv_line c.args.spans.now c.loop-span.span-index c.span-item.result (codes "start,past,activity,manning\n") (string_bytes c.loop-span.text) _ within c.loop-span.invariant
    (pushed ∙ ap (λ e. string_bytes c.loop-span.text ++ csv_line e) item)

use Rattle.std.proofs.Common.{rules, ◌≡◌, ◌∙◌, ◌<◌, ◌++◌, ap, get_or, string_bytes, length}
use Rattle.tacho_sheet.specs.Text.{entry_line}
use Rattle.tacho_sheet.proofs.TextLemmas.{one_more_line}
use Rattle.tacho_sheet.proofs.text.entry_text.Goals as goal

pub loop-entry-preserved : goal.loop-entry-preserved
loop-entry-preserved c =
    let pushed : string_bytes c.push_entry.new.text ≡ string_bytes c.loop-entry.text ++ entry_line c.entry-item.result = search rules in
    let within : c.loop-entry.entry-index < length c.args.entries.now = search rules in
    let item : c.entry-item.result ≡ get_or c.args.entries.now c.loop-entry.entry-index c.entry-item.result = c.entry-item.is in
    one_more_line entry_line c.args.entries.now c.loop-entry.entry-index c.entry-item.result (string_bytes c.loop-entry.text) _ within c.loop-entry.invariant
    (pushed ∙ ap (λ e. string_bytes c.loop-entry.text ++ entry_line e) item)

use Rattle.std.proofs.Common.{rules, ◌≡◌, ◌∙◌, ◌<◌, ◌++◌, ap, get_or, string_bytes, length}
use Rattle.tacho_sheet.specs.Reports.{debt_line}
use Rattle.tacho_sheet.proofs.TextLemmas.{one_more_row}
use Rattle.tacho_sheet.proofs.reports.push_debts.Goals as goal

pub loop-debt-preserved : goal.loop-debt-preserved
loop-debt-preserved c =
    let pushed : string_bytes c.push_debt.new.text ≡ string_bytes c.loop-debt.text ++ debt_line c.args.horizon c.debt-item.result =
    search rules in
    let within : c.loop-debt.debt-index < length c.args.debts.now = search rules in
    let item : c.debt-item.result ≡ get_or c.args.debts.now c.loop-debt.debt-index c.debt-item.result = c.debt-item.is in
    one_more_row (debt_line c.args.horizon) c.args.debts.now c.loop-debt.debt-index c.debt-item.result (string_bytes c.args.text.now)
    (string_bytes c.loop-debt.text) _ within c.loop-debt.invariant
    (pushed ∙ ap (λ e. string_bytes c.loop-debt.text ++ debt_line c.args.horizon e) item)

use Rattle.std.proofs.Common.{◌∙◌, ◌*◌, ap}
use Rattle.std.proofs.lemmas.Result.{IfOk-weaker}
use Rattle.tacho_rules.proofs.ReportLemmas.{report_by_marks}
use Rattle.tacho_state.specs.State.{Driver, held_spans}
use Rattle.tacho_shelf.proofs.RowLemmas.{same_mark, true_of_found}
use Rattle.tacho_shelf.proofs.shelf.ShelfKeeper.report.Goals as goal

pub returns-clause-report : goal.returns-clause-report
returns-clause-report c = λ clean s st.
    let d = c.in_ok-row.row.now in
    let base = c.number.ensures.value ∙ ap (λ (x : Driver). x.base) c.row-2.view_is in
    IfOk-weaker c.report_of.result _ _
    (λ report is. true_of_found c.args.driver c.args.self.now s c.in_ok-row.row.now _ c.in_ok-row.ensures st
    (report_by_marks c.in_ok-line.line (held_spans d) (1440 * d.base) report.horizon report.breaches.items report.debts.items
    (same_mark c.in_ok-line.line d c.in_ok-line.ensures.marks) (rw base at is))) c.report_of.ensures.report

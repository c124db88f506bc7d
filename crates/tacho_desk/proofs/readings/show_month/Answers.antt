use Rattle.std.proofs.Common.{rules}
use Rattle.tacho_state.proofs.ReadLemmas.{read_first, read_on}
use Rattle.tacho_desk.proofs.ShownLemmas.{chart_of, sheet_of, why_of}
use Rattle.tacho_desk.proofs.readings.show_month.Goals as goal

pub returns-in_err-line-in-Sheet-clause-serves : goal.returns-in_err-line-in-Sheet-clause-serves
returns-in_err-line-in-Sheet-clause-serves g c =
    let read = read_on g.K.Keeper.same_then (read_first c.name.ensures) c.line_within-in-Sheet.ensures.reads in
    search rules

pub returns-in_err-report-in-Sheet-clause-serves : goal.returns-in_err-report-in-Sheet-clause-serves
returns-in_err-report-in-Sheet-clause-serves g c =
    let line = read_on g.K.Keeper.same_then (read_first c.name.ensures) c.line_within-in-Sheet.ensures.reads in
    let report = read_on g.K.Keeper.same_then line c.report.ensures.reads in
    search rules

pub returns-in_err-month_sheet-in-Sheet-clause-serves : goal.returns-in_err-month_sheet-in-Sheet-clause-serves
returns-in_err-month_sheet-in-Sheet-clause-serves g c =
    let line = read_on g.K.Keeper.same_then (read_first c.name.ensures) c.line_within-in-Sheet.ensures.reads in
    let report = read_on g.K.Keeper.same_then line c.report.ensures.reads in
    search rules

pub returns-in_ok-month_sheet-in-Sheet-clause-serves : goal.returns-in_ok-month_sheet-in-Sheet-clause-serves
returns-in_ok-month_sheet-in-Sheet-clause-serves g c =
    let line = read_on g.K.Keeper.same_then (read_first c.name.ensures) c.line_within-in-Sheet.ensures.reads in
    let report = read_on g.K.Keeper.same_then line c.report.ensures.reads in
    search (rules, sheet_of)

pub returns-in_err-line-in-Chart-clause-serves : goal.returns-in_err-line-in-Chart-clause-serves
returns-in_err-line-in-Chart-clause-serves g c =
    let read = read_on g.K.Keeper.same_then (read_first c.name-in-Chart.ensures) c.line_and_stretches.ensures.reads in
    search rules

pub returns-in_err-month_chart-in-Chart-clause-serves : goal.returns-in_err-month_chart-in-Chart-clause-serves
returns-in_err-month_chart-in-Chart-clause-serves g c =
    let read = read_on g.K.Keeper.same_then (read_first c.name-in-Chart.ensures) c.line_and_stretches.ensures.reads in
    search rules

pub returns-in_ok-month_chart-in-Chart-clause-serves : goal.returns-in_ok-month_chart-in-Chart-clause-serves
returns-in_ok-month_chart-in-Chart-clause-serves g c =
    let read = read_on g.K.Keeper.same_then (read_first c.name-in-Chart.ensures) c.line_and_stretches.ensures.reads in
    search (rules, chart_of)

pub returns-in_ok-text-in-Why-clause-serves : goal.returns-in_ok-text-in-Why-clause-serves
returns-in_ok-text-in-Why-clause-serves g c =
    let within = rw c.deref-in-Why.ensures.value at c.in_ok-why_text-in-Why.ensures.within in
    let text = rw c.deref-in-Why.ensures.value at c.in_ok-why_text-in-Why.ensures.text in
    search (rules, why_of)

use Rattle.tacho_sheet.proofs.ChartLemmas.{chart_same}
use Rattle.tacho_sheet.proofs.laws.month_chart_is_by_marks.Goals as goal

pub returns : goal.returns
returns c = chart_same

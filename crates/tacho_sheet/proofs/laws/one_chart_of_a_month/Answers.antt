use Rattle.tacho_sheet.proofs.ChartLemmas.{one_chart}
use Rattle.tacho_sheet.proofs.laws.one_chart_of_a_month.Goals as goal

pub returns : goal.returns
returns c = one_chart c.one_list_of_gaps.ensures c.one_canonical_list.ensures

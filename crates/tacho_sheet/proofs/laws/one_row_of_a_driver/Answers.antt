use Rattle.tacho_sheet.proofs.RowLawLemmas.{one_standing, one_forecast_row}
use Rattle.tacho_sheet.proofs.laws.one_row_of_a_driver.Goals as goal

pub returns-clause-standing : goal.returns-clause-standing
returns-clause-standing c = one_standing c.one_list_of_gaps.ensures

pub returns-clause-forecast : goal.returns-clause-forecast
returns-clause-forecast c = one_forecast_row

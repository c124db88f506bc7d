use Rattle.tacho_sheet.proofs.RowLawLemmas.{row_of_ahead}
use Rattle.tacho_sheet.proofs.laws.rows_have_the_forecast_of_ahead.Goals as goal

pub returns : goal.returns
returns c = row_of_ahead

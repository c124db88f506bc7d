use Rattle.tacho_sheet.proofs.OneLemmas.{one_sheet}
use Rattle.tacho_sheet.proofs.laws.one_sheet_of_a_month.Goals as goal

pub returns : goal.returns
returns c = one_sheet

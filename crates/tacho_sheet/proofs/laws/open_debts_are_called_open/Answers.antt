use Rattle.tacho_sheet.proofs.RowLawLemmas.{called_open}
use Rattle.tacho_sheet.proofs.laws.open_debts_are_called_open.Goals as goal

pub returns : goal.returns
returns c = called_open

use Rattle.tacho_sheet.proofs.ColumnLemmas.{add_up}
use Rattle.tacho_sheet.proofs.laws.columns_add_up.Goals as goal

pub returns : goal.returns
returns c = add_up

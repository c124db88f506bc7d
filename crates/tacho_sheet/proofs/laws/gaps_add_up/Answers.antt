use Rattle.tacho_sheet.proofs.RowLawLemmas.{gaps_are_counted}
use Rattle.tacho_sheet.proofs.laws.gaps_add_up.Goals as goal

pub returns : goal.returns
returns c = gaps_are_counted

use Rattle.tacho_sheet.proofs.RowLawLemmas.{counts_add_up}
use Rattle.tacho_sheet.proofs.laws.counts_of_rules_add_up.Goals as goal

pub returns : goal.returns
returns c = counts_add_up

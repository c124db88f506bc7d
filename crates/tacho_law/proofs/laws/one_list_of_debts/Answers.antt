use Rattle.tacho_law.proofs.DebtsLemmas.{one_debts}
use Rattle.tacho_law.proofs.laws.one_list_of_debts.Goals as goal

pub returns : goal.returns
returns c = one_debts

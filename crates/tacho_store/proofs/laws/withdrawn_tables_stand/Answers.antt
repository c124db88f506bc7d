use Rattle.tacho_store.proofs.WithdrawalTablesLemmas.{withdrawn_is}
use Rattle.tacho_store.proofs.laws.withdrawn_tables_stand.Goals as goal

pub returns : goal.returns
returns c = withdrawn_is

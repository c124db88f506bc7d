use Rattle.tacho_store.proofs.EmptyLemmas.{empty_is}
use Rattle.tacho_store.proofs.laws.empty_tables_stand.Goals as goal

pub returns : goal.returns
returns c = empty_is

use Rattle.tacho_store.proofs.RegistrationTablesLemmas.{rebased_is}
use Rattle.tacho_store.proofs.laws.rebased_tables_stand.Goals as goal

pub returns : goal.returns
returns c = rebased_is

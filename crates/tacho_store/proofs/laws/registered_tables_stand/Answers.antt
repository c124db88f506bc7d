use Rattle.tacho_store.proofs.RegistrationTablesLemmas.{registered_is}
use Rattle.tacho_store.proofs.laws.registered_tables_stand.Goals as goal

pub returns : goal.returns
returns c = registered_is

use Rattle.tacho_store.proofs.RegistrationTablesLemmas.{rekeyed_is}
use Rattle.tacho_store.proofs.laws.rekeyed_tables_stand.Goals as goal

pub returns : goal.returns
returns c = rekeyed_is

use Rattle.tacho_store.proofs.RegistrationTablesLemmas.{renamed_is}
use Rattle.tacho_store.proofs.laws.renamed_tables_stand.Goals as goal

pub returns : goal.returns
returns c = renamed_is

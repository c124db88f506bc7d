use Rattle.tacho_store.proofs.ImportTablesLemmas.{imported_is}
use Rattle.tacho_store.proofs.laws.imported_tables_stand.Goals as goal

pub returns : goal.returns
returns c = imported_is

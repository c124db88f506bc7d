use Rattle.tacho_store.proofs.BatchLemmas.{entered_is}
use Rattle.tacho_store.proofs.laws.entered_tables_stand.Goals as goal

pub returns : goal.returns
returns c = entered_is

use Rattle.tacho_store.proofs.OldLemmas.{old_rows}
use Rattle.tacho_store.proofs.laws.old_entries_are_rows.Goals as goal

pub returns : goal.returns
returns c = old_rows

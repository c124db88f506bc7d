use Rattle.tacho_tables.proofs.CallLemmas.{changes_then}
use Rattle.tacho_store.proofs.entering.write_batch.Goals as goal

pub returns : goal.returns
returns g c = changes_then c.in_ok-set_entries.ensures (changes_then c.in_ok-insert_lines.ensures c.insert_all.ensures)

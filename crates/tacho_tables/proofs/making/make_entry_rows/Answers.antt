use Rattle.tacho_tables.specs.Schema.{entry_rows}
use Rattle.tacho_tables.proofs.making.make_entry_rows.Goals as goal

pub returns-clause-made : goal.returns-clause-made
returns-clause-made g c clean schema has it = c.make_table.ensures.made clean schema entry_rows has it

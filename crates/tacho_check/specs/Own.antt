-- Private to tacho_check: A driver's stored rows as they were read.
use Rattle.std.specs.Prelude.{List}
use Rattle.sqlite.specs.Order.{Row}
use Rattle.tacho_tables.specs.Ask.{Show, shown_of}
use Rattle.tacho_tables.specs.declared.table.TableName.{TableName}
use Rattle.tacho_tables.specs.declared.table.TableName.TheVariants.{Drivers, Downloads, CardSpans, EntryRows, Held}
use Rattle.tacho_check.specs.declared.own.OwnRows.{OwnRows}

-- the rows that were read of a table
abbrev pub rows_of : OwnRows → TableName → List Row
rows_of found Drivers = found.drivers.items
rows_of found Downloads = found.downloads.items
rows_of found CardSpans = found.card_spans.items
rows_of found EntryRows = found.entry_rows.items
rows_of found Held = found.held.items

-- they show a driver's rows of each table
abbrev pub AreOwnRows : (TableName → List Row) → OwnRows → Type 0
AreOwnRows own found = (k : TableName) → Show (shown_of k) (own k) (rows_of found k)

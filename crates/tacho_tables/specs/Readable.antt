-- Trusted: The stored rows of each driver, and what is known of them before they are judged.
use Rattle.std.specs.Prelude.{◌≡◌, ℕ, ℤ, Bool, false, List, codes, map, drop, filter}
use Rattle.std.specs.Ordering.{int_eq}
use Rattle.sqlite.specs.declared.types.Value.{Value}
use Rattle.sqlite.specs.declared.types.Value.TheVariants.{Null, Int, Real, Text, Blob}
use Rattle.sqlite.specs.Order.{Row, column}
use Rattle.sqlite.specs.Tree.{Trees, rowid}
use Rattle.sqlite_rules.specs.Lists.{Has}
use Rattle.sqlite_catalog.specs.Listing.{IsSound}
use Rattle.tacho_tables.specs.Schema.{Layout, archive_schema, current_version, entry_tree}
use Rattle.tacho_tables.specs.Schema as tree
use Rattle.tacho_tables.specs.Tables.{IsVersion, HasNoOldEntries}
use Rattle.tacho_tables.specs.declared.table.TableName.{TableName}
use Rattle.tacho_tables.specs.declared.table.TableName.TheVariants.{Drivers, Downloads, CardSpans, EntryRows, Held}

-- the table's name in SQL
abbrev pub table_name : TableName → List ℕ
table_name Drivers = codes "drivers"
table_name Downloads = codes "downloads"
table_name CardSpans = codes "card_spans"
table_name EntryRows = codes "entry_rows"
table_name Held = codes "held"

-- ---- rows of a driver, without hidden numbers: their first column is the driver's number

-- the value is this number
abbrev pub is_number : ℤ → Value → Bool
is_number n Null = false
is_number n (Int m) = int_eq m n
is_number n (Real x) = false
is_number n (Text t) = false
is_number n (Blob b) = false

-- the row's driver has this number
abbrev pub is_own : ℤ → Row → Bool
is_own n r = is_number n (column r 0)

-- the rows of the driver with this number
abbrev pub own_rows : ℤ → List Row → List Row
own_rows n rows = filter (is_own n) rows

-- the stored rows of a table. The number of a row of `drivers` is the driver's; in the other tables it is hidden, and is left out.
abbrev pub stored_rows : Layout → TableName → Trees → List Row
stored_rows layout Drivers db = db tree.driver_rows
stored_rows layout Downloads db = map (drop 1) (db tree.download_rows)
stored_rows layout CardSpans db = map (drop 1) (db tree.card_span_rows)
stored_rows layout EntryRows db = map (drop 1) (db (entry_tree layout))
stored_rows layout Held db = map (drop 1) (db tree.held_rows)

-- ---- what is known before the rows are judged

-- each row has a number, and no two rows have the same
pub record AreNumbered (rows : List Row) : Type 0 where
  pub numbered : (r : Row) → Has rows r → (id : ℤ) × (rowid r ≡ Int id)
  pub apart : (a b : Row) → Has rows a → Has rows b → rowid a ≡ rowid b → a ≡ b

-- no row number of a table occurs twice
pub record AreAllNumbered (layout : Layout) (db : Trees) : Type 0 where
  pub drivers : AreNumbered (db tree.driver_rows)
  pub downloads : AreNumbered (db tree.download_rows)
  pub card_spans : AreNumbered (db tree.card_span_rows)
  pub entries : AreNumbered (db (entry_tree layout))
  pub held : AreNumbered (db tree.held_rows)

-- The rows are a database of the archive's schema, whose rows the store has numbered; `meta` has version 2, and the table of schema 1 is
-- empty.
pub record IsReadable (layout : Layout) (db : Trees) : Type 0 where
  pub sound : IsSound (archive_schema layout) db
  pub meta : IsVersion current_version db
  pub old_entries : HasNoOldEntries layout db
  pub numbered : AreAllNumbered layout db

-- The order of a table's rows doesn't matter.
use Rattle.std.proofs.Common.{List}
use Rattle.std.specs.List.Sorted.{IsPermutation}
use Rattle.std.proofs.lemmas.List.Sorted.{IsPermutation-sym, IsPermutation-map}
use Rattle.sqlite.specs.Order.{Row}
use Rattle.sqlite.specs.Tree.{Trees}
use Rattle.tacho_tables.specs.Schema.{entry_tree}
use Rattle.tacho_tables.specs.Rows.{AreRowsOf, span_columns, download_columns, entry_columns}
use Rattle.tacho_tables.specs.Tables.{Tables, HasTables}
use Rattle.tacho_tables.proofs.Stored.{stands_shuffled}
use Rattle.tacho_tables.proofs.Numbered.{numbered_shuffled}
use Rattle.tacho_reading.specs.Standing.{SameRows}

-- stored rows that represent a list also represent it in another order
shuffled : {X : Type 0} (columns : X → Row) (rows : List Row) (all other : List X) → IsPermutation all other → AreRowsOf columns rows all
    → AreRowsOf columns rows other
shuffled columns rows all other same s = stands_shuffled columns rows all other s
    (IsPermutation-map columns other all (IsPermutation-sym all other same))

-- likewise for all five tables
pub any_order_stands : (db : Trees) (t u : Tables) → SameRows t u → HasTables db t → HasTables db u
any_order_stands db t u same s = record {
  layout = s.layout;
  sound = s.sound;
  meta = s.meta;
  drivers = numbered_shuffled (db 1) t.drivers u.drivers s.drivers (IsPermutation-sym t.drivers u.drivers same.drivers);
  downloads = shuffled download_columns (db 4) t.downloads u.downloads same.downloads s.downloads;
  card_spans = shuffled span_columns (db 6) t.card_spans u.card_spans same.card_spans s.card_spans;
  entries = shuffled entry_columns (db (entry_tree s.layout)) t.entries u.entries same.entries s.entries;
  old_entries = s.old_entries;
  held = shuffled span_columns (db 10) t.held u.held same.held s.held;
}

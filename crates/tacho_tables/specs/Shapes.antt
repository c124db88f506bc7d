-- Private to tacho_tables: What a store's schema is compared with.
use Rattle.std.specs.Prelude.{true, false, Bool, List, [], ◌∷◌, if◌then◌else◌, map}
use Rattle.sqlite.specs.Kind.TheVariants.{Integer}
use Rattle.sqlite.specs.Table.{Table}
use Rattle.sqlite.specs.Schema.{Schema}
use Rattle.sqlite_schema.specs.declared.schema.Column.{Column}
use Rattle.sqlite_schema.specs.declared.schema.Index.{Index}
use Rattle.sqlite_schema.specs.declared.schema.Reference.{Reference}
use Rattle.sqlite_value.specs.Keys.{plain}
use Rattle.sqlite_sql.specs.Term.{Term}
use Rattle.tacho_tables.specs.declared.shape.ColumnShape.{ColumnShape}
use Rattle.tacho_tables.specs.declared.shape.ColumnShape.TheVariants.{Need, Key}
use Rattle.tacho_tables.specs.declared.shape.TableShape.{TableShape}
use Rattle.tacho_tables.specs.declared.shape.IndexShape.{IndexShape}
use Rattle.tacho_tables.specs.Schema.{need, free, to_driver, is_0_or_1}

abbrev pub column_of : ColumnShape → Column
column_of (Need name kind) = need name.now kind
column_of (Key name) = free name.now Integer

abbrev pub checks_of : Bool → List Term
checks_of checked = if checked then is_0_or_1 ∷ [] else []

abbrev pub references_of : Bool → List Reference
references_of of_driver = if of_driver then to_driver ∷ [] else []

abbrev pub table_of : TableShape → Table
table_of shape = record {
  name = shape.name.now;
  tree = shape.tree;
  columns = map column_of shape.columns.now;
  key = shape.key;
  primary = shape.primary.now;
  uniques = map (λ places. places.now) shape.uniques.now;
  orders = shape.orders.now;
  checks = checks_of shape.is_checked;
  references = references_of shape.is_of_driver;
  computed = [];
  stamps = record { places = []; terms = []; formats = [] };
  is_counted = false;
}

-- an index that the store makes for a key
abbrev pub index_of : IndexShape → Index
index_of shape = record { name = shape.name.now; tree = shape.tree; table = shape.table; columns = shape.columns.now; order = plain; is_unique = true }

abbrev pub schema_of : List TableShape → List IndexShape → Schema
schema_of tables indexes = record { tables = map table_of tables; indexes = map index_of indexes; views = [] }

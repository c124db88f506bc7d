-- Trusted in part: The schemas of the archive, and the SQL that makes their tables. Schema 2 has six tables. Schema 1 has `entries` in the
-- place of `entry_rows`. An archive that was carried over has both.
use Rattle.std.specs.Prelude.{◌≡◌, true, false, [], ◌∷◌, Some, None, codes, List, ℕ, pos}
use Rattle.sqlite.specs.Collation.TheVariants.{Binary}
use Rattle.sqlite.specs.declared.types.Value.TheVariants.{Null, Int}
use Rattle.sqlite.specs.Table.{Table}
use Rattle.sqlite.specs.Schema.{Schema}
use Rattle.sqlite.specs.Kind.{Kind}
use Rattle.sqlite.specs.Kind.TheVariants.{Integer, Text, Blob}
use Rattle.sqlite_schema.specs.declared.schema.Column.{Column}
use Rattle.sqlite_schema.specs.declared.schema.Reference.{Reference}
use Rattle.sqlite_schema.specs.declared.schema.Action.TheVariants.{NoAction}
use Rattle.sqlite_value.specs.Keys.{plain}
use Rattle.sqlite_sql.specs.Term.{Term, lit, col, op2}
use Rattle.sqlite_sql.specs.declared.ops.BinaryOp.TheVariants.{Or, Compare}
use Rattle.sqlite_sql.specs.declared.ops.CompareOp.TheVariants.{Eq}
use Rattle.sqlite.specs.Change.{created}

-- a column that is NOT NULL
abbrev pub need : List ℕ → Kind → Column
need name kind = record { name = name; kind = kind; is_strict = true; not_null = true; default = Null; collation = Binary }

-- a key column, which the store may fill
abbrev pub free : List ℕ → Kind → Column
free name kind = record { name = name; kind = kind; is_strict = true; not_null = false; default = Null; collation = Binary }

-- the first column references a driver
abbrev pub to_driver : Reference
to_driver = record { columns = 1 ∷ []; parent = codes "drivers"; parent_columns = codes "driver" ∷ []; on_delete = NoAction; on_update = NoAction; is_deferred = false }

-- the table of the schema's version: one row
abbrev pub meta : Table
meta = record {
  name = codes "meta";
  tree = 0;
  columns = free (codes "id") Integer ∷ need (codes "version") Integer ∷ [];
  key = Some 0;
  primary = 0 ∷ [];
  uniques = [];
  orders = [];
  checks = [];
  references = [];
  computed = [];
  stamps = record { places = []; terms = []; formats = [] };
  is_counted = false;
}

-- the drivers, and how many numbers were given out to the downloads and entries of each
abbrev pub drivers : Table
drivers = record {
  name = codes "drivers";
  tree = 0;
  columns = free (codes "driver") Integer ∷ need (codes "holder") Blob ∷ need (codes "secret") Text ∷ need (codes "base") Integer ∷ need (codes "name") Text
      ∷ need (codes "downloads") Integer ∷ need (codes "entries") Integer ∷ [];
  key = Some 0;
  primary = 0 ∷ [];
  uniques = (2 ∷ []) ∷ (3 ∷ []) ∷ [];
  orders = plain ∷ plain ∷ [];
  checks = [];
  references = [];
  computed = [];
  stamps = record { places = []; terms = []; formats = [] };
  is_counted = false;
}

-- the card files that were accepted, byte for byte
abbrev pub downloads : Table
downloads = record {
  name = codes "downloads";
  tree = 0;
  columns = need (codes "driver") Integer ∷ need (codes "number") Integer ∷ need (codes "part") Integer ∷ need (codes "file") Blob ∷ [];
  key = None;
  primary = 1 ∷ 2 ∷ [];
  uniques = (1 ∷ 2 ∷ []) ∷ [];
  orders = plain ∷ [];
  checks = [];
  references = to_driver ∷ [];
  computed = [];
  stamps = record { places = []; terms = []; formats = [] };
  is_counted = false;
}

-- a table of spans of the drivers' minutes
abbrev pub spans : List ℕ → Table
spans name = record {
  name = name;
  tree = 0;
  columns = need (codes "driver") Integer ∷ need (codes "start") Integer ∷ need (codes "past") Integer ∷ need (codes "mark") Integer ∷ [];
  key = None;
  primary = 1 ∷ 2 ∷ [];
  uniques = (1 ∷ 2 ∷ []) ∷ [];
  orders = plain ∷ [];
  checks = [];
  references = to_driver ∷ [];
  computed = [];
  stamps = record { places = []; terms = []; formats = [] };
  is_counted = false;
}

-- the column `withdrawn` has this value; it is 0 or 1
abbrev pub withdrawn_is : ℕ → Term
withdrawn_is number = op2 (Compare Eq Binary) (col 1 6) (lit (Int (pos number)))

abbrev pub is_0_or_1 : Term
is_0_or_1 = op2 Or (withdrawn_is 0) (withdrawn_is 1)

-- the hours entered by hand, their authors and notes
abbrev pub entry_rows : Table
entry_rows = record {
  name = codes "entry_rows";
  tree = 0;
  columns = need (codes "driver") Integer ∷ need (codes "number") Integer ∷ need (codes "start") Integer ∷ need (codes "past") Integer ∷ need (codes "mark") Integer ∷ need (codes "withdrawn") Integer
      ∷ need (codes "author") Text ∷ need (codes "note") Text ∷ [];
  key = None;
  primary = 1 ∷ 2 ∷ [];
  uniques = (1 ∷ 2 ∷ []) ∷ [];
  orders = plain ∷ [];
  checks = is_0_or_1 ∷ [];
  references = to_driver ∷ [];
  computed = [];
  stamps = record { places = []; terms = []; formats = [] };
  is_counted = false;
}

-- the hours entered by hand in schema 1, which has no authors
abbrev pub entries : Table
entries = record {
  name = codes "entries";
  tree = 0;
  columns = need (codes "driver") Integer ∷ need (codes "number") Integer ∷ need (codes "start") Integer ∷ need (codes "past") Integer ∷ need (codes "mark") Integer ∷ need (codes "withdrawn") Integer ∷ [];
  key = None;
  primary = 1 ∷ 2 ∷ [];
  uniques = (1 ∷ 2 ∷ []) ∷ [];
  orders = plain ∷ [];
  checks = is_0_or_1 ∷ [];
  references = to_driver ∷ [];
  computed = [];
  stamps = record { places = []; terms = []; formats = [] };
  is_counted = false;
}

-- the schema of a store without tables
abbrev pub no_schema : Schema
no_schema = record { tables = []; indexes = []; views = [] }

-- the schema after each of the first four tables
abbrev pub with_meta : Schema
with_meta = created no_schema meta

abbrev pub with_drivers : Schema
with_drivers = created with_meta drivers

abbrev pub with_downloads : Schema
with_downloads = created with_drivers downloads

abbrev pub with_card_spans : Schema
with_card_spans = created with_downloads (spans (codes "card_spans"))

-- schema 1
abbrev pub old_schema : Schema
old_schema = created (created with_card_spans entries) (spans (codes "held"))

-- the version of the schema that an archive has, and the one from which archives are migrated
abbrev pub current_version : ℕ
current_version = 2

abbrev pub old_version : ℕ
old_version = 1

-- how an archive of schema 2 came to be: it was made so, or it was carried over from schema 1. The latter keeps an empty table `entries`,
-- which has no meaning.
pub data Layout : Type 0 where
  Made : Layout
  Carried : Layout

-- all layouts
abbrev pub layouts : List Layout
layouts = Made ∷ Carried ∷ []

-- the schema of an archive
abbrev pub archive_schema : Layout → Schema
archive_schema Made = created (created with_card_spans entry_rows) (spans (codes "held"))
archive_schema Carried = created old_schema entry_rows

-- the schema is that of an archive of schema 2, as made or as carried over
abbrev pub IsArchiveSchema : Schema → Type 0
IsArchiveSchema schema = (layout : Layout) × (schema ≡ archive_schema layout)

-- the tree numbers by which the store knows the rows of each table; an index has a tree too
abbrev pub meta_rows : ℕ
meta_rows = 0

abbrev pub driver_rows : ℕ
driver_rows = 1

abbrev pub download_rows : ℕ
download_rows = 4

abbrev pub card_span_rows : ℕ
card_span_rows = 6

abbrev pub held_rows : ℕ
held_rows = 10

abbrev pub entry_tree : Layout → ℕ
entry_tree Made = 8
entry_tree Carried = 12

-- the tree number of `entries`
abbrev pub old_entry_tree : ℕ
old_entry_tree = 8

-- the SQL that makes the tables
abbrev pub meta_text : List ℕ
meta_text = codes "CREATE TABLE meta (id INTEGER PRIMARY KEY, version INTEGER NOT NULL) STRICT"

abbrev pub drivers_text : List ℕ
drivers_text = codes "CREATE TABLE drivers (driver INTEGER PRIMARY KEY, holder BLOB NOT NULL UNIQUE, secret TEXT NOT NULL UNIQUE, base INTEGER NOT NULL, name TEXT NOT NULL, downloads INTEGER NOT NULL, entries INTEGER NOT NULL) STRICT"

abbrev pub downloads_text : List ℕ
downloads_text = codes "CREATE TABLE downloads (driver INTEGER NOT NULL REFERENCES drivers(driver), number INTEGER NOT NULL, part INTEGER NOT NULL, file BLOB NOT NULL, PRIMARY KEY (driver, number)) STRICT"

abbrev pub card_spans_text : List ℕ
card_spans_text = codes "CREATE TABLE card_spans (driver INTEGER NOT NULL REFERENCES drivers(driver), start INTEGER NOT NULL, past INTEGER NOT NULL, mark INTEGER NOT NULL, PRIMARY KEY (driver, start)) STRICT"

abbrev pub entry_rows_text : List ℕ
entry_rows_text = codes "CREATE TABLE entry_rows (driver INTEGER NOT NULL REFERENCES drivers(driver), number INTEGER NOT NULL, start INTEGER NOT NULL, past INTEGER NOT NULL, mark INTEGER NOT NULL, withdrawn INTEGER NOT NULL CHECK (withdrawn IN (0, 1)), author TEXT NOT NULL, note TEXT NOT NULL, PRIMARY KEY (driver, number)) STRICT"

abbrev pub held_text : List ℕ
held_text = codes "CREATE TABLE held (driver INTEGER NOT NULL REFERENCES drivers(driver), start INTEGER NOT NULL, past INTEGER NOT NULL, mark INTEGER NOT NULL, PRIMARY KEY (driver, start)) STRICT"

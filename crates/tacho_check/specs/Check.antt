-- Trusted: Whether the stored rows of a driver are those of some state within its limits, judged table by table.
use Rattle.std.specs.Prelude.{ℕ, ℤ, ◌<◌, ◌≤◌, ◌<ℤ◌, List, map, IsPermutation}
use Rattle.std.specs.List.{AllByRecursion}
use Rattle.sqlite.specs.Order.{Row}
use Rattle.sqlite.specs.Tree.{Trees}
use Rattle.sqlite_catalog.specs.Listing.{IsSound}
use Rattle.tacho_state.specs.State.{Driver, State}
use Rattle.tacho_state.specs.Within.{AreOwnFiles, HasColumns, IsEntry}
use Rattle.tacho_tables.specs.Schema.{Layout, archive_schema}
use Rattle.tacho_tables.specs.Rows.{span_columns, download_columns, entry_columns, driver_row}
use Rattle.tacho_tables.specs.Tables.{Tables}
use Rattle.tacho_tables.specs.Readable.{own_rows, stored_rows}
use Rattle.tacho_tables.specs.declared.table.TableName.{TableName}
use Rattle.tacho_tables.specs.declared.table.TableName.TheVariants.{Drivers, Downloads, CardSpans, EntryRows, Held}
use Rattle.tacho_reading.specs.Standing.{TablesRepresent}
use Rattle.tacho_check.specs.declared.table.Unsound.{Unsound}

-- the table's place in the order in which the tables are judged
abbrev pub place : TableName → ℕ
place Drivers = 0
place Downloads = 1
place CardSpans = 2
place EntryRows = 3
place Held = 4

-- the rows of a table as they are stored for typed rows
abbrev pub typed_rows : TableName → Tables → List Row
typed_rows Drivers t = map driver_row t.drivers
typed_rows Downloads t = map download_columns t.downloads
typed_rows CardSpans t = map span_columns t.card_spans
typed_rows EntryRows t = map entry_columns t.entries
typed_rows Held t = map span_columns t.held

-- the tables have exactly the driver's stored rows in this table, in any order
abbrev pub Agree : Layout → Trees → ℤ → Tables → TableName → Type 0
Agree layout db n t k = IsPermutation (own_rows n (typed_rows k t)) (own_rows n (stored_rows layout k db))

-- and in each table before it
abbrev pub AgreeUpTo : Layout → Trees → ℤ → Tables → TableName → Type 0
AgreeUpTo layout db n t k = (j : TableName) → place j ≤ place k → Agree layout db n t j

-- ---- soundness

-- a driver is within their limits, as far as their rows up to a table say: their own columns, their card files, and their entries
pub record IsWithinUpTo (k : TableName) (d : Driver) : Type 0 where
  pub columns : HasColumns d
  pub files : place Downloads ≤ place k → AreOwnFiles d
  pub entries : place EntryRows ≤ place k → AllByRecursion IsEntry d.entries

-- The driver's rows are sound up to a table: the tables of some state within its limits have exactly the driver's stored rows in this table
-- and in those before it. The rows of the other drivers, and those in later tables, may differ.
abbrev pub IsSoundAt : Layout → Trees → ℤ → TableName → Type 0
IsSoundAt layout db n k =
    (s : State) × (t : Tables) × TablesRepresent t s × AgreeUpTo layout db n t k × AllByRecursion (IsWithinUpTo k) s

-- the first table at which the driver's rows aren't sound
pub record IsUnsoundAt (layout : Layout) (db : Trees) (n : ℤ) (k : TableName) : Type 0 where
  pub unsound : ¬ (IsSoundAt layout db n k)
  pub before : (j : TableName) → place j < place k → IsSoundAt layout db n j

-- the least number of a driver whose rows aren't sound, and the first table at which they aren't
pub record IsFirstUnsound (db : Trees) (u : Unsound) : Type 0 where
  pub layout : Layout
  pub sound : IsSound (archive_schema layout) db
  pub at : IsUnsoundAt layout db u.driver u.table
  pub below : (m : ℤ) → m <ℤ u.driver → IsSoundAt layout db m Held

-- Private to tacho_check: Drivers with the spans of their rows, and the tables that these make.
use Rattle.std.specs.Prelude.{◌≡◌, ℤ, pos, ◌≤◌, ◌⊎◌, List, [], ◌∷◌, map, flat_map, IsPermutation}
use Rattle.sqlite.specs.Order.{Row}
use Rattle.tacho_time.specs.declared.span.Span.{Span}
use Rattle.tacho_state.specs.State.{Driver, State, IsDownloaded, Held as HoldsPair, AreFull}
use Rattle.tacho_state.specs.Disjoint.{GiveExactly}
use Rattle.tacho_tables.specs.Rows.{SpanRow, DownloadRow, EntryRow, span_columns, download_columns, entry_columns, driver_row}
use Rattle.tacho_tables.specs.Tables.{Tables}
use Rattle.tacho_state.specs.Content.{AreRead}
use Rattle.tacho_tables.specs.declared.table.TableName.{TableName}
use Rattle.tacho_tables.specs.declared.table.TableName.TheVariants.{Drivers, Downloads, CardSpans, EntryRows, Held}
use Rattle.tacho_reading.specs.Standing.{driver_columns, rows_of_downloads, rows_of_entries, span_row}
use Rattle.tacho_check.specs.Check.{place, IsWithinUpTo}

-- a driver of a state, and the spans of their rows in `card_spans` and in `held`
pub record Member : Type 0 where
  pub driver : Driver
  pub cards : List Span
  pub held : List Span

-- the spans keep what the driver's downloads give, and what the driver holds
pub record IsWhole (m : Member) : Type 0 where
  pub read : AreRead m.driver.downloads
  pub full : AreFull m.driver.entries
  pub cards : GiveExactly m.cards (IsDownloaded m.driver)
  pub held : GiveExactly m.held (HoldsPair m.driver)

-- the typed rows of a member
abbrev pub downloads_in : Member → List DownloadRow
downloads_in m = rows_of_downloads m.driver.number 1 m.driver.downloads

abbrev pub cards_in : Member → List SpanRow
cards_in m = map (span_row m.driver.number) m.cards

abbrev pub entries_in : Member → List EntryRow
entries_in m = rows_of_entries m.driver.number 1 m.driver.entries

abbrev pub held_in : Member → List SpanRow
held_in m = map (span_row m.driver.number) m.held

-- the rows of a member as they are stored
abbrev pub member_rows : TableName → Member → List Row
member_rows Drivers m = driver_row (driver_columns m.driver) ∷ []
member_rows Downloads m = map download_columns (downloads_in m)
member_rows CardSpans m = map span_columns (cards_in m)
member_rows EntryRows m = map entry_columns (entries_in m)
member_rows Held m = map span_columns (held_in m)

-- the state of members, and their tables
abbrev pub state_of : List Member → State
state_of ms = map (λ m. m.driver) ms

abbrev pub tables_of : List Member → Tables
tables_of ms = record {
  drivers = map (λ m. driver_columns m.driver) ms;
  downloads = flat_map downloads_in ms;
  card_spans = flat_map cards_in ms;
  entries = flat_map entries_in ms;
  held = flat_map held_in ms;
}

-- a driver's rows up to a table are those of a member
pub record HasMember (rows : TableName → List Row) (n : ℤ) (k : TableName) : Type 0 where
  pub member : Member
  pub whole : IsWhole member
  pub number : n ≡ pos member.driver.number
  pub within : IsWithinUpTo k member.driver
  pub same : (j : TableName) → place j ≤ place k → IsPermutation (member_rows j member) (rows j)

-- there are no rows up to a table
abbrev pub HasNoRows : (TableName → List Row) → TableName → Type 0
HasNoRows rows k = (j : TableName) → place j ≤ place k → rows j ≡ []

-- what is sound, by one driver alone
abbrev pub IsOwnSound : (TableName → List Row) → ℤ → TableName → Type 0
IsOwnSound rows n k = HasNoRows rows k ⊎ HasMember rows n k

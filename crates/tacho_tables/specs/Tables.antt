-- Trusted in part: The six tables as lists of typed rows, and what a call within a transaction does to them.
use Rattle.std.specs.Prelude.{◌≡◌, ℕ, ◌≤◌, pos, Bool, ◌&&◌, ◌==◌, nat_lt, nat_le, Contains, All, if◌then◌else◌, List, [], ◌∷◌}
use Rattle.std.specs.Prelude.{bytes_eq, map, IsPermutation, IsSorted, string_bytes}
use Rattle.std.specs.Ordering.{nat_cmp}
use Rattle.sqlite.specs.declared.types.Value.TheVariants.{Null, Int, Text, Blob}
use Rattle.sqlite.specs.Order.{Row}
use Rattle.sqlite.specs.Tree.{Trees}
use Rattle.sqlite.specs.Effect.{Database}
use Rattle.sqlite.specs.State.{State}
use Rattle.sqlite_catalog.specs.Listing.{IsSound}
use Rattle.tacho_tables.specs.declared.rows.StoredSpan.{StoredSpan}
use Rattle.tacho_tables.specs.declared.rows.StoredDriver.{StoredDriver}
use Rattle.tacho_tables.specs.declared.rows.StoredEntry.{StoredEntry}
use Rattle.tacho_tables.specs.declared.entries.NewEntry.{NewEntry}
use Rattle.tacho_tables.specs.Schema.{Layout, Made, Carried, archive_schema, current_version, old_schema, old_version, entry_tree, old_entry_tree}
use Rattle.tacho_tables.specs.Schema as tree
use Rattle.tacho_tables.specs.Rows.{AreRowsOf, SpanRow, span_columns, DownloadRow, download_columns, EntryRow, entry_columns, OldEntryRow, old_entry_columns, by_office, DriverRow, AreNumberedRowsOf}

pub record Tables : Type 0 where
  pub drivers : List DriverRow
  pub downloads : List DownloadRow
  pub card_spans : List SpanRow
  pub entries : List EntryRow
  pub held : List SpanRow

-- the database of a connection has the tables of schema 2
pub record IsArchive (d : Database) : Type 0 where
  pub layout : Layout
  pub schema : d.schema ≡ archive_schema layout
  pub sound : IsSound (archive_schema layout) d.trees

-- the one row of `meta` has this version
abbrev pub IsVersion : ℕ → Trees → Type 0
IsVersion version db = db tree.meta_rows ≡ (Int (pos 1) ∷ Null ∷ Int (pos version) ∷ []) ∷ []

-- `entries`, the table of schema 1 that an archive keeps if it was carried over, is empty
abbrev pub HasNoOldEntries : Layout → Trees → Type 0
HasNoOldEntries Made db = Unit {0}
HasNoOldEntries Carried db = db old_entry_tree ≡ []

-- the stored rows are an archive's database, and represent these lists; the order of the lists doesn't matter
pub record HasTables (db : Trees) (a : Tables) : Type 0 where
  pub layout : Layout
  pub sound : IsSound (archive_schema layout) db
  pub meta : IsVersion current_version db
  pub drivers : AreNumberedRowsOf (db tree.driver_rows) a.drivers
  pub downloads : AreRowsOf download_columns (db tree.download_rows) a.downloads
  pub card_spans : AreRowsOf span_columns (db tree.card_span_rows) a.card_spans
  pub entries : AreRowsOf entry_columns (db (entry_tree layout)) a.entries
  pub old_entries : HasNoOldEntries layout db
  pub held : AreRowsOf span_columns (db tree.held_rows) a.held

-- ---- schema 1

pub record OldTables : Type 0 where
  pub drivers : List DriverRow
  pub downloads : List DownloadRow
  pub card_spans : List SpanRow
  pub entries : List OldEntryRow
  pub held : List SpanRow

-- the stored rows are a database of schema 1, and represent these lists
pub record HasOldTables (db : Trees) (a : OldTables) : Type 0 where
  pub sound : IsSound old_schema db
  pub meta : IsVersion old_version db
  pub drivers : AreNumberedRowsOf (db tree.driver_rows) a.drivers
  pub downloads : AreRowsOf download_columns (db tree.download_rows) a.downloads
  pub card_spans : AreRowsOf span_columns (db tree.card_span_rows) a.card_spans
  pub entries : AreRowsOf old_entry_columns (db old_entry_tree) a.entries
  pub held : AreRowsOf span_columns (db tree.held_rows) a.held

-- these tables in schema 2: the author of each entry is the office, and its note is empty
abbrev pub carry_over : OldTables → Tables
carry_over a = record {
  drivers = a.drivers;
  downloads = a.downloads;
  card_spans = a.card_spans;
  entries = map by_office a.entries;
  held = a.held;
}

-- ---- steps

-- tables of schema 1 became tables of schema 2, and `entries` became empty
pub record Carries (old new : Database) : Type 0 where
  pub schema : IsArchive new
  pub stands : (a : OldTables) → HasOldTables old.trees a → HasTables new.trees (carry_over a)
  pub emptied : (a : OldTables) → HasOldTables old.trees a → new.trees old_entry_tree ≡ []

-- a step: if the old rows represent some lists, the new rows represent what `step` makes of these lists
pub record Turns (old new : State) (step : Tables → Tables) : Type 0 where
  pub schema : IsArchive new.now
  pub stands : (a : Tables) → HasTables old.now.trees a → HasTables new.now.trees (step a)

-- a row of the driver that has a minute in the range
abbrev pub is_row_near : ℕ → ℕ → ℕ → SpanRow → Bool
is_row_near driver start past r = (r.driver == driver) && (nat_lt r.start past && nat_lt start r.past)

-- a row of the driver that begins before a minute, and a row of the driver that begins in a range
abbrev pub is_before : ℕ → ℕ → SpanRow → Bool
is_before driver minute r = (r.driver == driver) && nat_lt r.start minute

abbrev pub is_begun : ℕ → ℕ → ℕ → SpanRow → Bool
is_begun driver start past r = (r.driver == driver) && (nat_le start r.start && nat_lt r.start past)

-- a row of the driver that begins at a minute or later
abbrev pub is_onward : ℕ → ℕ → SpanRow → Bool
is_onward driver start r = (r.driver == driver) && nat_le start r.start

-- `r` is one of the rows, and none of them begins later
pub record IsLatest (r : SpanRow) (rows : List SpanRow) : Type 0 where
  pub one : Contains rows r
  pub latest : All (λ (x : SpanRow). x.start ≤ r.start) rows

-- a row of the driver
abbrev pub is_of : ℕ → SpanRow → Bool
is_of driver r = r.driver == driver

-- a span as a driver's row, and the span of a row
abbrev pub row_of : ℕ → StoredSpan → SpanRow
row_of driver s = record { driver = driver; start = s.start; past = s.past; mark = s.mark }

abbrev pub span_of : SpanRow → StoredSpan
span_of r = record { start = r.start; past = r.past; mark = r.mark }

-- the columns of a row that readings show
abbrev pub span_shown : SpanRow → Row
span_shown r = Int (pos r.start) ∷ Int (pos r.past) ∷ Int (pos r.mark) ∷ []

abbrev pub number_shown : DriverRow → Row
number_shown r = Int (pos r.driver) ∷ []

abbrev pub secret_shown : DriverRow → Row
secret_shown r = Text r.secret ∷ []

abbrev pub driver_shown : DriverRow → Row
driver_shown r = Int (pos r.driver) ∷ Blob r.holder ∷ Int (pos r.base) ∷ Text r.name ∷ Int (pos r.downloads) ∷ Int (pos r.entries) ∷ []

abbrev pub entry_shown : EntryRow → Row
entry_shown r = Int (pos r.number) ∷ Int (pos r.start) ∷ Int (pos r.past) ∷ Int (pos r.mark) ∷ Int (pos r.withdrawn)
    ∷ Text r.author ∷ Text r.note ∷ []

abbrev pub file_shown : DownloadRow → Row
file_shown r = Int (pos r.part) ∷ Blob r.file ∷ []

-- the download of the driver with this number
abbrev pub is_download : ℕ → ℕ → DownloadRow → Bool
is_download driver number r = (r.driver == driver) && (r.number == number)

-- the entry of the driver with this number; any entry of the driver; an entry that isn't withdrawn and has a minute in the range
abbrev pub is_entry : ℕ → ℕ → EntryRow → Bool
is_entry driver number r = (r.driver == driver) && (r.number == number)

abbrev pub is_entry_of : ℕ → EntryRow → Bool
is_entry_of driver r = r.driver == driver

abbrev pub is_kept_near : ℕ → ℕ → ℕ → EntryRow → Bool
is_kept_near driver start past r = (r.driver == driver) && ((r.withdrawn == 0) && (nat_lt r.start past && nat_lt start r.past))

-- an entry as it is read: its row except for the driver
pub record ListedEntry : Type 0 where
  pub number : ℕ
  pub start : ℕ
  pub past : ℕ
  pub mark : ℕ
  pub withdrawn : ℕ
  pub author : List ℕ
  pub note : List ℕ

abbrev pub listed_entry : EntryRow → ListedEntry
listed_entry r =
    record { number = r.number; start = r.start; past = r.past; mark = r.mark; withdrawn = r.withdrawn; author = r.author; note = r.note }

abbrev pub told_entry : StoredEntry → ListedEntry
told_entry e = record {
  number = e.number;
  start = e.start;
  past = e.past;
  mark = e.mark;
  withdrawn = e.withdrawn;
  author = string_bytes e.author;
  note = string_bytes e.note;
}

-- the span of an entry

abbrev pub entry_span_of : EntryRow → StoredSpan
entry_span_of r = record { start = r.start; past = r.past; mark = r.mark }

-- a driver's new entry with this number: its minutes, its author and its note
abbrev pub entered_row : ℕ → ℕ → StoredSpan → List ℕ → List ℕ → EntryRow
entered_row driver number s author note =
    record { driver = driver; number = number; start = s.start; past = s.past; mark = s.mark; withdrawn = 0; author = author; note = note }

-- the row of a `NewEntry`
abbrev pub new_entry_row : ℕ → NewEntry → EntryRow
new_entry_row driver e = entered_row driver e.number e.span e.author.now e.note.now

-- tests of drivers: by number, by key, by holder
abbrev pub has_number : ℕ → DriverRow → Bool
has_number driver r = r.driver == driver

abbrev pub has_secret : List ℕ → DriverRow → Bool
has_secret secret r = bytes_eq r.secret secret

abbrev pub has_holder : List ℕ → DriverRow → Bool
has_holder holder r = bytes_eq r.holder holder

-- the driver with this number gets another base, another key, another name, another count of downloads, or another count of entries
abbrev pub with_row_base : ℕ → ℕ → DriverRow → DriverRow
with_row_base driver base r = if has_number driver r then record r { base = base } else r

abbrev pub with_row_key : ℕ → List ℕ → DriverRow → DriverRow
with_row_key driver key r = if has_number driver r then record r { secret = key } else r

abbrev pub with_row_name : ℕ → List ℕ → DriverRow → DriverRow
with_row_name driver name r = if has_number driver r then record r { name = name } else r

abbrev pub with_downloads : ℕ → ℕ → DriverRow → DriverRow
with_downloads driver count r = if has_number driver r then record r { downloads = count } else r

abbrev pub with_entries : ℕ → ℕ → DriverRow → DriverRow
with_entries driver count r = if has_number driver r then record r { entries = count } else r

-- the driver's entry with this number is marked as withdrawn
abbrev pub with_withdrawn : ℕ → ℕ → EntryRow → EntryRow
with_withdrawn driver number r = if is_entry driver number r then record r { withdrawn = 1 } else r

-- a driver as they are read: their row except for the key
pub record ListedDriver : Type 0 where
  pub driver : ℕ
  pub holder : List ℕ
  pub base : ℕ
  pub name : List ℕ
  pub downloads : ℕ
  pub entries : ℕ

abbrev pub listed_driver : DriverRow → ListedDriver
listed_driver r =
    record { driver = r.driver; holder = r.holder; base = r.base; name = r.name; downloads = r.downloads; entries = r.entries }

abbrev pub told_driver : StoredDriver → ListedDriver
told_driver d = record {
  driver = d.number;
  holder = d.holder.items;
  base = d.base;
  name = string_bytes d.name;
  downloads = d.downloads;
  entries = d.entries;
}

-- all drivers of these rows, the lowest number first
pub record AreListed (rows : List DriverRow) (found : List ListedDriver) : Type 0 where
  pub all : IsPermutation (map listed_driver rows) found
  pub sorted : IsSorted (λ (x y : ListedDriver). nat_cmp x.driver y.driver) found

-- an archive without drivers
abbrev pub no_rows : Tables
no_rows = record { drivers = []; downloads = []; card_spans = []; entries = []; held = [] }

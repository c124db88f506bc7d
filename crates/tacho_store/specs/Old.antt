-- Trusted: An archive of schema 1, whose entries have no author and no note, and what it becomes in schema 2.
use Rattle.std.specs.Prelude.{ℕ, ◌+◌, Bool, List, [], ◌∷◌, codes, map, if◌then◌else◌}
use Rattle.std.specs.List.{AllByRecursion}
use Rattle.sqlite.specs.Tree.{Trees}
use Rattle.tacho_time.specs.declared.span.Activity.{Activity}
use Rattle.tacho_state.specs.Batch.{IsEntryLine}
use Rattle.tacho_state.specs.State.{Download, Entry, Driver, State}
use Rattle.tacho_state.specs.Within.{AreOwnFiles, HasColumns, hours_of}
use Rattle.tacho_tables.specs.Rows.{OldEntryRow}
use Rattle.tacho_tables.specs.Tables.{OldTables, HasOldTables, carry_over}
use Rattle.tacho_reading.specs.Standing.{TablesRepresent}
use Rattle.tacho_state.specs.Numbers.{activity_number}

-- hours that were entered: minutes from start to before past
pub record OldEntry : Type 0 where
  pub start : ℕ
  pub past : ℕ
  pub activity : Activity
  pub withdrawn : Bool

pub record OldDriver : Type 0 where
  pub number : ℕ
  pub holder : List ℕ
  pub key : List ℕ
  pub base : ℕ
  pub name : List ℕ
  pub downloads : List Download
  pub entries : List OldEntry

abbrev pub OldState : Type 0
OldState = List OldDriver

-- ---- in schema 2

-- the same hours, entered by the office, without a note
abbrev pub entry_by_office : OldEntry → Entry
entry_by_office e =
    record { start = e.start; past = e.past; activity = e.activity; author = codes "office"; note = []; withdrawn = e.withdrawn }

abbrev pub driver_by_office : OldDriver → Driver
driver_by_office d = record {
  number = d.number;
  holder = d.holder;
  key = d.key;
  base = d.base;
  name = d.name;
  downloads = d.downloads;
  entries = map entry_by_office d.entries;
}

abbrev pub with_office : OldState → State
with_office s = map driver_by_office s

-- ---- limits

-- a driver of schema 1 within their limits: those of schema 2, without the limits of authors and notes
pub record IsOldWithinLimits (d : OldDriver) : Type 0 where
  pub columns : HasColumns (driver_by_office d)
  pub files : AreOwnFiles (driver_by_office d)
  pub entries : AllByRecursion (λ (e : OldEntry). IsEntryLine (hours_of (entry_by_office e))) d.entries

-- ---- what the tables of schema 1 represent

-- the tables represent a state of schema 1 if, with the office as the author of each row, they represent the state with the office as the
-- author of each entry
unfoldable pub StoodFor : Trees → OldState → Type 0
StoodFor db s = (t : OldTables) × HasOldTables db t × TablesRepresent (carry_over t) (with_office s)

-- the row of a driver's entry in schema 1
abbrev pub old_entry_row : ℕ → ℕ → OldEntry → OldEntryRow
old_entry_row n i e = record {
  driver = n;
  number = i;
  start = e.start;
  past = e.past;
  mark = activity_number e.activity;
  withdrawn = (if e.withdrawn then 1 else 0);
}

abbrev pub old_entry_rows : ℕ → ℕ → List OldEntry → List OldEntryRow
old_entry_rows n i [] = []
old_entry_rows n i (e ∷ es) = old_entry_row n i e ∷ old_entry_rows n (i + 1) es

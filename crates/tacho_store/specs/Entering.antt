-- Private to tacho_store: What entering a batch consists of: what it adds to what the driver holds, and its rows.
use Rattle.std.specs.Prelude.{◌≡◌, ℕ, ◌+◌, ◌<◌, ◌≤◌, ◌++◌, List, map, length, Ok, Err}
use Rattle.sqlite.specs.Tree.{Trees}
use Rattle.tacho_time.specs.declared.span.Span.{Span}
use Rattle.tacho_state.specs.declared.fault.StoreFault.TheVariants.{Full}
use Rattle.tacho_state.specs.State.{Driver, Entry, State, put, with_batch}
use Rattle.tacho_state.specs.Batch.{Hours, batch_of}
use Rattle.tacho_state.specs.Steps.{Turn, turn_of, enter_own, most_records}
use Rattle.tacho_tables.specs.Rows.{SpanRow, EntryRow}
use Rattle.tacho_tables.specs.Tables.{Tables, HasTables, with_entries}
use Rattle.tacho_reading.specs.Standing.{Follows, rows_of_entries, span_row}

-- the tables after the writes of a batch: the driver's count of entries is set, and new rows are in front of the old ones
abbrev pub tables_after_batch : ℕ → ℕ → List EntryRow → List SpanRow → Tables → Tables
tables_after_batch n count rows helds t = record t {
  drivers = map (with_entries n count) t.drivers;
  entries = rows ++ t.entries;
  held = helds ++ t.held;
}

-- a driver's batch, whose gains on what the driver holds are `gains`: it is added if there are numbers for all its lines, and tables with
-- its rows follow
pub record AreNumbered (db : Trees) (s : State) (n : ℕ) (d : Driver) (batch : List Entry) (gains : List Span) : Type 0 where
  pub numbered : length d.entries + length batch ≤ most_records → enter_own batch d ≡ Ok (1 + length d.entries, with_batch batch d)
  pub full : most_records < length d.entries + length batch → enter_own batch d ≡ Err Full
  pub follows : (next : Trees)
      → ((t : Tables) → HasTables db t → HasTables next (tables_after_batch n (length d.entries + length batch) (rows_of_entries n (1 + length d.entries) batch) (map (span_row n) gains) t))
      → Follows db next s (put (with_batch batch d) s)

-- the step of the driver's batch
abbrev pub enter_turn : List Hours → Driver → State → Turn ℕ
enter_turn lines d s = turn_of s (enter_own (batch_of lines) d)

-- the driver has `given` entries, and `gains` are what the lines give that the driver doesn't hold
abbrev pub AreToEnter : ℕ → ℕ → List Hours → List Span → Driver → Trees → State → Type 0
AreToEnter n given lines gains d db s = (given ≡ length d.entries) × AreNumbered db s n d (batch_of lines) gains

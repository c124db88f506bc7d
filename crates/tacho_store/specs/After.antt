-- Trusted: The tables after a command.
use Rattle.std.specs.Prelude.{ℕ, List, [], ◌∷◌, ◌++◌, map, filter, not}
use Rattle.tacho_time.specs.declared.span.Span.{Span}
use Rattle.tacho_state.specs.State.{Entry}
use Rattle.tacho_tables.specs.Rows.{DriverRow}
use Rattle.tacho_tables.specs.Tables.{Tables, is_row_near, with_row_base, with_row_key, with_row_name, with_downloads, with_entries, with_withdrawn}
use Rattle.tacho_reading.specs.Standing.{span_row, rows_of_entries}

-- a driver is registered
abbrev pub with_driver : DriverRow → Tables → Tables
with_driver row t = record t { drivers = t.drivers ++ row ∷ [] }

-- a driver's base is changed
abbrev pub with_rebased : ℕ → ℕ → Tables → Tables
with_rebased n base t = record t { drivers = map (with_row_base n base) t.drivers }

-- a driver's key is changed
abbrev pub with_rekeyed : ℕ → List ℕ → Tables → Tables
with_rekeyed n key t = record t { drivers = map (with_row_key n key) t.drivers }

-- a driver's name is changed
abbrev pub with_renamed : ℕ → List ℕ → Tables → Tables
with_renamed n name t = record t { drivers = map (with_row_name n name) t.drivers }

-- a download is added: its row, the driver's count (the download's number), and the spans that downloads, or the driver, didn't have
abbrev pub with_imported : ℕ → ℕ → ℕ → List ℕ → List Span → List Span → Tables → Tables
with_imported n number part file card_gains gains t = record t {
  drivers = map (with_downloads n number) t.drivers;
  downloads = t.downloads ++ record { driver = n; number = number; part = part; file = file } ∷ [];
  card_spans = t.card_spans ++ map (span_row n) card_gains;
  held = t.held ++ map (span_row n) gains;
}

-- a batch is added: its rows, numbered from `first`, the driver's new count, and the spans that the driver didn't hold
abbrev pub with_entered : ℕ → ℕ → ℕ → List Entry → List Span → Tables → Tables
with_entered n first count batch gains t = record t {
  drivers = map (with_entries n count) t.drivers;
  entries = t.entries ++ rows_of_entries n first batch;
  held = t.held ++ map (span_row n) gains;
}

-- an entry is withdrawn: its row is marked; the driver's held rows near it are removed, and these spans are added
abbrev pub with_renewed : ℕ → ℕ → ℕ → ℕ → List Span → Tables → Tables
with_renewed n number start past spans t = record t {
  entries = map (with_withdrawn n number) t.entries;
  held = filter (λ r. not (is_row_near n start past r)) t.held ++ map (span_row n) spans;
}

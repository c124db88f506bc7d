-- Private to tacho_reading: The start from which a driver's rows are read.
use Rattle.std.specs.Prelude.{◌≡◌, ℕ, ◌*◌, ◌==◌, ◌&&◌, min, nat_lt, Bool, filter, Some}
use Rattle.sqlite.specs.Tree.{Trees}
use Rattle.tacho_state.specs.State.{Driver, State, driver_of}
use Rattle.tacho_tables.specs.Rows.{SpanRow}
use Rattle.tacho_tables.specs.Tables.{Tables, HasTables, is_onward}
use Rattle.tacho_reading.specs.declared.reading.Beginning.{Beginning}
use Rattle.tacho_reading.specs.Standing.{TablesRepresent}

-- a row of the driver that ends after a minute
abbrev pub is_after : ℕ → ℕ → SpanRow → Bool
is_after driver minute r = (r.driver == driver) && nat_lt minute r.past

-- `b.base` is the first minute of the driver's base. The driver's rows that begin at `b.start` or later are those that end after the base,
-- or after minute `from` if that is earlier.
pub record IsBegun (db : Trees) (n from : ℕ) (s : State) (b : Beginning) : Type 0 where
  pub driver : Driver
  pub is : driver_of n s ≡ Some driver
  pub base : b.base ≡ 1440 * driver.base
  pub rows : (t : Tables) → HasTables db t → TablesRepresent t s → filter (is_onward n b.start) t.held ≡ filter
      (is_after n (min b.base from)) t.held

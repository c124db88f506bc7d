-- Private to tacho_reading: A driver's rows of spans, and the start of those that have a minute in a range.
use Rattle.std.specs.Prelude.{◌≡◌, ℕ, ◌<◌, ◌≤◌, ◌⊎◌, ◌&&◌, nat_lt, List, [], ◌∷◌, filter, Option, Some, None, if◌then◌else◌}
use Rattle.std.specs.List.{AllByRecursion}
use Rattle.sqlite.specs.Tree.{Trees}
use Rattle.tacho_time.specs.declared.span.Span.{Span}
use Rattle.tacho_time.specs.Spans.{Gives, IsCanonicalOf}
use Rattle.tacho_state.specs.Disjoint.{near}
use Rattle.tacho_state.specs.State.{Driver, State, driver_of}
use Rattle.tacho_tables.specs.declared.spans.SpanTable.{SpanTable}
use Rattle.tacho_tables.specs.declared.rows.StoredSpan.{StoredSpan}
use Rattle.tacho_tables.specs.Rows.{SpanRow}
use Rattle.tacho_tables.specs.Spans.{spans_in}
use Rattle.tacho_tables.specs.Tables.{HasTables, Tables, is_of}
use Rattle.tacho_reading.specs.Standing.{TablesRepresent, spans_of}

-- one of the rows ends before the other begins
abbrev pub AreAside : SpanRow → SpanRow → Type 0
AreAside r x = (r.past ≤ x.start) ⊎ (x.past ≤ r.start)

-- no row is empty, and no two rows have a minute in common
abbrev pub AreRowsApart : List SpanRow → Type 0
AreRowsApart [] = Unit {0}
AreRowsApart (r ∷ rows) = (r.start < r.past) × AllByRecursion (AreAside r) rows × AreRowsApart rows

-- a driver's rows
abbrev pub driver_rows : ℕ → List SpanRow → List SpanRow
driver_rows n rows = filter (is_of n) rows

-- the start of the first row that has a minute in the range, computed from the latest row that begins before the range
abbrev pub near_from : ℕ → ℕ → Option StoredSpan → ℕ
near_from start past None = start
near_from start past (Some s) = if (nat_lt s.start past && nat_lt start s.past) then s.start else start

-- the line of a driver's rows near a range: that of what the driver's spans in the table give there
pub record IsLineNear (db : Trees) (s : State) (table : SpanTable) (n start past : ℕ) (line : List Span) : Type 0 where
  pub is : (t : Tables) → HasTables db t → TablesRepresent t s → (d : Driver) → driver_of n s ≡ Some d
      → IsCanonicalOf (Gives (near start past (spans_of n (spans_in table t)))) line

-- Private to tacho_reading: What a pass over stretches takes of a driver's rows, which come one at a time, and which rows are kept.
use Rattle.std.specs.Prelude.{◌≡◌, ℕ, List, ◌++◌, ◌&&◌, nat_lt, Bool, filter, map}
use Rattle.sqlite.specs.Held.{Held, state}
use Rattle.sqlite.specs.Given.{HasGiven}
use Rattle.sqlite.specs.Order.{Row}
use Rattle.sqlite.specs.State.{Shown}
use Rattle.sqlite.specs.Store.{Ghosts}
use Rattle.tacho_time.specs.declared.span.Span.{Span}
use Rattle.tacho_stretches.specs.Pass.{HasPassed, Passing}
use Rattle.tacho_tables.specs.declared.rows.StoredSpan.{StoredSpan}
use Rattle.tacho_tables.specs.Next.{AreOnward}
use Rattle.tacho_tables.specs.Rows.{SpanRow}
use Rattle.tacho_tables.specs.Tables.{span_of}
use Rattle.tacho_reading.specs.Standing.{row_span, stored_span}
use Rattle.tacho_reading.specs.Taken.{AreTold}

-- the pass took these spans, after those that it had taken before
pub record HasTakenOn (was pass : Passing) (spans : List Span) : Type 0 where
  pub fed : (base : ℕ) (before : List Span) → HasPassed was base before → HasPassed pass base (before ++ spans)

-- a stored row that has a minute in a range
abbrev pub is_stored_near : ℕ → ℕ → StoredSpan → Bool
is_stored_near start past s = nat_lt s.start past && nat_lt start s.past

-- the pass took the spans of all remaining rows of a query; the rows that have a minute in the range were kept, after the rows that were
-- kept before
pub record HasTakenRows {S : Type 0} (g : Ghosts S) (old new : Held S) (start past : ℕ) (was pass : Passing)
    (before near : List StoredSpan) : Type 0 where
  pub spans : List StoredSpan
  pub taken : HasTakenOn was pass (map stored_span spans)
  pub kept : near ≡ before ++ filter (is_stored_near start past) spans
  pub ended : (sql : List ℕ) (params : Row) (given : List Row) → HasGiven g sql params old given
      → (rows : List Row) × AreTold rows spans
      × (last : Held S) × ((state g last).now ≡ (state g old).now) × Shown sql params (state g last) (state g new) (given ++ rows)

-- the pass took the driver's rows that begin at `first` or later, in order; those that have a minute in the range were kept
pub record HasTakenHeld (driver first start past : ℕ) (rows : List SpanRow) (was pass : Passing)
    (before near : List StoredSpan) : Type 0 where
  pub onward : List SpanRow
  pub are_onward : AreOnward driver first rows onward
  pub taken : HasTakenOn was pass (map row_span onward)
  pub kept : near ≡ before ++ filter (is_stored_near start past) (map span_of onward)

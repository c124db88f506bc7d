-- Private to tacho_tables: Spans that are read one at a time from the rows of a query.
use Rattle.std.specs.Prelude.{◌≡◌, ℕ, pos, nat_lt, false, List, [], ◌∷◌, codes, filter, Option, None, Some}
use Rattle.std.specs.Prelude.{IsTrue, IsPermutation}
use Rattle.std.specs.List.Sorted.{IsSortedBy}
use Rattle.sqlite.specs.declared.types.Value.TheVariants.{Int}
use Rattle.sqlite.specs.Given.{Advances, HasGiven}
use Rattle.sqlite.specs.Held.{Held, state}
use Rattle.sqlite.specs.Order.{Row, column}
use Rattle.sqlite.specs.State.{State, HasCleanDisk, IsUnchanged, Survives}
use Rattle.sqlite.specs.Store.{Ghosts}
use Rattle.tacho_tables.specs.declared.rows.StoredSpan.{StoredSpan}
use Rattle.tacho_tables.specs.Rows.{SpanRow}
use Rattle.tacho_tables.specs.Tables.{is_onward}

-- the first three columns of a row are the span's start, past and mark
pub record Tells (row : Row) (s : StoredSpan) : Type 0 where
  pub start : column row 0 ≡ Int (pos s.start)
  pub past : column row 1 ≡ Int (pos s.past)
  pub mark : column row 2 ≡ Int (pos s.mark)

-- one more row is given, and it shows this span; or the query has no further row
abbrev pub GivesNext : {S : Type 0} → Ghosts S → Held S → Held S → Option StoredSpan → Type 0
GivesNext g old new None = Advances g old new None
GivesNext g old new (Some s) = (row : Row) × Tells row s × Advances g old new (Some row)

-- a connection that is open was open before, and sees the same data if nothing was uncommitted
pub record IsKept (old new : State) : Type 0 where
  pub was_open : IsTrue new.is_open → IsTrue old.is_open
  pub same : IsTrue new.is_open → old.now ≡ old.committed → new.now ≡ old.now

-- the driver's rows that begin from a minute on, in the order of their starts
pub record AreOnward (driver start : ℕ) (rows onward : List SpanRow) : Type 0 where
  pub same : IsPermutation (filter (is_onward driver start) rows) onward
  pub sorted : IsSortedBy (λ (x y : SpanRow). nat_lt x.start y.start) onward

-- the query on a driver's spans that begin from a minute on
abbrev pub onward_text : List ℕ
onward_text = codes "SELECT start, past, mark FROM held WHERE driver = ?1 AND ?2 <= start ORDER BY start"

module _ {S : Type 0} (g : Ghosts S) (old new : Held S) where
  -- This holds whether the query begins or not. A connection that is open was open before and sees the same data. A crash may leave only
  -- states that it could leave before.
  pub record IsAsked : Type 0 where
    pub kept : HasCleanDisk (state g new) → IsKept (state g old) (state g new)
    pub mode : old.in_transaction ≡ false → new.in_transaction ≡ false
    pub survives : Survives (state g old) (state g new) (λ _. ⊥)

  -- the query has begun: no row is given yet, and nothing has changed
  pub record BeginsOnward (driver start : ℕ) : Type 0 where
    pub asked : IsAsked
    pub given : HasCleanDisk (state g new) → HasGiven g onward_text (Int (pos driver) ∷ Int (pos start) ∷ []) new []
    pub same : HasCleanDisk (state g new) → IsUnchanged (state g old) (state g new)

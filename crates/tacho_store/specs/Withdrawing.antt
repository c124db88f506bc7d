-- Private to tacho_store: What a withdrawal consists of: the entry, and the rows that replace what was held near it.
use Rattle.std.specs.Borrow.{MutBor}
use Rattle.sqlite.specs.Held.{Held, state}
use Rattle.sqlite.specs.State.{HasCleanDisk}
use Rattle.sqlite.specs.Store.{Ghosts}
use Rattle.sqlite.specs.Tree.{Trees}
use Rattle.std.specs.Prelude.{◌≡◌, ◌≢◌, ◌⊎◌, ℕ, ◌++◌, All, List, filter, map, false, Some, OnOk, Result}
use Rattle.tacho_time.specs.declared.span.Span.{Span}
use Rattle.tacho_time.specs.Spans.{Gives, IsCanonicalOf}
use Rattle.tacho_line.specs.Line.{IsWithin}
use Rattle.tacho_state.specs.declared.fault.StoreFault.{StoreFault}
use Rattle.tacho_state.specs.Disjoint.{outside}
use Rattle.tacho_state.specs.State.{Driver, Entry, State, driver_of, entry_from}
use Rattle.tacho_state.specs.Acts.{Answers}
use Rattle.tacho_state.specs.Steps.{Turn, withdraw_step}
use Rattle.tacho_tables.specs.declared.rows.StoredSpan.{StoredSpan}
use Rattle.tacho_tables.specs.declared.rows.StoredEntry.{StoredEntry}
use Rattle.tacho_tables.specs.Tables.{Tables, HasTables, IsArchive, is_of, row_of, listed_entry, told_entry, with_withdrawn}
use Rattle.tacho_reading.specs.Standing.{HaveNoLine, AreMinutes, Represents, TablesRepresent, IsFit, span_row, stored_span, entry_row, IsReadNear, IsKeptNear}
use Rattle.tacho_reading.specs.Calls.{Goes}
use Rattle.tacho_reading.specs.Finding.{IsFound}

-- a driver's entry that is not withdrawn, as stored
pub record IsThere (s : State) (n number : ℕ) (it : StoredEntry) (d : Driver) (e : Entry) : Type 0 where
  pub driver : driver_of n s ≡ Some d
  pub entry : entry_from 1 number d.entries ≡ Some e
  pub kept : e.withdrawn ≡ false
  pub row : told_entry it ≡ listed_entry (entry_row n number e)

-- the entry exists and is not withdrawn; or the withdrawal is refused (S4, S7, S8), ran out of memory, or the store failed
abbrev pub IsEntry : State → ℕ → ℕ → Result StoredEntry StoreFault → Type 0
IsEntry s n number result = IsFound (λ it. (d : Driver) × (e : Entry) × IsThere s n number it d e) (withdraw_step n number s).answer result

-- the rows of the parts of held spans outside a range, and of what card spans and entries give inside it
pub record AreRowsFor (cards others helds : List StoredSpan) (start past : ℕ) (rows : List StoredSpan) : Type 0 where
  pub inside : List Span
  pub given : IsCanonicalOf (λ m k. IsWithin start past m × Gives (map stored_span cards ++ map stored_span others) m k) inside
  pub all : (n : ℕ) → map (row_of n) rows ≡ map (span_row n) (outside start past (map stored_span helds) ++ inside)

-- there are no such rows: the range isn't one of minutes, a held row isn't a span, or rows of cards and entries have no canonical list
abbrev pub HaveNoRows : List StoredSpan → List StoredSpan → List StoredSpan → ℕ → ℕ → Type 0
HaveNoRows cards others helds start past = (¬ AreMinutes start past) ⊎ (¬ All IsFit helds) ⊎ HaveNoLine (cards ++ others)

-- the tables with a driver's entry marked as withdrawn
abbrev pub with_mark : ℕ → ℕ → Tables → Tables
with_mark n number t = record t { entries = map (with_withdrawn n number) t.entries }

-- the rows that replace a driver's held rows near a range, by what the tables have near it
pub record AreRenewed (t : Tables) (n start past : ℕ) (rows : List StoredSpan) : Type 0 where
  pub cards : List StoredSpan
  pub others : List StoredSpan
  pub helds : List StoredSpan
  pub cards_near : IsReadNear t.card_spans n start past cards
  pub others_near : IsKeptNear t.entries n start past others
  pub helds_near : IsReadNear t.held n start past helds
  pub are_rows : AreRowsFor cards others helds start past rows

-- both tables have the same rows of spans of one driver
pub record HaveSameSpansOf (n : ℕ) (t u : Tables) : Type 0 where
  pub card_spans : filter (is_of n) t.card_spans ≡ filter (is_of n) u.card_spans
  pub held : filter (is_of n) t.held ≡ filter (is_of n) u.held

-- what is stored now represents the state after, and has the spans of all drivers but one as the tables had them
pub record IsRenewed (n : ℕ) (t : Tables) (next : Trees) (after : State) : Type 0 where
  pub tables : Tables
  pub stored : HasTables next tables
  pub represent : TablesRepresent tables after
  pub others : (j : ℕ) → j ≢ n → HaveSameSpansOf j t tables

-- A step, within a transaction, that changes one driver's entries and spans. It can be followed by another.
pub record Renews {S : Type 0} (g : Ghosts S) (n : ℕ) (old new : MutBor (Held S)) (result : Result (Unit {0}) StoreFault)
    (step : State → Turn (Unit {0})) : Type 0 where
  pub goes : Goes g old new result
  pub schema : HasCleanDisk (state g new.now) → IsArchive (state g old.now).now → OnOk result (IsArchive (state g new.now).now)
  pub answer : HasCleanDisk (state g new.now) → IsArchive (state g old.now).now
      → (s : State) → Represents (state g old.now).now.trees s → Answers (λ (u : Unit {0}). tt) result (step s).answer
  pub renewed : HasCleanDisk (state g new.now) → IsArchive (state g old.now).now
      → (t : Tables) (s : State) → HasTables (state g old.now).now.trees t → TablesRepresent t s
      → OnOk result (IsRenewed n t (state g new.now).now.trees (step s).after)

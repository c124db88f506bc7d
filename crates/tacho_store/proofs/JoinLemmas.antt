-- Lemmas that join a command's writes: steps in sequence, and rows added at the front of a table instead of the end.
use Rattle.std.proofs.Common.{◌≡◌, ◌≢◌, ◌∙◌, ◌⊎◌, inl, inr, ℕ, List, [], ◌∷◌, ◌++◌, map, filter, not, refl, sym, ap}
use Rattle.std.proofs.lemmas.List.{append-nil}
use Rattle.std.proofs.lemmas.List.Sorted.{IsPermutation-refl, IsPermutation-sym, IsPermutation-append_comm, IsPermutation-to_front}
use Rattle.sqlite.specs.Tree.{Trees}
use Rattle.tacho_time.specs.declared.span.Span.{Span}
use Rattle.tacho_state.specs.State.{Entry, State, driver_of}
use Rattle.tacho_tables.specs.Rows.{SpanRow, DriverRow}
use Rattle.tacho_tables.specs.Tables.{Tables, HasTables, is_of, is_row_near, with_downloads, with_entries, with_withdrawn}
use Rattle.tacho_reading.specs.Standing.{TablesRepresent, Follows, SameRows, span_row, rows_of_entries}
use Rattle.tacho_reading.proofs.OrderedLemmas.{any_order_stands}
use Rattle.tacho_store.specs.After.{with_driver, with_imported, with_entered, with_renewed}
use Rattle.tacho_store.specs.Importing.{tables_after_download}
use Rattle.tacho_store.specs.Entering.{tables_after_batch}
use Rattle.tacho_store.specs.Withdrawing.{HaveSameSpansOf, IsRenewed}
use Rattle.tacho_store.proofs.OthersLemmas.{followed, added_kept, renewed_kept}

-- ---- steps

-- ---- order

-- having the same rows is symmetric
pub same_back : (t u : Tables) → SameRows t u → SameRows u t
same_back t u same = record {
  drivers = IsPermutation-sym t.drivers u.drivers same.drivers;
  downloads = IsPermutation-sym t.downloads u.downloads same.downloads;
  card_spans = IsPermutation-sym t.card_spans u.card_spans same.card_spans;
  entries = IsPermutation-sym t.entries u.entries same.entries;
  held = IsPermutation-sym t.held u.held same.held;
}

-- stored tables follow if tables with the same rows represent the state after the step
same_follow : (db next : Trees) (t u v : Tables) (s after : State) → HasTables db t → TablesRepresent t s → SameRows u v → HasTables next v → TablesRepresent u after
    → ((j : ℕ) → driver_of j after ≡ driver_of j s → HaveSameSpansOf j t u) → Follows db next s after
same_follow db next t u v s after stand of same stands is =
    followed db next t u s after stand of (any_order_stands next v u (same_back u v same) stands) is

-- ---- a registration

-- a driver's row at the front or at the end
pub same_driver : (row : DriverRow) (t : Tables) → SameRows (with_driver row t) (record t { drivers = row ∷ t.drivers })
same_driver row t = record {
  drivers = IsPermutation-to_front t.drivers row;
  downloads = IsPermutation-refl t.downloads;
  card_spans = IsPermutation-refl t.card_spans;
  entries = IsPermutation-refl t.entries;
  held = IsPermutation-refl t.held;
}

-- the tables after a registration's writes represent the state after it
pub driver_follows : (db next : Trees) (row : DriverRow) (t : Tables) (s after : State) → HasTables db t → TablesRepresent t s
    → HasTables next (record t { drivers = row ∷ t.drivers }) → TablesRepresent (with_driver row t) after → Follows db next s after
driver_follows db next row t s after stand of stands is =
    same_follow db next t (with_driver row t) (record t { drivers = row ∷ t.drivers }) s after stand of
    (same_driver row t) stands is (λ j same. record { card_spans = refl; held = refl })

-- ---- an import

-- the rows of an import at the front or at the end
pub same_kept : (n number part : ℕ) (file : List ℕ) (card_gains gains : List Span) (t : Tables)
    → SameRows (with_imported n number part file card_gains gains t) (tables_after_download n number part file (map (span_row n) card_gains) (map (span_row n) gains) t)
same_kept n number part file card_gains gains t = record {
  drivers = IsPermutation-refl (map (with_downloads n number) t.drivers);
  downloads = IsPermutation-to_front t.downloads (record { driver = n; number = number; part = part; file = file });
  card_spans = IsPermutation-append_comm t.card_spans (map (span_row n) card_gains);
  entries = IsPermutation-refl t.entries;
  held = IsPermutation-append_comm t.held (map (span_row n) gains);
}

-- the tables after an import's writes represent the state after it
pub import_follows : (db next : Trees) (n number part : ℕ) (file : List ℕ) (card_gains gains : List Span) (t : Tables) (s after : State)
    → HasTables db t → TablesRepresent t s → HasTables next (tables_after_download n number part file (map (span_row n) card_gains) (map (span_row n) gains) t)
    → TablesRepresent (with_imported n number part file card_gains gains t) after
    → ((j : ℕ) → driver_of j after ≡ driver_of j s → j ≢ n) → Follows db next s after
import_follows db next n number part file card_gains gains t s after stand of stands is other =
    same_follow db next t (with_imported n number part file card_gains gains t)
    (tables_after_download n number part file (map (span_row n) card_gains) (map (span_row n) gains) t) s after stand of
    (same_kept n number part file card_gains gains t) stands is
    (λ j same. record {
      card_spans = added_kept j n t.card_spans card_gains (other j same);
      held = added_kept j n t.held gains (other j same);
    })

-- ---- a batch

-- the rows of a batch at the front or at the end
same_batched : (n first count : ℕ) (batch : List Entry) (gains : List Span) (t : Tables)
    → SameRows (with_entered n first count batch gains t) (tables_after_batch n count (rows_of_entries n first batch) (map (span_row n) gains) t)
same_batched n first count batch gains t = record {
  drivers = IsPermutation-refl (map (with_entries n count) t.drivers);
  downloads = IsPermutation-refl t.downloads;
  card_spans = IsPermutation-refl t.card_spans;
  entries = IsPermutation-append_comm t.entries (rows_of_entries n first batch);
  held = IsPermutation-append_comm t.held (map (span_row n) gains);
}

-- a driver's rows stay as they are if the batch gives no rows, or is another driver's
batch_kept : (j n : ℕ) (rows : List SpanRow) (gains : List Span) → (gains ≡ []) ⊎ (j ≢ n)
    → filter (is_of j) rows ≡ filter (is_of j) (rows ++ map (span_row n) gains)
batch_kept j n rows gains (inl none) = ap (λ (x : List SpanRow). filter (is_of j) x)
    (sym (append-nil rows) ∙ ap (λ (x : List Span). rows ++ map (span_row n) x) (sym none))
batch_kept j n rows gains (inr other) = added_kept j n rows gains other

-- the tables after a batch's writes represent the state after it
pub batch_follows : (db next : Trees) (n first count : ℕ) (batch : List Entry) (gains : List Span) (t : Tables) (s after : State)
    → HasTables db t → TablesRepresent t s → HasTables next (tables_after_batch n count (rows_of_entries n first batch) (map (span_row n) gains) t)
    → TablesRepresent (with_entered n first count batch gains t) after
    → ((j : ℕ) → driver_of j after ≡ driver_of j s → (gains ≡ []) ⊎ (j ≢ n)) → Follows db next s after
batch_follows db next n first count batch gains t s after stand of stands is other =
    same_follow db next t (with_entered n first count batch gains t)
    (tables_after_batch n count (rows_of_entries n first batch) (map (span_row n) gains) t) s after stand of
    (same_batched n first count batch gains t) stands is
    (λ j same. record { card_spans = refl; held = batch_kept j n t.held gains (other j same) })

-- ---- a withdrawal

-- the tables after a withdrawal's writes, with new rows at the front
abbrev pub renewed : ℕ → ℕ → ℕ → ℕ → List SpanRow → Tables → Tables
renewed n number start past rows t = record t {
  entries = map (with_withdrawn n number) t.entries;
  held = rows ++ filter (λ r. not (is_row_near n start past r)) t.held;
}

-- the rows of a withdrawal at the front or at the end
pub same_renewed : (n number start past : ℕ) (spans : List Span) (t : Tables)
    → SameRows (with_renewed n number start past spans t) (renewed n number start past (map (span_row n) spans) t)
same_renewed n number start past spans t = record {
  drivers = IsPermutation-refl t.drivers;
  downloads = IsPermutation-refl t.downloads;
  card_spans = IsPermutation-refl t.card_spans;
  entries = IsPermutation-refl (map (with_withdrawn n number) t.entries);
  held = IsPermutation-append_comm (filter (λ r. not (is_row_near n start past r)) t.held) (map (span_row n) spans);
}

-- the tables after a withdrawal's writes represent the state after it, and have the spans of all other drivers
pub is_renewed : (next : Trees) (n number start past : ℕ) (spans : List Span) (t : Tables) (after : State)
    → HasTables next (renewed n number start past (map (span_row n) spans) t)
    → TablesRepresent (with_renewed n number start past spans t) after → IsRenewed n t next after
is_renewed next n number start past spans t after stored is = record {
  tables = with_renewed n number start past spans t;
  stored = any_order_stands next (renewed n number start past (map (span_row n) spans) t) (with_renewed n number start past spans t)
      (same_back _ _ (same_renewed n number start past spans t)) stored;
  represent = is;
  others = λ j other. record { card_spans = refl; held = renewed_kept j n start past t.held spans other };
}

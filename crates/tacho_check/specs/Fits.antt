-- Private to tacho_check: What a driver's rows have to be, table by table.
use Rattle.std.specs.Prelude.{◌≡◌, ℕ, List, ◌++◌, map, length, IsPermutation}
use Rattle.std.specs.List.{AllByRecursion}
use Rattle.sqlite.specs.Order.{Row}
use Rattle.tacho_time.specs.declared.span.Span.{Span}
use Rattle.tacho_time.specs.Spans.{Gives, Conflicts}
use Rattle.tacho_state.specs.State.{Download, Entry, given_spans, entered_spans}
use Rattle.tacho_state.specs.Disjoint.{GiveExactly}
use Rattle.tacho_state.specs.Within.{IsOf, IsEntry}
use Rattle.tacho_tables.specs.Rows.{span_columns, download_columns, entry_columns}
use Rattle.tacho_reading.specs.Standing.{rows_of_downloads, rows_of_entries, span_row}

-- no minute has two marks
abbrev pub Agrees : List Span → Type 0
Agrees spans = (m : ℕ) → ¬ (Conflicts (Gives spans) m)

-- the downloads have these rows: as many as the driver's row counts, of the driver's card, read again without a contradiction
pub record DownloadsFit (n : ℕ) (holder : List ℕ) (count : ℕ) (rows : List Row) (ds : List Download) : Type 0 where
  pub own : AllByRecursion (IsOf holder) ds
  pub same : IsPermutation (map download_columns (rows_of_downloads n 1 ds)) rows
  pub count_is : length ds ≡ count
  pub agrees : Agrees (given_spans ds)

-- the entries have these rows: as many as the driver's row counts, each within its limits, and without a contradiction to what is given
pub record EntriesFit (n : ℕ) (count : ℕ) (rows : List Row) (given : List Span) (es : List Entry) : Type 0 where
  pub within : AllByRecursion IsEntry es
  pub same : IsPermutation (map entry_columns (rows_of_entries n 1 es)) rows
  pub count_is : length es ≡ count
  pub agrees : Agrees (given ++ entered_spans es)

-- the spans have these rows, and keep what is given
pub record SpansFit (n : ℕ) (rows : List Row) (given : List Span) (spans : List Span) : Type 0 where
  pub same : IsPermutation (map span_columns (map (span_row n) spans)) rows
  pub keeps : GiveExactly spans (Gives given)

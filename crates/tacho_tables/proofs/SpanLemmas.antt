-- The two tables of spans, and what the statements on them do.
use Rattle.std.proofs.Common.{◌≡◌, ℕ, pos, ◌==◌, ◌&&◌, List, [], ◌∷◌, ap, codes, filter, not, Ok, None, refl, subst, sym}
use Rattle.std.specs.Prelude.{nat_lt, nat_le}
use Rattle.sqlite.specs.declared.types.Value.{Value}
use Rattle.sqlite.specs.declared.types.Value.TheVariants.{Int, Null}
use Rattle.sqlite.specs.Cast.{cast_row}
use Rattle.sqlite.specs.Order.{Row}
use Rattle.sqlite.specs.Term.{col}
use Rattle.sqlite.specs.Program.{overlay}
use Rattle.sqlite.specs.State.{State, Executes}
use Rattle.tacho_tables.specs.Schema.{archive_schema, card_span_rows, held_rows, to_driver, spans}
use Rattle.tacho_tables.specs.Rows.{AreRowsOf, SpanRow, span_columns}
use Rattle.tacho_tables.specs.declared.rows.StoredSpan.{StoredSpan}
use Rattle.tacho_tables.specs.declared.spans.SpanTable.{SpanTable}
use Rattle.tacho_tables.specs.declared.spans.SpanTable.TheVariants.{CardSpans, Held}
use Rattle.tacho_tables.specs.Spans.{spans_in, with_span_rows, span_table_rows}
use Rattle.tacho_tables.specs.Tables.{IsArchive, Turns, is_before, is_begun, is_of}
pub use Rattle.tacho_tables.proofs.Answers.{and-true, none_given}
use Rattle.tacho_tables.proofs.Answers.{passes, listed, shows, eq_test, lt_test, le_test}
use Rattle.tacho_tables.proofs.Idle.{idle}
use Rattle.tacho_tables.proofs.Kept.{with_held, with_card_spans}
use Rattle.tacho_tables.proofs.Places.{place_of, name_of, card_spans_at, held_at}
use Rattle.tacho_tables.proofs.Statements.{before, begun, own, held_delete_text, held_delete_is}
use Rattle.tacho_tables.proofs.Stored.{stands_left}
use Rattle.tacho_tables.proofs.TableLemmas.{IsTable, keyed}
use Rattle.tacho_tables.proofs.TurnLemmas.{turns}
use Rattle.tacho_tables.proofs.Writes.{deleted, cast_null, cast_int}

-- a span's columns are stored unchanged
cast_span : (name : List ℕ) (tree : ℕ) (x : SpanRow)
    → cast_row (keyed name (spans name).columns [] tree) (Null ∷ span_columns x) ≡ Null ∷ span_columns x
cast_span name tree x = rw (cast_null, cast_int (pos x.driver), cast_int (pos x.start), cast_int (pos x.past), cast_int (pos x.mark)) refl

-- each of the two is a table
pub span_table : (table : SpanTable) → IsTable span_columns (name_of table) (spans (name_of table)).columns [] (λ layout. place_of table)
    (λ layout. span_table_rows table) (spans_in table) (with_span_rows table)
span_table CardSpans = record {
  at = card_spans_at;
  cast = λ layout. cast_span (codes "card_spans") card_span_rows;
  got = λ xs a. refl;
  same = λ a. refl;
  again = λ xs ys a. refl;
  stands = λ layout db a s same. s.card_spans;
  changed = with_card_spans;
}
span_table Held = record {
  at = held_at;
  cast = λ layout. cast_span (codes "held") held_rows;
  got = λ xs a. refl;
  same = λ a. refl;
  again = λ xs ys a. refl;
  stands = λ layout db a s same. s.held;
  changed = with_held;
}

-- the values of a span, except its driver
abbrev pub span_values : StoredSpan → Row
span_values s = Int (pos s.start) ∷ Int (pos s.past) ∷ Int (pos s.mark) ∷ []

-- the SQL tests of a reading of spans that begin in a range are `is_begun`
pub tests_begun : (driver start past : ℕ) (v : Value) (x : SpanRow)
    → passes begun (Int (pos driver) ∷ Int (pos start) ∷ Int (pos past) ∷ []) (v ∷ span_columns x) ≡ is_begun driver start past x
tests_begun driver start past v x =
    rw (eq_test x.driver driver, le_test start x.start, lt_test x.start past)
    (ap (λ b. (x.driver == driver) && (nat_le start x.start && b)) (and-true (nat_lt x.start past)))

-- the tests of a reading of spans that begin before a minute are `is_before`
pub tests_before : (driver minute : ℕ) (v : Value) (x : SpanRow)
    → passes before (Int (pos driver) ∷ Int (pos minute) ∷ []) (v ∷ span_columns x) ≡ is_before driver minute x
tests_before driver minute v x =
    rw (eq_test x.driver driver, lt_test x.start minute) (ap (λ b. (x.driver == driver) && b) (and-true (nat_lt x.start minute)))

-- the test of a reading of all spans of a driver is `is_of`
pub own_is : (driver : ℕ) (v : Value) (x : SpanRow) → passes own (Int (pos driver) ∷ []) (v ∷ span_columns x) ≡ is_of driver x
own_is driver v x = rw (eq_test x.driver driver) (and-true (x.driver == driver))

-- a DELETE of the spans held that begin in a range keeps the others
pub deletes_begun : (old new : State) (driver start past count : ℕ) → IsArchive old.now
    → Executes held_delete_text (Int (pos driver) ∷ Int (pos start) ∷ Int (pos past) ∷ []) old new (Ok count)
    → Turns old new (λ a. record a { held = filter (λ r. not (is_begun driver start past r)) a.held })
deletes_begun old new driver start past count is h =
    let db = old.now.trees in
    let params = Int (pos driver) ∷ Int (pos start) ∷ Int (pos past) ∷ [] in
    let t = spans (codes "held") in
    let it = held_delete_is is.layout in
    let e = deleted (archive_schema is.layout) old new is.schema held_delete_text it.plain params count 5 (codes "held") 10 t.columns None
    (1 ∷ 2 ∷ []) ((1 ∷ 2 ∷ []) ∷ []) t.orders [] (to_driver ∷ []) (held_at is.layout) (idle is.layout 10) _ it.meant h in
    let l = listed 10 begun (col 1 0 ∷ []) [] (overlay db []) params e.0 (e.1.answer Null) in
    let found = rw (none_given db 10) at (shows 10 begun (col 1 0 ∷ []) [] (overlay db []) params e.0 l) in
    turns old new is e.2 (λ a. record a { held = filter (λ r. not (is_begun driver start past r)) a.held })
    (λ a s same.
    let rest = filter (λ r. not (is_begun driver start past r)) a.held in
    let left = stands_left span_columns (db 10) a.held s.held (passes begun params) (is_begun driver start past)
    (tests_begun driver start past) e.0 found in
    with_held is.layout db e.2.next a e.2.sound s same e.2.applies.tables rest
    (subst (λ rs. AreRowsOf span_columns rs rest) (sym e.2.applies.rows) left))

use Rattle.std.proofs.Common.{pos, ◌∷◌, ◌++◌, map, flat_map, refl, subst, sym}
use Rattle.sqlite.specs.declared.types.Value.TheVariants.{Int}
use Rattle.sqlite.specs.Held.{state}
use Rattle.tacho_tables.specs.declared.rows.StoredSpan.{StoredSpan}
use Rattle.tacho_tables.specs.Spans.{spans_in, with_span_rows, eight_text}
use Rattle.tacho_tables.specs.Tables.{Turns, row_of}
use Rattle.tacho_tables.proofs.CallLemmas.{changes}
use Rattle.tacho_tables.proofs.Firsts.{some_from, by_places}
use Rattle.tacho_tables.proofs.SpanLemmas.{span_table, span_values}
use Rattle.tacho_tables.proofs.Statements.{eight, eight_is}
use Rattle.tacho_tables.proofs.TableLemmas.{adds_rows}
use Rattle.tacho_tables.proofs.spans.insert_eight.Goals as goal

-- a default span
abbrev none : StoredSpan
none = record { start = 0; past = 0; mark = 0 }

pub returns : goal.returns
returns g c =
    let table = c.args.table in
    let old = state g.S.Store c.args.tx.now.conn.now in
    let new = state g.S.Store c.run.new.tx.conn.now in
    let driver = c.args.driver in
    let spans = some_from none 8 0 c.args.spans.now in
    changes
    (rw (c.params-to_sql-14.ensures, c.params-to_sql-15.ensures, c.params-to_sql-16.ensures, c.params-to_sql-17.ensures, c.params-to_sql-18.ensures, c.params-to_sql-19.ensures, c.params-to_sql-20.ensures, c.params-to_sql-21.ensures, c.params-to_sql-22.ensures, c.params-to_sql-23.ensures, c.params-to_sql-24.ensures, c.params-to_sql-25.ensures) at
    (rw (c.eight_text.ensures, c.params-to_sql.ensures, c.params-to_sql-2.ensures, c.params-to_sql-3.ensures, c.params-to_sql-4.ensures, c.params-to_sql-5.ensures, c.params-to_sql-6.ensures, c.params-to_sql-7.ensures, c.params-to_sql-8.ensures, c.params-to_sql-9.ensures, c.params-to_sql-10.ensures, c.params-to_sql-11.ensures, c.params-to_sql-12.ensures, c.params-to_sql-13.ensures) at
    c.run.ensures))
    (λ is count ran. subst (λ l. Turns old new (λ a. with_span_rows table (map (row_of driver) l ++ spans_in table a) a))
    (sym (by_places none 8 c.args.spans.now c.told-spans))
    (adds_rows (span_table table) (eight_text table) eight 5 (Int (pos driver) ∷ flat_map span_values spans) (map (row_of driver) spans) _ _
    count is (eight_is table) refl ran))

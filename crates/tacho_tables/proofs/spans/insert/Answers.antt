use Rattle.std.proofs.Common.{refl, ◌∷◌, []}
use Rattle.tacho_tables.specs.Rows.{span_columns}
use Rattle.tacho_tables.specs.Spans.{insert_text}
use Rattle.tacho_tables.specs.Tables.{row_of}
use Rattle.tacho_tables.proofs.CallLemmas.{changes}
use Rattle.tacho_tables.proofs.SpanLemmas.{span_table}
use Rattle.tacho_tables.proofs.Statements.{four, insert_is}
use Rattle.tacho_tables.proofs.TableLemmas.{adds_rows}
use Rattle.tacho_tables.proofs.spans.insert.Goals as goal

pub returns : goal.returns
returns g c =
    let table = c.args.table in
    let row = row_of c.args.driver c.args.span.now in
    changes (rw (c.insert_text.ensures, c.params-to_sql.ensures, c.params-to_sql-2.ensures, c.params-to_sql-3.ensures, c.params-to_sql-4.ensures)
    at c.run.ensures)
    (λ is count ran. adds_rows (span_table table) (insert_text table) four 5 (span_columns row) (row ∷ []) _ _ count is (insert_is table) refl ran)

use Rattle.std.proofs.Common.{refl}
use Rattle.tacho_tables.specs.Spans.{begun_text}
use Rattle.tacho_tables.specs.Tables.{is_begun, span_shown}
use Rattle.tacho_tables.proofs.CallLemmas.{finds}
use Rattle.tacho_tables.proofs.Reading.{spans_read}
use Rattle.tacho_tables.proofs.SpanLemmas.{span_table, tests_begun}
use Rattle.tacho_tables.proofs.Statements.{begun_is}
use Rattle.tacho_tables.proofs.TableLemmas.{shows_rows}
use Rattle.tacho_tables.proofs.spans.begun.Goals as goal

pub returns : goal.returns
returns g c =
    let table = c.args.table in
    let driver = c.args.driver in
    let start = c.args.start in
    let past = c.args.past in
    finds (rw (c.begun_text.ensures, c.params-to_sql.ensures, c.params-to_sql-2.ensures, c.params-to_sql-3.ensures) at c.all.ensures)
    (λ layout. (begun_is table layout).plain)
    (λ is rows shown a s found made. spans_read (λ x. x) _ rows
    (shows_rows (span_table table) (begun_text table) _ _ _ _ (begun_is table) _ (is_begun driver start past)
    (tests_begun driver start past) span_shown (λ v x. refl) _ _ rows is shown a s) found.items made)

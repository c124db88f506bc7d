use Rattle.tacho_tables.proofs.CallLemmas.{finds}
use Rattle.tacho_tables.proofs.LatestLemmas.{finds_latest}
use Rattle.tacho_tables.proofs.Statements.{before_is}
use Rattle.tacho_tables.proofs.spans.last_before.Goals as goal

pub returns : goal.returns
returns g c =
    let table = c.args.table in
    finds (rw (c.before_text.ensures, c.params-to_sql.ensures, c.params-to_sql-2.ensures) at c.first.ensures)
    (λ layout. (before_is table layout).plain)
    (λ is rows shown a s found first. finds_latest table c.args.driver c.args.minute _ _ rows is shown a s found first)

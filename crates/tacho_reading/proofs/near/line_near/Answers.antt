use Rattle.std.proofs.Common.{rules}
use Rattle.tacho_reading.proofs.LineWithinLemmas.{near_told}
use Rattle.tacho_reading.proofs.TellLemmas.{tells_as, tells_handed, tells_rows}
use Rattle.tacho_reading.proofs.near.line_near.Goals as goal

pub returns : goal.returns
returns g c = tells_as (tells_rows c.rows_near.ensures c.in_ok-rows.ensures.cases) (search rules) (λ db s stands read.
    near_told db s c.args.table c.args.driver c.args.start c.args.past c.in_ok-rows.rows.items c.line_of_stored.result read
    (rw c.deref.ensures.value at c.line_of_stored.ensures.line) c.line_of_stored.ensures.fault)

pub returns-in_err-rows : goal.returns-in_err-rows
returns-in_err-rows g c = tells_handed (tells_rows c.rows_near.ensures c.in_err-rows.ensures.cases) c.from_residual.ensures (search rules)

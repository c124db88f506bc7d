use Rattle.std.proofs.Common.{rules}
use Rattle.std.proofs.lemmas.Result.{IfOk-weaker}
use Rattle.tacho_reading.proofs.LookUpLemmas.{given_up}
use Rattle.tacho_reading.proofs.TellLemmas.{answers_handed, tells_as, tells_rows, tells_then, unknown_answers}
use Rattle.tacho_reading.proofs.TimelineLemmas.{line_told, told_or_gave_up}
use Rattle.tacho_reading.proofs.reading.line_in.Goals as goal

pub returns-in_err-driver_with : goal.returns-in_err-driver_with
returns-in_err-driver_with g c = unknown_answers _ _ _ c.in_err-driver_with.ensures c.from_residual.ensures

pub returns : goal.returns
returns g c = tells_as (tells_then c.in_ok-driver_with.ensures (tells_rows c.of_driver.ensures c.in_ok-rows.ensures.cases)) (search rules)
    (λ db s stands (driver, read). told_or_gave_up _ c.line_of_stored.result _
    (IfOk-weaker c.line_of_stored.result _ _ (λ line of. line_told db _ s driver.found.0 c.in_ok-rows.rows.items line stands driver.found.1 read
    (rw c.deref.ensures.value at of)) c.line_of_stored.ensures.line) c.line_of_stored.ensures.fault)

pub returns-in_err-rows : goal.returns-in_err-rows
returns-in_err-rows g c = answers_handed _ _ (tells_then c.in_ok-driver_with.ensures (tells_rows c.of_driver.ensures c.in_err-rows.ensures.cases))
    c.from_residual-in_err-rows.ensures (λ db s stands (driver, up). given_up _ _ up)

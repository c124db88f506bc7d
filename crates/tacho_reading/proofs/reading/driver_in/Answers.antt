use Rattle.std.proofs.Common.{rules}
use Rattle.tacho_reading.proofs.SummaryLemmas.{driver_told}
use Rattle.tacho_reading.proofs.TellLemmas.{tells_as, unknown_answers}
use Rattle.tacho_reading.proofs.reading.driver_in.Goals as goal

pub returns-in_err-stored : goal.returns-in_err-stored
returns-in_err-stored g c = unknown_answers _ _ _ c.in_err-stored.ensures c.from_residual.ensures

pub returns : goal.returns
returns g c = tells_as c.in_ok-stored.ensures (search rules) (λ db s stands it.
    rw c.ok_or.ensures.value
    (driver_told c.args.driver s it.found.0 c.in_ok-stored.stored c.summary_of.result it.found.1 it.found.2 c.summary_of.ensures.some))

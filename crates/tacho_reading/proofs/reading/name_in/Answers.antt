use Rattle.tacho_reading.proofs.ReportLemmas.{name_told}
use Rattle.tacho_reading.proofs.TellLemmas.{tells_as, unknown_answers}
use Rattle.tacho_reading.proofs.reading.name_in.Goals as goal

pub returns-in_err-stored : goal.returns-in_err-stored
returns-in_err-stored g c = unknown_answers _ _ _ c.in_err-stored.ensures c.from_residual.ensures

pub returns : goal.returns
returns g c = tells_as c.in_ok-stored.ensures tt
    (λ db s stands it. name_told c.args.driver s it.found.0 c.in_ok-stored.stored it.found.1 it.found.2)

use Rattle.tacho_reading.proofs.LookUpLemmas.{given_up}
use Rattle.tacho_state.specs.Steps.{file_reading}
use Rattle.tacho_reading.proofs.ReadingLemmas.{file_answered, file_no_file, file_told}
use Rattle.tacho_reading.proofs.TellLemmas.{answers_handed, tells_as, tells_rows, tells_then, unknown_answers}
use Rattle.tacho_reading.proofs.reading.download_in.Goals as goal

pub returns-in_err-driver_with : goal.returns-in_err-driver_with
returns-in_err-driver_with g c = unknown_answers _ _ _ c.in_err-driver_with.ensures c.from_residual.ensures

pub returns : goal.returns
returns g c = tells_as (tells_then c.in_ok-driver_with.ensures (tells_rows c.file.ensures c.in_ok-found.ensures.cases))
    (file_no_file c.in_ok-found.found c.known_file.result c.known_file.ensures)
    (λ db s stands (it, read). file_answered c.in_ok-found.found c.known_file.result (file_reading c.args.driver c.args.number s)
    c.known_file.ensures (file_told db c.args.driver c.args.number s c.in_ok-found.found it.found.0 it.found.1 stands read))

pub returns-in_err-found : goal.returns-in_err-found
returns-in_err-found g c = answers_handed _ _ (tells_then c.in_ok-driver_with.ensures (tells_rows c.file.ensures c.in_err-found.ensures.cases))
    c.from_residual-in_err-found.ensures (λ db s stands (it, up). given_up _ _ up)

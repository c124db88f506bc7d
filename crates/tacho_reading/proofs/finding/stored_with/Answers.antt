use Rattle.tacho_reading.proofs.DriverRowLemmas.{number_none, number_some}
use Rattle.tacho_reading.proofs.LookUpLemmas.{is_stored, looked_up}
use Rattle.tacho_reading.proofs.TellLemmas.{found_rows}
use Rattle.tacho_reading.proofs.finding.stored_with.Goals as goal

pub returns : goal.returns
returns g c = found_rows c.by_number.ensures c.map_err.ensures.cases (λ db s stands found.
    looked_up _ _ db s _ _ found stands (λ t. number_none t s _) (λ t. number_some t s _) (λ distinct it d is. is_stored it d))

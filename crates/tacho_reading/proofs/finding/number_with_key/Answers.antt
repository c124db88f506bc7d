use Rattle.tacho_reading.proofs.DriverRowLemmas.{key_none, key_some}
use Rattle.tacho_reading.proofs.LookUpLemmas.{looked_up}
use Rattle.tacho_reading.proofs.TellLemmas.{found_rows}
use Rattle.tacho_reading.proofs.finding.number_with_key.Goals as goal

pub returns : goal.returns
returns g c = found_rows c.number_by_secret.ensures c.map_err.ensures.cases (λ db s stands found.
    looked_up _ _ db s _ _ found stands (λ t. key_none t s _) (λ t. key_some t s _) (λ distinct n d is number. number))

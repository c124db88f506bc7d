use Rattle.std.proofs.Common.{◌∙◌, ap}
use Rattle.tacho_state.specs.State.{driver_of}
use Rattle.tacho_reading.proofs.DriverRowLemmas.{holder_none, holder_number, holder_some}
use Rattle.tacho_reading.proofs.LookUpLemmas.{looked_up}
use Rattle.tacho_reading.proofs.TellLemmas.{found_rows}
use Rattle.tacho_reading.proofs.finding.number_with_holder.Goals as goal

pub returns : goal.returns
returns g c = found_rows c.number_by_holder.ensures c.map_err.ensures.cases (λ db s stands found.
    looked_up _ _ db s _ _ found stands (λ t. holder_none t s _)
    (λ t row of one. let it = holder_some t s _ row of one in (it.0, it.1, it.3))
    (λ distinct n d is number. record { number = number; found = ap (λ m. driver_of m s) number ∙ holder_number s _ d distinct is }))

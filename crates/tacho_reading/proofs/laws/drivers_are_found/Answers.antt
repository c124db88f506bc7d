use Rattle.tacho_reading.proofs.DriverRowLemmas.{number_none, number_some}
use Rattle.tacho_reading.proofs.laws.drivers_are_found.Goals as goal

pub returns : goal.returns
returns c = record { none = number_none; some = number_some }

use Rattle.tacho_reading.proofs.DriverRowLemmas.{key_none, key_some}
use Rattle.tacho_reading.proofs.laws.keys_are_found.Goals as goal

pub returns : goal.returns
returns c = record { none = key_none; some = key_some }

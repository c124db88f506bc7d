use Rattle.tacho_reading.proofs.DriverRowLemmas.{holder_none, holder_some}
use Rattle.tacho_reading.proofs.laws.holders_are_found.Goals as goal

pub returns : goal.returns
returns c = record { none = holder_none; some = holder_some }

use Rattle.tacho_line.proofs.LocalLaw.{near_gains, near_contradiction, taken_out}
use Rattle.tacho_line.proofs.laws.local.Goals as goal

pub returns : goal.returns
returns c = record { gains = near_gains; contradiction = near_contradiction; outside = taken_out }

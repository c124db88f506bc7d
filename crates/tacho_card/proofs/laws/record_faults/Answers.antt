use Rattle.tacho_card.proofs.RecordLaw.{record_reading}
use Rattle.tacho_card.proofs.laws.record_faults.Goals as goal

pub returns : goal.returns
returns c = record_reading

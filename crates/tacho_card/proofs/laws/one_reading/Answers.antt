use Rattle.tacho_card.proofs.ReadingLaw.{one_of_data}
use Rattle.tacho_card.proofs.laws.one_reading.Goals as goal

pub returns : goal.returns
returns c = one_of_data

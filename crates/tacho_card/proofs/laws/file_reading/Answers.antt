use Rattle.tacho_card.proofs.FileReadingLaw.{some_reading, one_reading}
use Rattle.tacho_card.proofs.laws.file_reading.Goals as goal

pub returns : goal.returns
returns c = record { some = some_reading; one = one_reading }

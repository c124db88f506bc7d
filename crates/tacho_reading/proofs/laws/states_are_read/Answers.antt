use Rattle.tacho_reading.proofs.StateLemmas.{files_read}
use Rattle.tacho_reading.proofs.laws.states_are_read.Goals as goal

pub returns : goal.returns
returns c = record { distinct = λ t s is. is.distinct; files = λ t s is. files_read t s is.each }

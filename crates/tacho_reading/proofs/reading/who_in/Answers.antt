use Rattle.tacho_reading.proofs.ReadingLemmas.{owner_told}
use Rattle.tacho_reading.proofs.TellLemmas.{tells_weaker}
use Rattle.tacho_reading.proofs.reading.who_in.Goals as goal

pub returns : goal.returns
returns g c = tells_weaker c.number_with_key.ensures (λ db s stands. owner_told c.args.key.now s c.number_with_key.result)

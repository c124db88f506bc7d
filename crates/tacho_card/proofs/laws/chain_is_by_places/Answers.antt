use Rattle.tacho_card.proofs.ChainLaw.{by_places}
use Rattle.tacho_card.proofs.laws.chain_is_by_places.Goals as goal

pub returns : goal.returns
returns c = by_places

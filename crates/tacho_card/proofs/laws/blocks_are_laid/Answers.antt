use Rattle.tacho_card.proofs.BlockLaw.{laid}
use Rattle.tacho_card.proofs.laws.blocks_are_laid.Goals as goal

pub returns : goal.returns
returns c = laid

use Rattle.tacho_card.proofs.BlockLaw.{one_list}
use Rattle.tacho_card.proofs.laws.one_block_list.Goals as goal

pub returns : goal.returns
returns c = one_list

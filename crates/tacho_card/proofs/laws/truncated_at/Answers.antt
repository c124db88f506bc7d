use Rattle.tacho_card.proofs.BlockLaw.{truncated}
use Rattle.tacho_card.proofs.laws.truncated_at.Goals as goal

pub returns : goal.returns
returns c = truncated

use Rattle.tacho_card.proofs.FileLaw.{holder_named}
use Rattle.tacho_card.proofs.laws.holder_is_named.Goals as goal

pub returns : goal.returns
returns c = holder_named

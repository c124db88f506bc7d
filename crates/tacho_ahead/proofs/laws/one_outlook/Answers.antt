use Rattle.tacho_ahead.proofs.OneLemmas.{one_outlook}
use Rattle.tacho_ahead.proofs.laws.one_outlook.Goals as goal

pub returns : goal.returns
returns c = one_outlook

use Rattle.tacho_handover.proofs.HandedLemmas.{all_given}
use Rattle.tacho_handover.proofs.laws.all_is_given.Goals as goal

pub returns : goal.returns
returns c = all_given

use Rattle.tacho_carry.proofs.HeldLemmas.{reach_is}
use Rattle.tacho_carry.proofs.laws.files_that_reach_the_day.Goals as goal

pub returns : goal.returns
returns c = reach_is

use Rattle.tacho_check.proofs.UnsoundLemmas.{no_state}
use Rattle.tacho_check.proofs.laws.unsound_is_no_state.Goals as goal

pub returns : goal.returns
returns c = no_state

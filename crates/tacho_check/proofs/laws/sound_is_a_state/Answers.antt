use Rattle.tacho_check.proofs.StateLemmas.{all_represent}
use Rattle.tacho_check.proofs.laws.sound_is_a_state.Goals as goal

pub returns : goal.returns
returns c = all_represent

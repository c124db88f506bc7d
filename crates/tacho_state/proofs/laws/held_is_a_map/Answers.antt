use Rattle.tacho_state.proofs.MapLemmas.{held_map}
use Rattle.tacho_state.proofs.laws.held_is_a_map.Goals as goal

pub returns : goal.returns
returns c = held_map

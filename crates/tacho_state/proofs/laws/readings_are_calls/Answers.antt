use Rattle.tacho_state.proofs.RunLemmas.{reading_is_call}
use Rattle.tacho_state.proofs.laws.readings_are_calls.Goals as goal

pub returns : goal.returns
returns g c view old new result told reads =
    reading_is_call result told reads (λ s states keeper left. g.K.Keeper.leaves_more keeper s states left)

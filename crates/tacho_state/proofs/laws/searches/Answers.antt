use Rattle.tacho_state.proofs.LeastLemmas.{least_is, none_is, within_is, not_within}
use Rattle.tacho_state.proofs.laws.searches.Goals as goal

pub returns : goal.returns
returns c = record { least = least_is; none = none_is; within = within_is; new = not_within }

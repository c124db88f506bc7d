use Rattle.tacho_state.proofs.RunLemmas.{command_is_call}
use Rattle.tacho_state.proofs.laws.commands_are_calls.Goals as goal

pub returns : goal.returns
returns g c view old new result step acts other = command_is_call result step acts other

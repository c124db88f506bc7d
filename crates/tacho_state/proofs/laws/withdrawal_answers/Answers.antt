use Rattle.tacho_state.proofs.StepLemmas.{withdrawn_entry}
use Rattle.tacho_state.proofs.laws.withdrawal_answers.Goals as goal

pub returns : goal.returns
returns c = withdrawn_entry

use Rattle.tacho_state.proofs.StepLemmas.{contradicted_batch, entered_batch, full_batch}
use Rattle.tacho_state.proofs.laws.enter_answers.Goals as goal

pub returns : goal.returns
returns c = record { contradicted = contradicted_batch; entered = entered_batch; full = full_batch }

use Rattle.tacho_state.specs.Batch.{batch_of}
use Rattle.tacho_reading.proofs.TellLemmas.{tells_then}
use Rattle.tacho_store.proofs.StepsLemmas.{steps_refused, steps_told, unknown_steps}
use Rattle.tacho_store.proofs.EnteringLemmas.{batch_refused, enters}
use Rattle.tacho_store.proofs.entering.enter_in.Goals as goal

pub returns-in_err-found-clause-steps : goal.returns-in_err-found-clause-steps
returns-in_err-found-clause-steps g c = unknown_steps _ _ _ c.in_err-found.ensures c.from_residual.ensures

pub returns-in_err-gains-clause-steps : goal.returns-in_err-gains-clause-steps
returns-in_err-gains-clause-steps g c = steps_refused _ _ (tells_then c.in_ok-found.ensures c.in_err-gains.ensures)
    c.from_residual-in_err-gains.ensures (λ db s stands (it, gains). batch_refused c.args.driver s (batch_of c.args.lines.now)
    it.found.0 _ it.found.1 (gains it.found.0 it.found.1).refused)

pub returns-clause-steps : goal.returns-clause-steps
returns-clause-steps g c = steps_told (tells_then c.in_ok-found.ensures c.in_ok-gains.ensures) c.add_batch.ensures.steps
    (λ db s stands (it, gains). (
      it.found.0,
      (it.found.2.entries, rw c.deref-2.ensures.value (gains it.found.0 it.found.1).found),
      enters c.args.driver s (batch_of c.args.lines.now) it.found.0 it.found.1,
    ))

use Rattle.std.proofs.Common.{refl}
use Rattle.tacho_state.specs.Steps.{rekey_own}
use Rattle.tacho_store.proofs.OwnLemmas.{own_answer, own_follows}
use Rattle.tacho_store.proofs.RegistrationTablesLemmas.{rekeyed_is}
use Rattle.tacho_store.proofs.StepsLemmas.{steps_refused, steps_written}
use Rattle.tacho_store.proofs.own.rekey_in.Goals as goal

pub returns-in_err-ask_key : goal.returns-in_err-ask_key
returns-in_err-ask_key g c = steps_refused _ _ c.in_err-ask_key.ensures c.from_residual.ensures (λ db s stands asked. asked.refused)

pub returns : goal.returns
returns g c = steps_written c.in_ok-ask_key.ensures c.set_key.ensures c.map_err.ensures.cases
    (λ db s stands asked.
    let can = asked.found.1 in
    rw can.free (own_answer c.args.driver s asked.found.0 _ (rekey_own c.args.key.now) can.driver refl))
    (λ db next s stands asked turns.
    let can = asked.found.1 in
    rw can.free (own_follows c.args.driver s asked.found.0 _ (rekey_own c.args.key.now) can.driver refl _
    (λ t of. rekeyed_is t s c.args.driver c.args.key.now asked.found.0 of can.driver can.free) db next stands turns))

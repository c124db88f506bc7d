use Rattle.std.proofs.Common.{refl}
use Rattle.tacho_state.specs.Steps.{rename_own}
use Rattle.tacho_store.proofs.OwnLemmas.{own_answer, own_follows}
use Rattle.tacho_store.proofs.RegistrationTablesLemmas.{renamed_is}
use Rattle.tacho_store.proofs.StepsLemmas.{steps_written, unknown_steps}
use Rattle.tacho_store.proofs.own.rename_in.Goals as goal

pub returns-in_err-driver_with : goal.returns-in_err-driver_with
returns-in_err-driver_with g c = unknown_steps _ _ (rename_own c.args.name.now) c.in_err-driver_with.ensures c.from_residual.ensures

pub returns : goal.returns
returns g c = steps_written c.in_ok-driver_with.ensures c.set_name.ensures c.map_err.ensures.cases
    (λ db s stands it. own_answer c.args.driver s it.found.0 _ (rename_own c.args.name.now) it.found.1 refl)
    (λ db next s stands it. own_follows c.args.driver s it.found.0 _ (rename_own c.args.name.now) it.found.1 refl _
    (λ t of. renamed_is t s c.args.driver c.args.name.now it.found.0 of it.found.1) db next stands)

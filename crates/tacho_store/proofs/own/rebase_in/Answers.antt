use Rattle.std.proofs.Common.{◌∙◌, Err, ap, subst}
use Rattle.tacho_state.specs.declared.fault.StoreFault.TheVariants.{NotMonday}
use Rattle.tacho_state.specs.Acts.{IsOfNoFile}
use Rattle.tacho_reading.proofs.LookUpLemmas.{is_told}
use Rattle.tacho_reading.proofs.TellLemmas.{tells_as}
use Rattle.tacho_store.proofs.RefusalLemmas.{failed, passed}
use Rattle.tacho_state.specs.Steps.{rebase_own}
use Rattle.tacho_store.proofs.OwnLemmas.{is_based, no_monday, own_answer, own_follows}
use Rattle.tacho_store.proofs.RegistrationTablesLemmas.{rebased_is}
use Rattle.tacho_store.proofs.StepsLemmas.{steps_refused, steps_written, unknown_steps}
use Rattle.tacho_store.proofs.own.rebase_in.Goals as goal

pub returns-in_err-driver_with : goal.returns-in_err-driver_with
returns-in_err-driver_with g c = unknown_steps _ _ _ c.in_err-driver_with.ensures c.from_residual.ensures

pub returns-in_err-ask_monday : goal.returns-in_err-ask_monday
returns-in_err-ask_monday g c =
    let other = failed _ _ NotMonday _ c.in_err-ask_monday.ensures in
    steps_refused {C = Unit {0}} _ _ (tells_as {B = Unit {0}} {r = Err _} c.in_ok-driver_with.ensures (subst (λ f. IsOfNoFile {A = Unit {0}} (Err f)) other.1 tt) (λ db s stands it. it))
    c.from_residual-in_err-ask_monday.ensures
    (λ db s stands it. is_told _ _ (no_monday c.args.driver c.args.base s it.found.0 it.found.1 other.0 ∙ ap Err other.1))

pub returns : goal.returns
returns g c = steps_written c.in_ok-driver_with.ensures c.set_base.ensures c.map_err.ensures.cases
    (λ db s stands it. own_answer c.args.driver s it.found.0 _ (rebase_own c.args.base) it.found.1
    (is_based c.args.base it.found.0 (passed _ _ _ _ c.in_ok-ask_monday.ensures)))
    (λ db next s stands it turns. own_follows c.args.driver s it.found.0 _ (rebase_own c.args.base) it.found.1
    (is_based c.args.base it.found.0 (passed _ _ _ _ c.in_ok-ask_monday.ensures)) _
    (λ t of. rebased_is t s c.args.driver c.args.base it.found.0 of it.found.1) db next stands (rw c.number.ensures.value at turns))

use Rattle.std.proofs.Common.{◌∙◌, Err, ap, subst}
use Rattle.tacho_state.specs.declared.fault.StoreFault.TheVariants.{NotMonday}
use Rattle.tacho_state.specs.Acts.{IsOfNoFile}
use Rattle.tacho_reading.proofs.LookUpLemmas.{is_told}
use Rattle.tacho_reading.proofs.TellLemmas.{tells_as}
use Rattle.tacho_store.proofs.RefusalLemmas.{failed, passed}
use Rattle.tacho_store.proofs.StepsLemmas.{steps_refused, steps_written}
use Rattle.tacho_store.proofs.RegistrationLemmas.{no_monday, goes_in, row_added}
use Rattle.tacho_store.proofs.own.register_in.Goals as goal

pub returns-in_err-ask_free : goal.returns-in_err-ask_free
returns-in_err-ask_free g c = steps_refused _ _ c.in_err-ask_free.ensures c.from_residual.ensures (λ db s stands asked. asked.refused)

pub returns-in_err-ask_monday : goal.returns-in_err-ask_monday
returns-in_err-ask_monday g c =
    let other = failed _ _ NotMonday _ (rw c.base.ensures at c.in_err-ask_monday.ensures) in
    steps_refused {C = Unit {0}} _ _ (tells_as {B = Unit {0}} {r = Err _} c.in_ok-ask_free.ensures (subst (λ f. IsOfNoFile {A = Unit {0}} (Err f)) other.1 tt) (λ db s stands asked. asked))
    c.from_residual-in_err-ask_monday.ensures
    (λ db s stands asked. is_told _ _ (no_monday _ _ _ _ _ s asked.found other.0 ∙ ap Err other.1))

pub returns : goal.returns
returns g c = steps_written c.in_ok-ask_free.ensures c.insert.ensures c.map_err.ensures.cases
    (λ db s stands asked. goes_in _ _ _ _ _ s asked.found (passed _ _ _ _ (rw c.base.ensures at c.in_ok-ask_monday.ensures)))
    (λ db next s stands asked turns. row_added _ _ _ _ _ s asked.found _ _
    (passed _ _ _ _ (rw c.base.ensures at c.in_ok-ask_monday.ensures)) stands
    (rw (c.number.ensures, c.holder.ensures, c.key.ensures, c.number-2.ensures.value, c.base-2.ensures, c.name.ensures) at turns))

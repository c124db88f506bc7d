use Rattle.std.proofs.Common.{◌∙◌, sym}
use Rattle.tacho_reading.proofs.LookUpLemmas.{given_up}
use Rattle.tacho_reading.proofs.TellLemmas.{found_handed, tells_as, tells_then}
use Rattle.tacho_store.proofs.RegistrationLemmas.{free_answer, free_no_file, taken}
use Rattle.tacho_store.proofs.own.ask_free.Goals as goal

pub returns-in_err-by_number : goal.returns-in_err-by_number
returns-in_err-by_number g c = found_handed c.in_err-by_number.ensures c.from_residual.ensures (λ db s stands up. given_up _ _ up)

pub returns-in_err-by_key : goal.returns-in_err-by_key
returns-in_err-by_key g c = found_handed (tells_then c.in_ok-by_number.ensures c.in_err-by_key.ensures) c.from_residual-in_err-by_key.ensures
    (λ db s stands (number, up). given_up _ _ up)

pub returns-in_err-by_holder : goal.returns-in_err-by_holder
returns-in_err-by_holder g c =
    found_handed (tells_then c.in_ok-by_number.ensures (tells_then c.in_ok-by_key.ensures c.in_err-by_holder.ensures))
    c.from_residual-in_err-by_holder.ensures (λ db s stands (number, (key, up)). given_up _ _ up)

pub returns : goal.returns
returns g c = tells_as (tells_then c.in_ok-by_number.ensures (tells_then c.in_ok-by_key.ensures c.in_ok-by_holder.ensures))
    (free_no_file _ _ _ c.ask_taken.result c.ask_taken.ensures)
    (λ db s stands (number, (key, holder)). free_answer _ _ _ _ _ s _ _ _ c.ask_taken.result c.ask_taken.ensures
    (taken _ _ _ (rw c.number.ensures at number) ∙ sym c.is_some.ensures)
    (taken _ _ _ (rw (c.as_bytes.ensures.value, c.key.ensures) at key) ∙ sym c.is_some-2.ensures)
    (taken _ _ _ (rw c.holder.ensures at holder) ∙ sym c.is_some-3.ensures))

use Rattle.std.proofs.Common.{◌≡◌, ◌∙◌, false, refl, sym}
use Rattle.tacho_state.specs.State.{driver_of, driver_with_key}
use Rattle.tacho_state.specs.Steps.{is_another, own_turn, rekey_own, rekey_step}
use Rattle.tacho_shelf.proofs.CallLemmas.{acts_on, numbered_on}
use Rattle.tacho_shelf.proofs.shelf.ShelfKeeper.rekey.Goals as goal

pub invariant_of-self : goal.invariant_of-self
invariant_of-self c =
    numbered_on c.args.driver c.in_ok-place.place _ _ c.index_mut.result.now c.rekey.new.self c.self.view_is c.self.invariant
    c.in_ok-place.ensures c.index_mut.ensures.value c.rekey.ensures.number

pub returns-clause-rekeyed : goal.returns-clause-rekeyed
returns-clause-rekeyed c =
    let s = c.args.self.now in
    let free : is_another c.args.driver (driver_with_key c.args.key.now s) ≡ false =
    sym (rw c.as_bytes.ensures.value at c.is_key_of_another.ensures) ∙ c.if-is_key_of_another.false in
    let turn : rekey_step c.args.driver c.args.key.now s ≡ own_turn (rekey_own c.args.key.now) s (driver_of c.args.driver s) =
    rw free refl in
    acts_on (λ (u : Unit {0}). tt) (rekey_own c.args.key.now) (rekey_step c.args.driver c.args.key.now) c.args.driver c.in_ok-place.place
    _ _ c.index_mut.result.now c.rekey.new.self c.rekey.result turn c.self.view_is c.self.invariant c.in_ok-place.ensures
    c.index_mut.ensures.value c.rekey.ensures

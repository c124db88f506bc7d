use Rattle.std.proofs.Common.{refl}
use Rattle.tacho_state.specs.Steps.{rename_own, rename_step}
use Rattle.tacho_shelf.proofs.CallLemmas.{acts_on, numbered_on}
use Rattle.tacho_shelf.proofs.shelf.ShelfKeeper.rename.Goals as goal

pub invariant_of-self : goal.invariant_of-self
invariant_of-self c =
    numbered_on c.args.driver c.in_ok-place.place _ _ c.index_mut.result.now c.rename.new.self c.self.view_is c.self.invariant
    c.in_ok-place.ensures c.index_mut.ensures.value c.rename.ensures.number

pub returns-clause-renamed : goal.returns-clause-renamed
returns-clause-renamed c =
    acts_on (λ (u : Unit {0}). tt) (rename_own c.args.name.now) (rename_step c.args.driver c.args.name.now)
    c.args.driver c.in_ok-place.place _ _ c.index_mut.result.now c.rename.new.self c.rename.result refl c.self.view_is
    c.self.invariant c.in_ok-place.ensures c.index_mut.ensures.value c.rename.ensures

use Rattle.std.proofs.Common.{refl}
use Rattle.tacho_state.specs.Steps.{rebase_own, rebase_step}
use Rattle.tacho_shelf.proofs.CallLemmas.{acts_on, numbered_on}
use Rattle.tacho_shelf.proofs.shelf.ShelfKeeper.rebase.Goals as goal

pub invariant_of-self : goal.invariant_of-self
invariant_of-self c =
    numbered_on c.args.driver c.in_ok-place.place _ _ c.index_mut.result.now c.rebase.new.self c.self.view_is c.self.invariant
    c.in_ok-place.ensures c.index_mut.ensures.value c.rebase.ensures.number

pub returns-clause-rebased : goal.returns-clause-rebased
returns-clause-rebased c =
    acts_on (λ (u : Unit {0}). tt) (rebase_own c.args.base) (rebase_step c.args.driver c.args.base) c.args.driver c.in_ok-place.place
    _ _ c.index_mut.result.now c.rebase.new.self c.rebase.result refl c.self.view_is c.self.invariant c.in_ok-place.ensures
    c.index_mut.ensures.value c.rebase.ensures

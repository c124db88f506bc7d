use Rattle.std.proofs.Common.{refl, ◌+◌, ◌-◌}
use Rattle.tacho_state.specs.Steps.{withdraw_from, withdraw_range_step}
use Rattle.tacho_shelf.proofs.CallLemmas.{acts_on, numbered_on}
use Rattle.tacho_shelf.proofs.shelf.ShelfKeeper.withdraw.Goals as goal

pub invariant_of-self : goal.invariant_of-self
invariant_of-self c =
    numbered_on c.args.driver c.in_ok-place.place _ _ c.index_mut.result.now c.withdraw.new.self c.self.view_is c.self.invariant
    c.in_ok-place.ensures c.index_mut.ensures.value c.withdraw.ensures.number

pub returns-clause-withdrawn : goal.returns-clause-withdrawn
returns-clause-withdrawn c =
    acts_on (λ (u : Unit {0}). tt) (withdraw_from c.args.first (c.args.last + 1 - c.args.first))
    (withdraw_range_step c.args.driver c.args.first c.args.last)
    c.args.driver c.in_ok-place.place _ _ c.index_mut.result.now c.withdraw.new.self c.withdraw.result refl c.self.view_is
    c.self.invariant c.in_ok-place.ensures c.index_mut.ensures.value c.withdraw.ensures

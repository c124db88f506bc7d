use Rattle.std.proofs.Common.{refl}
use Rattle.tacho_state.specs.declared.entry.Entered.{Entered}
use Rattle.tacho_state.specs.Batch.{batch_of}
use Rattle.tacho_state.specs.Steps.{enter_own, enter_step}
use Rattle.tacho_shelf.proofs.CallLemmas.{acts_on, numbered_on}
use Rattle.tacho_shelf.proofs.shelf.ShelfKeeper.enter.Goals as goal

pub invariant_of-self : goal.invariant_of-self
invariant_of-self c =
    numbered_on c.args.driver c.in_ok-place.place _ _ c.index_mut.result.now c.enter.new.self c.self.view_is c.self.invariant
    c.in_ok-place.ensures c.index_mut.ensures.value c.enter.ensures.step.number

pub returns-clause-entered : goal.returns-clause-entered
returns-clause-entered c =
    acts_on (λ (done : Entered). done.first) (enter_own (batch_of c.args.lines.now))
    (enter_step c.args.driver (batch_of c.args.lines.now))
    c.args.driver c.in_ok-place.place _ _ c.index_mut.result.now c.enter.new.self c.enter.result refl c.self.view_is
    c.self.invariant c.in_ok-place.ensures c.index_mut.ensures.value c.enter.ensures.step

use Rattle.std.proofs.Common.{◌≡◌, None, sym, subst, rules}
use Rattle.tacho_state.specs.State.{driver_of}
use Rattle.tacho_state.proofs.DistinctLemmas.{number_not}
use Rattle.tacho_shelf.specs.Shelf.{AreNumbered}
use Rattle.tacho_shelf.proofs.CallLemmas.{numbered_push}
use Rattle.tacho_shelf.proofs.shelf.ShelfKeeper.register.Goals as goal

pub invariant_of-self-2 : goal.invariant_of-self-2
invariant_of-self-2 c =
    let s = c.self.inside.drivers.items in
    let row = c.in_ok-row.row in
    let new : driver_of row.number s ≡ None = search rules in
    subst AreNumbered (sym c.in_ok-push.ensures.items) (numbered_push s row c.self.invariant (number_not row.number s new))

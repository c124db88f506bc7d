use Rattle.std.proofs.Common.{◌≡◌, map, subst, rules}
use Rattle.std.proofs.lemmas.Fn.{always_returns_same}
use Rattle.tacho_state.specs.declared.summary.DriverSummary.{DriverSummary}
use Rattle.tacho_state.specs.State.{State}
use Rattle.tacho_state.specs.Summaries.{AreSummaries, told_summary}
use Rattle.tacho_shelf.proofs.SummaryLemmas.{sorted_summaries}
use Rattle.tacho_shelf.proofs.shelf.ShelfKeeper.drivers.Goals as goal

pub returns-clause-drivers : goal.returns-clause-drivers
returns-clause-drivers c = λ clean s st. subst (λ (t : State). AreSummaries t (map told_summary c.sort_unstable_by_key.new.self.items)) st
    (sorted_summaries c.args.self.now c.deref-row-items.result.now c.loop-row.row-index c.loop-row.found.items
    c.sort_unstable_by_key.new.self.items c.loop-row-test.false c.loop-row.invariant c.sort_unstable_by_key.ensures.permutation
    (c.sort_unstable_by_key.ensures.sorted (λ (d : DriverSummary). d.number)
    (always_returns_same _ (λ a r. r ≡ a.0.now.number) _ (λ a r f k. search rules))))

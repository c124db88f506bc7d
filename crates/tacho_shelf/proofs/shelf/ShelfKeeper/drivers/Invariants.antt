use Rattle.std.proofs.Common.{◌≡◌, ◌++◌, drop, map}
use Rattle.tacho_state.specs.Summaries.{summary_of, told_summary}
use Rattle.tacho_shelf.proofs.shelf.ShelfKeeper.drivers.Given as goal

-- the summaries so far, followed by those of the remaining drivers
abbrev pub invariant-loop-row : goal.invariant-loop-row
invariant-loop-row l = map told_summary l.found.items ++ map summary_of (drop l.row-index l.row-items) ≡ map summary_of l.fn.self

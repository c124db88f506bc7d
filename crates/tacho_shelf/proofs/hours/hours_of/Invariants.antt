use Rattle.std.proofs.Common.{◌≡◌, ◌++◌, drop}
use Rattle.tacho_state.specs.Batch.{batch_of}
use Rattle.tacho_shelf.proofs.hours.hours_of.Given as goal

abbrev pub invariant-loop-line : goal.invariant-loop-line
invariant-loop-line l = l.all.items ++ batch_of (drop l.line-index l.lines) ≡ batch_of l.lines

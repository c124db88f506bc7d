use Rattle.std.proofs.Common.{◌≡◌, ◌++◌, drop}
use Rattle.tacho_line.specs.Gains.{lacking_of}
use Rattle.tacho_line.proofs.gains.lacking.Given as goal

-- the gains so far, followed by those of the remaining runs
abbrev pub invariant-loop-run : goal.invariant-loop-run
invariant-loop-run l = l.gains.items ++ lacking_of l.held (drop l.run-index l.runs) ≡ lacking_of l.held l.runs

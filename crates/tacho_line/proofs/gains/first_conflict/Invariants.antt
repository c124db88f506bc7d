use Rattle.std.proofs.Common.{◌≡◌, drop}
use Rattle.tacho_line.specs.Gains.{conflict_of}
use Rattle.tacho_line.proofs.gains.first_conflict.Given as goal

-- the first conflict of the remaining runs is that of all runs
abbrev pub invariant-loop-run : goal.invariant-loop-run
invariant-loop-run l = conflict_of l.line (drop l.run-index l.runs) ≡ conflict_of l.line l.runs

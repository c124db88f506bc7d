use Rattle.std.proofs.Common.{take}
use Rattle.tacho_law.specs.SoFar.{Breaking}
use Rattle.tacho_periods.proofs.break_runs.complete_breaks.Given as goal

abbrev pub invariant-loop-run : goal.invariant-loop-run
invariant-loop-run l = Breaking (take l.run-index l.runs) l.breaks.items l.has_first_part

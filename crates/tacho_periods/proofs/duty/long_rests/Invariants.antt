use Rattle.std.proofs.Common.{◌≤◌, take}
use Rattle.tacho_law.specs.declared.run.Run.{Run}
use Rattle.tacho_law.specs.Runs.{Before, minutes_of}
use Rattle.tacho_periods.proofs.KeptLemmas.{AreKept}
use Rattle.tacho_periods.proofs.duty.long_rests.Given as goal

abbrev pub invariant-loop-run : goal.invariant-loop-run
invariant-loop-run l = AreKept Run Before (λ run. l.least ≤ minutes_of run) (take l.run-index l.runs) l.rests.items

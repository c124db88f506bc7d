use Rattle.std.proofs.Common.{take}
use Rattle.tacho_law.specs.declared.run.Run.{Run}
use Rattle.tacho_law.specs.Runs.{Before}
use Rattle.tacho_periods.proofs.KeptLemmas.{AreKept}
use Rattle.tacho_evidence.proofs.BreakLemmas.{Between}
use Rattle.tacho_evidence.proofs.breaks.rests_between.Given as goal

abbrev pub invariant-loop-run : goal.invariant-loop-run
invariant-loop-run l = AreKept Run Before (Between l.earlier l.later) (take l.run-index l.runs) l.rests.items

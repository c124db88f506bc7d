use Rattle.std.proofs.Common.{ℕ, map, take}
use Rattle.tacho_law.specs.Runs.{Before}
use Rattle.tacho_evidence.specs.declared.line.EvidenceLine.TheVariants.{Rest}
use Rattle.tacho_evidence.proofs.AppendedLemmas.{Appended, LongWithin}
use Rattle.tacho_evidence.proofs.daily.append_rests.Given as goal

abbrev pub invariant-loop-run : goal.invariant-loop-run
invariant-loop-run l =
    (count : ℕ) × Appended Before (LongWithin l.day) (map Rest) (take l.run-index l.runs) l.initial.lines.items l.lines.items count

use Rattle.std.proofs.Common.{◌≡◌, ◌++◌, map, take}
use Rattle.tacho_evidence.specs.declared.line.EvidenceLine.TheVariants.{Rest}
use Rattle.tacho_evidence.proofs.breaks.append_rests.Given as goal

abbrev pub invariant-loop-rest : goal.invariant-loop-rest
invariant-loop-rest l = l.lines.items ≡ l.initial.lines.items ++ map Rest (take l.rest-index l.rests)

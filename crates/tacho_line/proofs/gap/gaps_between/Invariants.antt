use Rattle.std.proofs.Common.{◌≡◌, ◌++◌, drop}
use Rattle.tacho_line.specs.Walk.{gaps_from}
use Rattle.tacho_line.proofs.gap.gaps_between.Given as goal

-- the gaps so far, followed by those of the remaining spans
abbrev pub invariant-loop-span : goal.invariant-loop-span
invariant-loop-span l = l.gaps.items ++ gaps_from l.from l.fn.past (drop l.span-index l.spans) ≡ gaps_from l.fn.start l.fn.past l.spans

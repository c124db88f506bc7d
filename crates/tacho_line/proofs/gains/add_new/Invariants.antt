use Rattle.std.proofs.Common.{◌≡◌, ◌++◌, drop}
use Rattle.tacho_line.specs.Gains.{new_from}
use Rattle.tacho_line.proofs.gains.add_new.Given as goal

-- the gains so far, followed by those of the remaining spans
abbrev pub invariant-loop-span : goal.invariant-loop-span
invariant-loop-span l = l.gains.items ++ new_from l.run.mark l.from l.run.past (drop l.span-index l.held) ≡ l.fn.gains.items ++ new_from l.run.mark l.run.start l.run.past l.held

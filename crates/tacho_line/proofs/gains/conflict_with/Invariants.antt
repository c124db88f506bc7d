use Rattle.std.proofs.Common.{◌≡◌, drop}
use Rattle.tacho_line.specs.Gains.{conflict_in}
use Rattle.tacho_line.proofs.gains.conflict_with.Given as goal

-- the first conflict of the remaining spans is that of all spans
abbrev pub invariant-loop-span : goal.invariant-loop-span
invariant-loop-span l = conflict_in l.run (drop l.span-index l.held) ≡ conflict_in l.run l.held

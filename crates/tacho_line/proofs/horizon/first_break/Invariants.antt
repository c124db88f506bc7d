use Rattle.std.proofs.Common.{◌≡◌, drop}
use Rattle.tacho_line.specs.Walk.{horizon_from}
use Rattle.tacho_line.proofs.horizon.first_break.Given as goal

-- the first break of the remaining spans is that of all spans
abbrev pub invariant-loop-span : goal.invariant-loop-span
invariant-loop-span l = horizon_from l.minute (drop l.span-index l.spans) ≡ horizon_from l.fn.base l.spans

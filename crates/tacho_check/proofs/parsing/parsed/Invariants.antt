use Rattle.std.proofs.Common.{take}
use Rattle.tacho_check.specs.Parsed.{AreRead}
use Rattle.tacho_check.proofs.parsing.parsed.Given as goal

-- the typed rows so far are those of the rows so far
abbrev pub invariant-loop-row : goal.invariant-loop-row
invariant-loop-row g l = AreRead g.T.FromRow.is_of (take l.row-index l.rows) l.found.items

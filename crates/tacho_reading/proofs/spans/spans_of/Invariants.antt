use Rattle.std.proofs.Common.{◌≡◌, ◌++◌, map, drop}
use Rattle.tacho_reading.specs.Standing.{stored_span}
use Rattle.tacho_reading.proofs.spans.spans_of.Given as goal

-- the spans so far, followed by those of the remaining rows
abbrev pub invariant-loop-row : goal.invariant-loop-row
invariant-loop-row l = l.spans.items ++ map stored_span (drop l.row-index l.rows) ≡ map stored_span l.rows

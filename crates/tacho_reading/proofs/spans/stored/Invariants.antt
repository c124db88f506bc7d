use Rattle.std.proofs.Common.{◌≡◌, ◌++◌, ℕ, map, drop}
use Rattle.tacho_tables.specs.Tables.{row_of}
use Rattle.tacho_reading.specs.Standing.{span_row}
use Rattle.tacho_reading.proofs.spans.stored.Given as goal

-- the rows so far, followed by those of the remaining spans
abbrev pub invariant-loop-span : goal.invariant-loop-span
invariant-loop-span l = (n : ℕ) → map (row_of n) l.rows.items ++ map (span_row n) (drop l.span-index l.spans) ≡ map (span_row n) l.spans

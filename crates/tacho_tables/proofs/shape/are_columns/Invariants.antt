use Rattle.std.proofs.Common.{◌≡◌, ◌↔◌, map, length}
use Rattle.tacho_tables.specs.Shapes.{column_of}
use Rattle.tacho_tables.proofs.shape.are_columns.Given as goal

abbrev pub invariant-loop-columns : goal.invariant-loop-columns
invariant-loop-columns l = (l.fn.columns ≡ map column_of l.fn.shapes) ↔ (l.columns ≡ map column_of l.shapes)

abbrev pub decreases-loop-columns : goal.decreases-loop-columns
decreases-loop-columns l = length l.columns

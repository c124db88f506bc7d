use Rattle.std.proofs.Common.{◌≡◌, ◌↔◌, map, length}
use Rattle.tacho_tables.specs.Shapes.{index_of}
use Rattle.tacho_tables.proofs.shape.are_indexes.Given as goal

abbrev pub invariant-loop-indexes : goal.invariant-loop-indexes
invariant-loop-indexes l = (l.fn.indexes ≡ map index_of l.fn.shapes) ↔ (l.indexes ≡ map index_of l.shapes)

abbrev pub decreases-loop-indexes : goal.decreases-loop-indexes
decreases-loop-indexes l = length l.indexes

use Rattle.std.proofs.Common.{◌≡◌, ◌↔◌, map, length}
use Rattle.tacho_tables.specs.Shapes.{table_of}
use Rattle.tacho_tables.proofs.shape.are_tables.Given as goal

abbrev pub invariant-loop-tables : goal.invariant-loop-tables
invariant-loop-tables l = (l.fn.tables ≡ map table_of l.fn.shapes) ↔ (l.tables ≡ map table_of l.shapes)

abbrev pub decreases-loop-tables : goal.decreases-loop-tables
decreases-loop-tables l = length l.tables

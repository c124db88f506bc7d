use Rattle.std.proofs.Common.{◌≡◌, ◌++◌, map}
use Rattle.std.specs.List.{All}
use Rattle.std.specs.Vec.Iter.{into_iter_items}
use Rattle.tacho_state.specs.Summaries.{told_summary}
use Rattle.tacho_tables.specs.Tables.{told_driver}
use Rattle.tacho_reading.specs.Standing.{summary_of_listed, HasBaseDay}
use Rattle.tacho_reading.proofs.spans.summaries_of.Given as goal

-- the drivers so far, followed by those of the remaining rows, are all; the remaining rows are fit if all are
abbrev pub invariant-loop-row : goal.invariant-loop-row
invariant-loop-row l = record {
  listed : map told_summary l.drivers.items ++ map summary_of_listed (map told_driver (into_iter_items l.row-iterator))
      ≡ map summary_of_listed (map told_driver l.fn.rows.items);
  fit : All HasBaseDay (map told_driver l.fn.rows.items) → All HasBaseDay (map told_driver (into_iter_items l.row-iterator));
}

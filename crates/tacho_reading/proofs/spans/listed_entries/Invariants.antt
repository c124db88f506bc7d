use Rattle.std.proofs.Common.{◌≡◌, ◌++◌, map}
use Rattle.std.specs.List.{All}
use Rattle.std.specs.Vec.Iter.{into_iter_items}
use Rattle.tacho_tables.specs.Tables.{told_entry}
use Rattle.tacho_reading.specs.Standing.{listed_as, IsListed}
use Rattle.tacho_reading.proofs.spans.listed_entries.Given as goal

-- the entries so far, followed by those of the remaining rows, are all; the remaining rows can be listed if all can
abbrev pub invariant-loop-row : goal.invariant-loop-row
invariant-loop-row l = record {
  listed : l.entries.items ++ map listed_as (map told_entry (into_iter_items l.row-iterator))
      ≡ map listed_as (map told_entry l.fn.rows.items);
  fit : All IsListed (map told_entry l.fn.rows.items) → All IsListed (map told_entry (into_iter_items l.row-iterator));
}

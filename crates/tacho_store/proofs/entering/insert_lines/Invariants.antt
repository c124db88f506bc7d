use Rattle.std.proofs.Common.{◌≡◌, ◌+◌, ◌*◌, ◌/◌, drop, length}
use Rattle.tacho_state.specs.Batch.{batch_of}
use Rattle.tacho_tables.proofs.BatchLemmas.{HasStill}
use Rattle.tacho_tables.proofs.EntryLemmas.{entries_in, with_entry_rows}
use Rattle.tacho_tables.proofs.Firsts.{joined}
use Rattle.tacho_reading.specs.Standing.{rows_of_entries}
use Rattle.tacho_store.proofs.entering.insert_lines.Given as goal

-- the rows of the groups of four so far were added, and the next number is that of the next line
abbrev pub invariant-loop-a : goal.invariant-loop-a
invariant-loop-a g l =
    (l.number ≡ l.first + 4 * l.a-index)
    × HasStill g.S.Store entries_in with_entry_rows (rows_of_entries l.driver l.first (batch_of l.lines))
    (rows_of_entries l.driver l.number (batch_of (joined (drop l.a-index l.fours) l.rest))) l.fn.tx.conn l.tx.conn

-- so were the rows of the lines after them
abbrev pub invariant-loop-line : goal.invariant-loop-line
invariant-loop-line g l =
    (l.number ≡ l.first + 4 * (length l.lines / 4) + l.line-index)
    × HasStill g.S.Store entries_in with_entry_rows (rows_of_entries l.driver l.first (batch_of l.lines))
    (rows_of_entries l.driver l.number (batch_of (drop l.line-index l.rest))) l.fn.tx.conn l.tx.conn

use Rattle.std.proofs.Common.{drop, map}
use Rattle.tacho_tables.specs.Spans.{spans_in, with_span_rows}
use Rattle.tacho_tables.specs.Tables.{row_of}
use Rattle.tacho_tables.proofs.BatchLemmas.{HasStill}
use Rattle.tacho_tables.proofs.Firsts.{joined}
use Rattle.tacho_tables.proofs.spans.insert_all.Given as goal

-- the groups of eight so far were added
abbrev pub invariant-loop-eight : goal.invariant-loop-eight
invariant-loop-eight g l =
    HasStill g.S.Store (spans_in l.table) (with_span_rows l.table) (map (row_of l.driver) l.spans)
    (map (row_of l.driver) (joined (drop l.eight-index l.eights) l.rest)) l.fn.tx.conn l.tx.conn

-- so were the spans after them
abbrev pub invariant-loop-span : goal.invariant-loop-span
invariant-loop-span g l =
    HasStill g.S.Store (spans_in l.table) (with_span_rows l.table) (map (row_of l.driver) l.spans)
    (map (row_of l.driver) (drop l.span-index l.rest)) l.fn.tx.conn l.tx.conn

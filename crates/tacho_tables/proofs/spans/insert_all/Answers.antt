use Rattle.std.proofs.Common.{rules, map, refl, List, ℕ}
use Rattle.sqlite.specs.Held.{state}
use Rattle.tacho_tables.specs.declared.rows.StoredSpan.{StoredSpan}
use Rattle.tacho_tables.specs.Rows.{SpanRow}
use Rattle.tacho_tables.specs.Tables.{row_of}
use Rattle.tacho_tables.proofs.BatchLemmas.{left_in_chunks, added_chunks, adds_chunk, adds_one, added_all}
use Rattle.tacho_tables.proofs.SpanLemmas.{span_table}
use Rattle.tacho_tables.proofs.spans.insert_all.Goals as goal

-- a driver's spans as rows, which have no numbers
abbrev row : ℕ → ℕ → StoredSpan → SpanRow
row driver n span = row_of driver span

abbrev rows : ℕ → ℕ → List StoredSpan → List SpanRow
rows driver n spans = map (row_of driver) spans

pub loop-eight-init : goal.loop-eight-init
loop-eight-init g c = record {
  stays = search rules;
  keeps = search rules;
  left = λ clean is. left_in_chunks (span_table c.args.table) (row c.args.driver) (rows c.args.driver) (λ n. refl) (λ n x xs. refl) 8 0
      c.args.spans.now (state g.S.Store c.args.tx.now.conn.now) c.as_chunks.ensures.front c.as_chunks.ensures.back is;
}

pub loop-eight-preserved : goal.loop-eight-preserved
loop-eight-preserved g c =
    adds_chunk (span_table c.args.table) (row c.args.driver) (rows c.args.driver) (λ n. refl) (λ n x xs. refl) _ c.as_chunks.result.0.now
    c.as_chunks.result.1.now {number = 0} c.loop-eight.invariant c.loop-eight-test.true c.in_ok-insert_eight.ensures

pub loop-span-init : goal.loop-span-init
loop-span-init g c =
    added_chunks (span_table c.args.table) (row c.args.driver) (rows c.args.driver) (λ n. refl) (λ n x xs. refl) c.as_chunks.result.0.now
    c.as_chunks.result.1.now {number = 0} c.loop-eight.invariant c.loop-eight-test.false

pub loop-span-preserved : goal.loop-span-preserved
loop-span-preserved g c =
    adds_one (span_table c.args.table) (row c.args.driver) (rows c.args.driver) (λ n. refl) (λ n x xs. refl) _ c.as_chunks.result.1.now
    {number = 0} c.loop-span.invariant c.loop-span-test.true
    refl c.in_ok-insert.ensures

pub returns : goal.returns
returns g c =
    added_all (span_table c.args.table) (row c.args.driver) (rows c.args.driver) (λ n. refl) (λ n x xs. refl) c.as_chunks.result.1.now
    {number = 0} c.loop-span.invariant c.loop-span-test.false

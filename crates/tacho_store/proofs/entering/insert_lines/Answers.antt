use Rattle.std.proofs.Common.{rules, arith, refl, ap, ◌≡◌, ◌∙◌, ◌<◌, ◌/◌, ℕ, List, [], get_or, length}
use Rattle.sqlite.specs.Held.{state}
use Rattle.tacho_state.specs.Batch.{Hours, batch_of, entry_of}
use Rattle.tacho_tables.specs.Rows.{EntryRow}
use Rattle.tacho_tables.proofs.BatchLemmas.{left_in_chunks, added_chunks, adds_four, adds_one, added_all}
use Rattle.tacho_tables.proofs.EntryLemmas.{entry_table}
use Rattle.tacho_tables.proofs.Firsts.{chunk_long}
use Rattle.tacho_reading.specs.Standing.{entry_row, rows_of_entries}
use Rattle.tacho_store.proofs.EnteringLemmas.{any_default}
use Rattle.tacho_store.proofs.entering.insert_lines.Goals as goal

-- the row of a driver's line with a number, and the rows of lines numbered from a number
abbrev row : ℕ → ℕ → Hours → EntryRow
row n i line = entry_row n i (entry_of line)

abbrev rows : ℕ → ℕ → List Hours → List EntryRow
rows n i lines = rows_of_entries n i (batch_of lines)

pub loop-a-init : goal.loop-a-init
loop-a-init g c = (
  omega arith,
  record {
    stays = search rules;
    keeps = search rules;
    left = λ clean is. left_in_chunks entry_table (row c.args.driver) (rows c.args.driver) (λ n. refl) (λ n x xs. refl) 4
        c.args.first c.args.lines.now (state g.S.Store c.args.tx.now.conn.now) c.as_chunks.ensures.front c.as_chunks.ensures.back is;
  },
)

pub overflow_add-number-in-loop-a-2 : goal.overflow_add-number-in-loop-a-2
overflow_add-number-in-loop-a-2 g c =
    let number = c.loop-a.invariant.0 in
    let many = c.as_chunks.ensures.front_len in
    omega (arith, number, many)

pub loop-a-preserved : goal.loop-a-preserved
loop-a-preserved g c =
    let n = c.args.driver in
    let number = c.loop-a.invariant.0 in
    let lines : List Hours = c.args.lines.now in
    let at = c.loop-a.a-index in
    let within = c.loop-a-test.true in
    let many = c.as_chunks.ensures.front_len in
    let four : List Hours = get_or c.as_chunks.result.0.now at [] in
    let long : length four ≡ 4 = ap (λ (l : List (List Hours)). length (get_or l at [])) c.as_chunks.ensures.front
    ∙ chunk_long [] 4 (length lines / 4) lines (omega arith) at (omega (arith, many, within)) in
    let none = c.index-fours-0.result in
    let item : c.a-item.result ≡ four = c.a-item.is ∙ any_default c.as_chunks.result.0.now at _ [] within in
    let line : (k : ℕ) (x : Hours) → k < 4 → get_or c.a-item.result k x ≡ get_or four k none = λ k x below.
    ap (λ (l : List Hours). get_or l k x) item ∙ any_default four k x none (omega (arith, below, long)) in
    let is : (k i : ℕ) (x : Hours) → k < 4 → row n i (get_or c.a-item.result k x) ≡ row n i (get_or four k none) = λ k i x below.
    ap (row n i) (line k x below) in (
      omega (arith, number),
      adds_four entry_table (row n) (rows n) (λ n. refl) (λ n x xs. refl) none lines c.as_chunks.result.1.now c.loop-a.invariant.1
          c.as_chunks.ensures.front within
          (c.new_entry.ensures n ∙ is 0 _ _ (omega arith)) (c.new_entry-in-loop-a.ensures n ∙ is 1 _ _ (omega arith))
          (c.new_entry-in-loop-a-2.ensures n ∙ is 2 _ _ (omega arith)) (c.new_entry-in-loop-a-3.ensures n ∙ is 3 _ _ (omega arith))
          c.in_ok-insert_four.ensures,
    )

pub loop-line-init : goal.loop-line-init
loop-line-init g c =
    let number = c.loop-a.invariant.0 in
    let many = c.as_chunks.ensures.front_len in (
      omega (arith, number, many, c.loop-a-test.false),
      added_chunks entry_table (row c.args.driver) (rows c.args.driver) (λ n. refl) (λ n x xs. refl) c.as_chunks.result.0.now c.as_chunks.result.1.now
          c.loop-a.invariant.1 c.loop-a-test.false,
    )

pub loop-line-preserved : goal.loop-line-preserved
loop-line-preserved g c =
    let n = c.args.driver in
    let number = c.loop-line.invariant.0 in (
      omega (arith, number),
      adds_one entry_table (row n) (rows n) (λ n. refl) (λ n x xs. refl) c.line-item.result c.as_chunks.result.1.now c.loop-line.invariant.1 c.loop-line-test.true
          (c.new_entry-in-loop-line.ensures n ∙ ap (row n c.loop-line.number) c.line-item.is) c.in_ok-insert.ensures,
    )

pub returns : goal.returns
returns g c =
    added_all entry_table (row c.args.driver) (rows c.args.driver) (λ n. refl) (λ n x xs. refl) c.as_chunks.result.1.now c.loop-line.invariant.1
    c.loop-line-test.false

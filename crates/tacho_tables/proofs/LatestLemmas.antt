-- The latest span that begins before a minute.
use Rattle.std.proofs.Common.{◌≡◌, ◌∙◌, ℕ, suc, pos, ◌≤◌, List, [], ◌∷◌, map, filter, take, false, Option, Some, None, refl, sym, arith, add-one}
use Rattle.std.specs.Prelude.{nat_lt, MatchOption}
use Rattle.std.specs.List.{AllByRecursion}
use Rattle.std.specs.List.Sorted.{IsPermutation, IsSortedBy}
use Rattle.std.proofs.lemmas.Bool.Decides.{nat_tests}
use Rattle.std.proofs.lemmas.List.Elements.{All-from_recursion}
use Rattle.std.proofs.lemmas.List.Sorted.{IsPermutation-sym, All-permutation, Contains-permutation}
use Rattle.sqlite.specs.declared.types.Value.TheVariants.{Null, Int}
use Rattle.sqlite.specs.Order.{Row}
use Rattle.sqlite.specs.Program.{overlay}
use Rattle.sqlite.specs.State.{State, Shown}
use Rattle.sqlite.proofs.Callers.{reads_as}
use Rattle.tacho_tables.specs.Schema.{archive_schema}
use Rattle.tacho_tables.specs.Rows.{SpanRow}
use Rattle.tacho_tables.specs.declared.rows.StoredSpan.{StoredSpan}
use Rattle.tacho_tables.specs.Tables.{Tables, HasTables, IsArchive, IsLatest, is_before, span_of, span_shown}
use Rattle.tacho_tables.proofs.Answers.{listed_first}
use Rattle.tacho_tables.specs.Calls.{IsFirst}
use Rattle.tacho_tables.proofs.Reading.{head_is, none_of_none}
use Rattle.tacho_tables.specs.declared.spans.SpanTable.{SpanTable}
use Rattle.tacho_tables.specs.Spans.{before_text, span_table_rows, spans_in}
use Rattle.tacho_tables.proofs.SpanLemmas.{span_table, tests_before}
use Rattle.tacho_tables.proofs.SortedLemmas.{by_one_minute}
use Rattle.tacho_tables.proofs.Statements.{before, before_is, three_shown, by_start_down}
use Rattle.tacho_tables.proofs.TableLemmas.{shows_sorted, stands_in}

-- a weaker fact holds for each element too
all_weaker : (P Q : SpanRow → Type 0) → ((x : SpanRow) → P x → Q x) → (rows : List SpanRow) → AllByRecursion P rows → AllByRecursion Q rows
all_weaker P Q weaker [] h = tt
all_weaker P Q weaker (x ∷ rows) h = (weaker x h.0, all_weaker P Q weaker rows h.1)

-- in rows sorted so, none begins later than the first
latest_first : (r : SpanRow) (rows : List SpanRow) → IsSortedBy (λ x y. nat_lt y.start x.start) (r ∷ rows) → AllByRecursion (λ (x : SpanRow). x.start ≤ r.start) (r ∷ rows)
latest_first r [] h = (omega arith, tt)
latest_first r (x ∷ rows) h =
    let a = r.start in
    let b = x.start in
    let first : nat_lt a b ≡ false = h 0 x (omega arith) (omega arith) in
    let below : b ≤ a = grind (arith, nat_tests) in
    let tail : IsSortedBy (λ x y. nat_lt y.start x.start) (x ∷ rows) = λ k d p q. rw add-one (rw add-one at (h (suc k) d (omega arith) (omega (arith, q)))) in
    let more = latest_first x rows tail in
    (omega arith, all_weaker (λ (y : SpanRow). y.start ≤ b) (λ (y : SpanRow). y.start ≤ a) (λ y at. omega (arith, at, below)) (x ∷ rows) more)

-- the first row shows the latest span, or there are no rows
found_in : (wanted to : List SpanRow) (rows : List Row) (found : Option StoredSpan) → IsPermutation wanted to
    → IsSortedBy (λ x y. nat_lt y.start x.start) to → rows ≡ take 1 (map span_shown to)
    → IsFirst span_shown (λ s. s) span_of rows found
    → MatchOption found (wanted ≡ []) (λ s. (r : SpanRow) × IsLatest r wanted × (s ≡ span_of r))
found_in wanted [] rows None moved sorted shown first = none_of_none wanted moved
found_in wanted [] [] (Some s) moved sorted shown first = absurd first
found_in wanted [] (row ∷ rows) (Some s) moved sorted shown first = cc
found_in wanted (r ∷ to) rows None moved sorted shown first = absurd (let e = sym shown ∙ first in cc)
found_in wanted (r ∷ to) [] (Some s) moved sorted shown first = absurd first
found_in wanted (r ∷ to) (row ∷ rows) (Some s) moved sorted shown first =
    let back = IsPermutation-sym wanted (r ∷ to) moved in (
      r,
      record {
        one = Contains-permutation (r ∷ to) wanted r back (0, omega arith, refl);
        latest = All-permutation (λ (x : SpanRow). x.start ≤ r.start) (r ∷ to) wanted back (All-from_recursion (λ (x : SpanRow). x.start ≤ r.start) (r ∷ to) (latest_first r to sorted));
      },
      first r (head_is shown),
    )

-- a reading of the latest span that begins before a minute finds it
pub finds_latest : (table : SpanTable) (driver minute : ℕ) (old new : State) (rows : List Row) → IsArchive old.now
    → Shown (before_text table) (Int (pos driver) ∷ Int (pos minute) ∷ []) old new rows → (a : Tables) → HasTables old.now.trees a
    → (found : Option StoredSpan) → IsFirst span_shown (λ s. s) span_of rows found
    → MatchOption found (filter (is_before driver minute) (spans_in table a) ≡ [])
    (λ s. (r : SpanRow) × IsLatest r (filter (is_before driver minute) (spans_in table a)) × (s ≡ span_of r))
finds_latest table driver minute old new rows is h a s found first =
    let params = Int (pos driver) ∷ Int (pos minute) ∷ [] in
    let it = before_is table is.layout in
    let got = reads_as (before_text table) params old new (archive_schema is.layout) is.schema _ it.meant it.plain it.unlisted rows h in
    let sorted = shows_sorted (span_table table) before three_shown by_start_down params (is_before driver minute)
    (tests_before driver minute) (λ x. (Int (pos x.start) ∷ [], span_shown x)) (λ t v x. refl) (λ x y. nat_lt y.start x.start)
    (λ t x y. by_one_minute y.start x.start) (take 1) old.now.trees is.layout (spans_in table a)
    (stands_in (span_table table) old.now is a s) rows
    (listed_first (span_table_rows table) before three_shown by_start_down (overlay old.now.trees []) params rows (got.answer Null)) in
    found_in (filter (is_before driver minute) (spans_in table a)) sorted.0 rows found sorted.2 sorted.3 sorted.1 first

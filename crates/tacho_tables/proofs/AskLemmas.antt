-- What the readings of a driver's rows, and of the numbers of all drivers, show.
use Rattle.std.proofs.Common.{◌≡◌, ◌∙◌, ◌&&◌, ℕ, ℤ, Bool, true, false, List, [], ◌∷◌, drop, map, filter, codes, Some, refl, sym, ap, subst}
use Rattle.std.proofs.lemmas.List.{map-id}
use Rattle.std.specs.List.Sorted.{IsPermutation}
use Rattle.std.specs.Ordering.{is_eq, int_eq}
use Rattle.sqlite_value.specs.declared.value.Value.{Value}
use Rattle.sqlite_value.specs.declared.value.Value.TheVariants.{Null, Int}
use Rattle.sqlite_value.specs.declared.keys.Collation.TheVariants.{Binary}
use Rattle.sqlite_value.specs.Order.{Row, column, value_cmp}
use Rattle.sqlite_value.proofs.OrderLemmas.{value_cmp-Int}
use Rattle.sqlite.specs.Listing.{understood}
use Rattle.sqlite.specs.Program.{overlay}
use Rattle.sqlite.specs.State.{State, Shown}
use Rattle.sqlite.proofs.Callers.{reads_as}
use Rattle.sqlite_tied.specs.Compute.{everything}
use Rattle.sqlite_trees.proofs.ListLemmas.{map-map, filter-map, filter_same}
use Rattle.sqlite_sql.specs.declared.ops.BinaryOp.TheVariants.{Compare}
use Rattle.sqlite_sql.specs.declared.ops.CompareOp.TheVariants.{Eq}
use Rattle.sqlite_sql.specs.Ops.{binary, is_true, from_truth}
use Rattle.sqlite_sql.specs.Term.{Term, col, eval_all}
use Rattle.sqlite_rules.specs.Lists.{Has}
use Rattle.sqlite_rules.proofs.ListLemmas.{all_from, has_filtered}
use Rattle.tacho_tables.specs.declared.table.TableName.{TableName}
use Rattle.tacho_tables.specs.declared.table.TableName.TheVariants.{Drivers, Downloads, CardSpans, EntryRows, Held}
use Rattle.tacho_tables.specs.Schema.{Layout, archive_schema, entry_tree}
use Rattle.tacho_tables.specs.Readable.{is_number, is_own, own_rows, AreNumbered, IsReadable}
use Rattle.tacho_tables.specs.Ask.{Show, shown_of, own_text, own_in, driver_values, numbers_text, number_shown}
use Rattle.tacho_tables.proofs.Answers.{and-true, none_given, passes, listed, shows}
use Rattle.tacho_tables.proofs.ListingLemmas.{all_pass}
use Rattle.tacho_tables.proofs.Statements.{stated, IsReading, own, column_is, three_shown, seven_shown, entry_names, span_names}
use Rattle.tacho_tables.proofs.Stored.{map_same}
use Rattle.tacho_tables.proofs.UniqueLemmas.{HasDriver, downloads_have, card_spans_have, entries_have, held_have}

-- = on numbers that may be negative
test_is : (b : Bool) → is_true (from_truth (Some b)) ≡ b
test_is true = refl
test_is false = refl

pub int_test : (m n : ℤ) → is_true (binary (Compare Eq Binary) (Int m) (Int n)) ≡ int_eq m n
unfolding binary
int_test m n = test_is (is_eq (value_cmp (Int m) (Int n))) ∙ ap is_eq (value_cmp-Int m n)

-- the test holds for the driver's rows
own_is : (n : ℤ) (r : Row) (id m : ℤ) → column r 0 ≡ Int id → column (drop 1 r) 0 ≡ Int m → passes own (Int n ∷ []) r ≡ is_own n (drop 1 r)
own_is n [] id m first second = absurd (let e = first in cc)
own_is n (v ∷ []) id m first second = absurd (let e = second in cc)
own_is n (v ∷ u ∷ us) id m first second =
    subst (λ (x : Value). passes own (Int n ∷ []) (v ∷ x ∷ us) ≡ is_number n x) (sym second) (rw (int_test m n) (and-true (int_eq m n)))

-- likewise for a row of `drivers`, whose number is the driver's
registered_is : (n : ℤ) (r : Row) (id : ℤ) → column r 0 ≡ Int id → passes (column_is 0) (Int n ∷ []) r ≡ is_own n r
registered_is n r id is =
    subst (λ (v : Value). (is_true (binary (Compare Eq Binary) v (Int n)) && true) ≡ is_number n v) (sym is)
    (rw (int_test id n) (and-true (int_eq id n)))

-- ---- the readings of a driver's rows

abbrev tree_of : Layout → TableName → ℕ
tree_of layout Drivers = 1
tree_of layout Downloads = 4
tree_of layout CardSpans = 6
tree_of layout EntryRows = entry_tree layout
tree_of layout Held = 10

abbrev tests_of : TableName → List Term
tests_of Drivers = column_is 0
tests_of Downloads = own
tests_of CardSpans = own
tests_of EntryRows = own
tests_of Held = own

abbrev terms_of : TableName → List Term
terms_of Drivers = col 1 0 ∷ col 1 2 ∷ col 1 3 ∷ col 1 4 ∷ col 1 5 ∷ col 1 6 ∷ col 1 7 ∷ []
terms_of Downloads = three_shown
terms_of CardSpans = three_shown
terms_of EntryRows = seven_shown
terms_of Held = three_shown

abbrev names_of : TableName → List (List ℕ)
names_of Drivers = codes "driver" ∷ codes "holder" ∷ codes "secret" ∷ codes "base" ∷ codes "name" ∷ codes "downloads" ∷ codes "entries" ∷ []
names_of Downloads = codes "number" ∷ codes "part" ∷ codes "file" ∷ []
names_of CardSpans = span_names
names_of EntryRows = entry_names
names_of Held = span_names

pub own_is_read : (table : TableName) (layout : Layout)
    → IsReading (archive_schema layout) (own_text table) (tree_of layout table) (tests_of table) (terms_of table) [] (names_of table)
unfolding understood everything
own_is_read Drivers = stated _ _ refl
own_is_read Downloads = stated _ _ refl
own_is_read CardSpans = stated _ _ refl
own_is_read EntryRows = stated _ _ refl
own_is_read Held = stated _ _ refl

-- ---- what they show

-- the test holds for a driver's rows, and this is shown of them
abbrev Reads : ℤ → TableName → (Row → Row) → Row → Type 0
Reads n table stored r =
    (passes (tests_of table) (Int n ∷ []) r ≡ is_own n (stored r))
    × (eval_all (terms_of table) ((Int n ∷ []) ∷ r ∷ []) ≡ shown_of table (stored r))

module _ (layout : Layout) (n : ℤ) (table : TableName) (old new : State) (rows : List Row) (same : old.now.schema ≡ archive_schema layout)
    (h : Shown (own_text table) (Int n ∷ []) old new rows) where
  -- the rows that are read show the driver's rows
  shown_rows : (stored : Row → Row) → ((r : Row) → Has (old.now.trees (tree_of layout table)) r → Reads n table stored r)
      → Show (shown_of table) (own_rows n (map stored (old.now.trees (tree_of layout table)))) rows
  shown_rows stored each =
      let db = old.now.trees in
      let params : Row = Int n ∷ [] in
      let all = db (tree_of layout table) in
      let here : Row → Bool = λ r. is_own n (stored r) in
      let it = own_is_read table layout in
      let got = reads_as (own_text table) params old new (archive_schema layout) same _ it.meant it.plain it.unlisted rows h in
      let shown = rw (none_given db (tree_of layout table)) at (shows (tree_of layout table) (tests_of table) (terms_of table) []
      (overlay db []) params rows (listed (tree_of layout table) (tests_of table) (terms_of table) [] (overlay db []) params rows
      (got.answer Null))) in
      let passed : filter (passes (tests_of table) params) all ≡ filter here all =
      filter_same (passes (tests_of table) params) here all
      (all_from (λ r. passes (tests_of table) params r ≡ here r) all (λ r there. (each r there).0)) in
      let parts : map (λ (r : Row). eval_all (terms_of table) (params ∷ r ∷ [])) (filter here all)
      ≡ map (λ r. shown_of table (stored r)) (filter here all) =
      map_same (λ (r : Row). eval_all (terms_of table) (params ∷ r ∷ [])) (λ r. shown_of table (stored r)) (filter here all)
      (all_from (λ r. eval_all (terms_of table) (params ∷ r ∷ []) ≡ shown_of table (stored r)) (filter here all)
      (λ r there. (each r (has_filtered here all r there).0).1)) in
      let own_part : map (shown_of table) (own_rows n (map stored all)) ≡ map (λ r. shown_of table (stored r)) (filter here all) =
      ap (map (shown_of table)) (filter-map (is_own n) stored all) ∙ map-map (shown_of table) stored (filter here all) in
      subst (λ (xs : List Row). IsPermutation xs rows)
      (ap (map (λ (r : Row). eval_all (terms_of table) (params ∷ r ∷ []))) passed ∙ parts ∙ sym own_part) shown

-- rows with a hidden number, which is left out
hidden : (n : ℤ) (table : TableName) → tests_of table ≡ own
    → ((params : Row) (v : Value) (w : Row) → eval_all (terms_of table) (params ∷ (v ∷ w) ∷ []) ≡ shown_of table w)
    → (all : List Row) → AreNumbered all → HasDriver all → (r : Row) → Has all r → Reads n table (drop 1) r
hidden n table by_driver parts all numbered has [] there = absurd (let e = (numbered.numbered [] there).1 in cc)
hidden n table by_driver parts all numbered has (v ∷ w) there = (
  subst (λ (tests : List Term). passes tests (Int n ∷ []) (v ∷ w) ≡ is_own n w) (sym by_driver)
      (own_is n (v ∷ w) (numbered.numbered (v ∷ w) there).0 (has (v ∷ w) there).0 (numbered.numbered (v ∷ w) there).1
      (has (v ∷ w) there).1),
  parts (Int n ∷ []) v w,
)

pub asked_own : (layout : Layout) (n : ℤ) (table : TableName) (old new : State) (rows : List Row)
    → old.now.schema ≡ archive_schema layout → Shown (own_text table) (Int n ∷ []) old new rows → IsReadable layout old.now.trees
    → Show (shown_of table) (own_in layout old.now.trees n table) rows
asked_own layout n Drivers old new rows same h it =
    subst (λ (all : List Row). Show driver_values (own_rows n all) rows) (map-id (old.now.trees 1))
    (shown_rows layout n Drivers old new rows same h (λ r. r)
    (λ r there. (registered_is n r (it.numbered.drivers.numbered r there).0 (it.numbered.drivers.numbered r there).1, refl)))
asked_own layout n Downloads old new rows same h it =
    shown_rows layout n Downloads old new rows same h (drop 1) (hidden n Downloads refl (λ params v w. refl) (old.now.trees 4)
    it.numbered.downloads (downloads_have layout old.now.trees it.sound))
asked_own layout n CardSpans old new rows same h it =
    shown_rows layout n CardSpans old new rows same h (drop 1) (hidden n CardSpans refl (λ params v w. refl) (old.now.trees 6)
    it.numbered.card_spans (card_spans_have layout old.now.trees it.sound))
asked_own layout n EntryRows old new rows same h it =
    shown_rows layout n EntryRows old new rows same h (drop 1) (hidden n EntryRows refl (λ params v w. refl)
    (old.now.trees (entry_tree layout)) it.numbered.entries (entries_have layout old.now.trees it.sound))
asked_own layout n Held old new rows same h it =
    shown_rows layout n Held old new rows same h (drop 1) (hidden n Held refl (λ params v w. refl) (old.now.trees 10)
    it.numbered.held (held_have layout old.now.trees it.sound))

-- ---- the numbers of all drivers

-- the reading of all numbers
pub numbers_are : (layout : Layout) → IsReading (archive_schema layout) numbers_text 1 [] (col 1 0 ∷ []) [] (codes "driver" ∷ [])
unfolding understood everything
numbers_are = stated _ _ refl

pub asked_numbers : (layout : Layout) (old new : State) (rows : List Row) → old.now.schema ≡ archive_schema layout
    → Shown numbers_text [] old new rows → Show number_shown (old.now.trees 1) rows
asked_numbers layout old new rows same h =
    let db = old.now.trees in
    let it = numbers_are layout in
    let got = reads_as numbers_text [] old new (archive_schema layout) same _ it.meant it.plain it.unlisted rows h in
    let all = rw (none_given db 1) at (shows 1 [] (col 1 0 ∷ []) [] (overlay db []) [] rows
    (listed 1 [] (col 1 0 ∷ []) [] (overlay db []) [] rows (got.answer Null))) in
    subst (λ (xs : List Row). IsPermutation (map number_shown xs) rows) (all_pass (db 1)) all

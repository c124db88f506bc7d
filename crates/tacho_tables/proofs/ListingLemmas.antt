-- All drivers are read, ordered by number.
use Rattle.std.proofs.Common.{◌≡◌, ◌∙◌, pos, List, [], ◌∷◌, map, filter, true, refl, sym, ap, subst}
use Rattle.std.specs.List.Sorted.{IsPermutation, IsSorted}
use Rattle.std.specs.Ordering.{is_lt, nat_cmp}
use Rattle.std.proofs.lemmas.List.Sorted.{IsPermutation-trans, IsPermutation-map}
use Rattle.sqlite.specs.declared.types.Value.TheVariants.{Null, Int}
use Rattle.sqlite_trees.proofs.ListLemmas.{pull_back, map-map}
use Rattle.sqlite_sql.specs.Query.{Query, Output, output, output_cmp}
use Rattle.sqlite.specs.Order.{Row}
use Rattle.sqlite.specs.Program.{overlay}
use Rattle.sqlite.specs.State.{State, Shown}
use Rattle.sqlite.proofs.Callers.{reads_as}
use Rattle.tacho_tables.specs.Schema.{archive_schema}
use Rattle.tacho_tables.specs.Rows.{AreNumberedRowsOf, DriverRow}
use Rattle.tacho_tables.specs.declared.rows.StoredDriver.{StoredDriver}
use Rattle.tacho_tables.specs.Tables.{IsArchive, AreListed, ListedDriver, driver_shown, listed_driver, told_driver}
use Rattle.tacho_tables.proofs.Answers.{simple, passes, listed}
use Rattle.tacho_tables.proofs.Numbered.{numbered_shown}
use Rattle.tacho_tables.proofs.SortedLemmas.{by_one_number, sorted_before, sorted_after}
use Rattle.tacho_tables.proofs.SpanLemmas.{none_given}
use Rattle.tacho_tables.proofs.Statements.{six_shown, by_driver, drivers_text, drivers_is}

-- the query over all drivers
abbrev asked : Query
asked = simple 1 [] six_shown by_driver

-- the key by which a driver is sorted, and what it shows
abbrev shown_as : DriverRow → Output
shown_as x = (Int (pos x.driver) ∷ [], driver_shown x)

-- a filter that everything passes keeps the whole list
pub all_pass : {X : Type 0} (xs : List X) → filter (λ _. true) xs ≡ xs
all_pass [] = refl
all_pass (x ∷ xs) = ap (λ rest. x ∷ rest) (all_pass xs)

-- the rows of a reading of all drivers: each driver once, ordered by number
pub record AreShown (all : List DriverRow) (rows : List Row) : Type 0 where
  pub shown : List DriverRow
  pub same : IsPermutation all shown
  pub rows_are : rows ≡ map driver_shown shown
  pub sorted : IsSorted (λ (x y : DriverRow). nat_cmp x.driver y.driver) shown

-- a reading of all drivers shows such rows
pub shows_all : (old new : State) (rows : List Row) → IsArchive old.now → Shown drivers_text [] old new rows
    → (all : List DriverRow) → AreNumberedRowsOf (old.now.trees 1) all → AreShown all rows
shows_all old new rows is h all s =
    let db = old.now.trees in
    let out = λ (r : Row). output asked ([] ∷ r ∷ []) in
    let it = drivers_is is.layout in
    let got = reads_as drivers_text [] old new (archive_schema is.layout) is.schema _ it.meant it.plain it.unlisted rows h in
    let l = listed 1 [] six_shown by_driver (overlay db []) [] rows (got.answer Null) in
    let passed = numbered_shown (passes [] []) (λ _. true) (λ x. refl) out shown_as (λ x. refl) (db 1) all s in
    let same = IsPermutation-trans _ _ _ passed (rw (none_given db 1) at l.same) in
    let back = pull_back shown_as _ l.all same (filter (λ _. true) all) refl in
    record {
      shown = back.0;
      same = subst (λ (xs : List DriverRow). IsPermutation xs back.0) (all_pass all) back.1;
      rows_are = l.shown_is ∙ ap (map (λ (o : Output). o.1)) back.2 ∙ map-map (λ (o : Output). o.1) shown_as back.0;
      sorted = sorted_before shown_as (λ a b. is_lt (output_cmp asked a b)) (λ x y. is_lt (nat_cmp x.driver y.driver)) back.0
          (λ x y. by_one_number x.driver y.driver) (subst (IsSorted (output_cmp asked)) back.2 l.sorted);
    }

-- the drivers that are read from such rows are all drivers, in order
pub reads_all : (all : List DriverRow) (rows : List Row) (found : List StoredDriver) → AreShown all rows
    → ((shown : List DriverRow) → rows ≡ map driver_shown shown → map told_driver found ≡ map listed_driver shown)
    → AreListed all (map told_driver found)
reads_all all rows found s reads =
    let is = sym (reads s.shown s.rows_are) in
    record {
      all = subst (IsPermutation (map listed_driver all)) is (IsPermutation-map listed_driver all s.shown s.same);
      sorted = subst (IsSorted (λ (x y : ListedDriver). nat_cmp x.driver y.driver)) is
          (sorted_after listed_driver (λ x y. is_lt (nat_cmp x.driver y.driver)) (λ x y. is_lt (nat_cmp x.driver y.driver)) s.shown
          (record { driver = 0; holder = []; secret = []; base = 0; name = []; downloads = 0; entries = 0 }) (λ x y. refl) s.sorted);
    }

-- All drivers are listed in the order of their numbers.
use Rattle.std.proofs.Common.{◌≡◌, ◌∙◌, ℕ, List, [], ◌∷◌, map, Option, Some, None, Result, Ok, Err, IfOk, refl, sym, ap, subst}
use Rattle.std.specs.Prelude.{IfSome, ok_or}
use Rattle.std.specs.List.Sorted.{IsPermutation}
use Rattle.std.specs.Ordering.{is_lt, nat_cmp}
use Rattle.std.proofs.lemmas.List.Sorted.{IsPermutation-map}
use Rattle.sqlite.specs.Tree.{Trees}
use Rattle.tacho_state.specs.declared.fault.StoreFault.{StoreFault}
use Rattle.tacho_state.specs.declared.fault.StoreFault.TheVariants.{Store}
use Rattle.tacho_state.specs.declared.summary.DriverSummary.{DriverSummary}
use Rattle.tacho_state.specs.Acts.{Answers}
use Rattle.tacho_state.specs.State.{Driver, State, driver_of}
use Rattle.tacho_state.specs.Summaries.{AreSummaries, Summary, driver_reading, summary_of, told_summary}
use Rattle.tacho_state.proofs.SummaryLemmas.{sorted_map}
use Rattle.tacho_tables.specs.declared.rows.StoredDriver.{StoredDriver}
use Rattle.tacho_tables.specs.Rows.{DriverRow}
use Rattle.tacho_tables.specs.Tables.{AreListed, HasTables, ListedDriver, Tables, listed_driver, told_driver}
use Rattle.tacho_reading.specs.Finding.{IsStored}
use Rattle.tacho_reading.specs.Standing.{Represents, driver_columns, summary_of_listed}

-- ---- what is read

-- the rows of drivers are listed as the drivers
all_summarized : (s : State) → map summary_of_listed (map listed_driver (map driver_columns s)) ≡ map summary_of s
all_summarized [] = refl
all_summarized (d ∷ s) = ap (λ (xs : List Summary). summary_of d ∷ xs) (all_summarized s)

-- the drivers that are listed from the tables are those of the state
are_summaries : (t : Tables) (s : State) (found : List ListedDriver) → t.drivers ≡ map driver_columns s → AreListed t.drivers found
    → AreSummaries s (map summary_of_listed found)
are_summaries t s found is l = record {
  all = subst (λ (xs : List Summary). IsPermutation xs (map summary_of_listed found))
      (ap (λ (rows : List DriverRow). map summary_of_listed (map listed_driver rows)) is ∙ all_summarized s)
      (IsPermutation-map summary_of_listed (map listed_driver t.drivers) found l.all);
  sorted = sorted_map summary_of_listed (λ (x y : Summary). is_lt (nat_cmp x.number y.number))
      (λ (x y : ListedDriver). is_lt (nat_cmp x.driver y.driver)) found (λ x y. refl) l.sorted;
}

-- all drivers are listed, or the call gave up
pub drivers_told : {V : Type 0} (items : V → List DriverSummary) (db : Trees) (s : State) (rows : List StoredDriver)
    (r : Result V StoreFault) → Represents db s → ((a : Tables) → HasTables db a → AreListed a.drivers (map told_driver rows))
    → IfOk r (λ v. map told_summary (items v) ≡ map summary_of_listed (map told_driver rows))
    → IfOk r (λ v. AreSummaries s (map told_summary (items v)))
unfolding Represents
drivers_told items db s rows (Ok v) (t, stand, of) read is =
    subst (AreSummaries s) (sym is) (are_summaries t s (map told_driver rows) of.drivers (read t stand))
drivers_told items db s rows (Err f) (t, stand, of) read is = tt

-- the driver is listed as their row is, or the call gave up
pub driver_told : (n : ℕ) (s : State) (d : Driver) (it : StoredDriver) (found : Option DriverSummary) → driver_of n s ≡ Some d
    → IsStored it d → IfSome found (λ summary. told_summary summary ≡ summary_of_listed (told_driver it))
    → Answers (λ summary. told_summary summary) (ok_or found Store) (driver_reading n s)
driver_told n s d it (Some summary) is stored same =
    let told = rw (stored.number, stored.holder, stored.base, stored.downloads, stored.entries, stored.name) at same in
    rw is (ap Ok (sym told))
driver_told n s d it None is stored same = tt

-- Rows whose numbers are the drivers' numbers.
use Rattle.std.proofs.Common.{◌≡◌, pos, map, drop, Bool, true, false, not, cond, List, [], ◌∷◌, ◌++◌, filter, refl, sym, ap, ◌∙◌, subst, inl, inr}
use Rattle.std.specs.List.{AllByRecursion}
use Rattle.std.specs.List.Sorted.{IsPermutation}
use Rattle.std.proofs.lemmas.Bool.{and_parts, not-true}
use Rattle.std.proofs.lemmas.List.{map-append}
use Rattle.std.proofs.lemmas.List.Sorted.{IsPermutation-sym, IsPermutation-trans, IsPermutation-cons, IsPermutation-middle, IsPermutation-map, IsPermutation-append_left, IsPermutation-filter_both}
use Rattle.sqlite_value.specs.Order.{Row}
use Rattle.sqlite_trees.specs.Tree.{rowid, put_row}
use Rattle.sqlite_trees.proofs.ListLemmas.{map-map, all-permutation, IsPermutation-filter, filter-map, filter_same, pull_back}
use Rattle.sqlite_rules.specs.Calls.{ids_of}
use Rattle.sqlite_rules.specs.Lists.{Has}
use Rattle.sqlite_rules.specs.Edit.{without_all, put_all, are_fresh, is_taken}
use Rattle.sqlite_rules.proofs.ListLemmas.{all_from, has_filtered}
use Rattle.sqlite_rules.proofs.TableLemmas.{put_has}
use Rattle.tacho_tables.specs.Rows.{DriverRow, driver_row, AreNumberedRowsOf}
use Rattle.tacho_tables.proofs.Stored.{AreNumbered, left_is, put_shuffles, map_same, free_from}

-- a fact about all rows holds for each of them
picked : (P : Row → Type 0) (rows : List Row) → AllByRecursion P rows → (r : Row) → Has rows r → P r
picked P [] all r has = absurd has
picked P (x ∷ rows) all r (inl is) = subst P (sym is) all.0
picked P (x ∷ rows) all r (inr later) = picked P rows all.1 r later

-- a row of a driver
abbrev IsDriver : Row → Type 0
IsDriver r = (x : DriverRow) × (r ≡ driver_row x)

-- each row that is made from a driver is a driver's row
each_driver : (all : List DriverRow) → AllByRecursion IsDriver (map driver_row all)
each_driver [] = tt
each_driver (x ∷ all) = ((x, refl), each_driver all)

-- each stored row is a driver's
drivers_only : (rows : List Row) (all : List DriverRow) → AreNumberedRowsOf rows all → (r : Row) → Has rows r → IsDriver r
drivers_only rows all s = picked IsDriver rows (all-permutation IsDriver (map driver_row all) rows s.same (each_driver all))

-- so the rows have numbers
are_numbered : (rows : List Row) (all : List DriverRow) → AreNumberedRowsOf rows all → AreNumbered rows
are_numbered rows all s = record {
  numbered = λ r has. let it = drivers_only rows all s r has in
      (pos it.0.driver, ap rowid it.1);
  apart = s.apart;
}

-- the order of the list doesn't matter
pub numbered_shuffled : (rows : List Row) (all other : List DriverRow) → AreNumberedRowsOf rows all → IsPermutation other all
    → AreNumberedRowsOf rows other
numbered_shuffled rows all other s same = record {
  apart = s.apart;
  same = IsPermutation-trans _ _ _
      (IsPermutation-map driver_row other all same) s.same;
}

-- putting a driver's row adds the driver to the list
pub numbered_put : (rows : List Row) (all : List DriverRow) (x : DriverRow) → AreNumberedRowsOf rows all → is_taken rows (driver_row x) ≡ false
    → AreNumberedRowsOf (put_row (driver_row x) rows) (x ∷ all)
numbered_put rows all x s free =
    let new : Row = driver_row x in
    record {
      apart = λ a b here there same. elim (put_has new rows a here) [
        | inl is ↦ elim (put_has new rows b there) [
          | inl too ↦ is ∙ sym too
          | inr was ↦ absurd (free_from rows (pos x.driver) (drop 1 new) b free was (sym same ∙ ap rowid is))
        ]
        | inr was ↦ elim (put_has new rows b there) [
          | inl too ↦ absurd (free_from rows (pos x.driver) (drop 1 new) a free was (same ∙ ap rowid too))
          | inr both ↦ s.apart a b was both same
        ]
      ];
      same = IsPermutation-trans _ _ _ (IsPermutation-cons new _ _ s.same) (put_shuffles new rows free);
    }

-- likewise for several drivers, one after the other
numbered_put_all : (xs : List DriverRow) (rows : List Row) (all : List DriverRow) → AreNumberedRowsOf rows all
    → are_fresh rows (map driver_row xs) ≡ true → AreNumberedRowsOf (put_all rows (map driver_row xs)) (xs ++ all)
numbered_put_all [] rows all s fresh = s
numbered_put_all (x ∷ xs) rows all s fresh =
    let parts = and_parts _ _ fresh in
    let later = numbered_put_all xs (put_row (driver_row x) rows) (x ∷ all) (numbered_put rows all x s (not-true _ parts.0)) parts.1 in
    numbered_shuffled _ _ _ later (IsPermutation-sym _ _ (IsPermutation-middle xs x all))

-- removing the rows that don't pass leaves the drivers that pass
numbered_filter : (p : Row → Bool) (t : DriverRow → Bool) (deaf : (x : DriverRow) → p (driver_row x) ≡ t x) (rows : List Row)
    (all : List DriverRow) → AreNumberedRowsOf rows all → AreNumberedRowsOf (filter p rows) (filter t all)
numbered_filter p t deaf rows all s = record {
  apart = λ a b here there. s.apart a b (has_filtered p rows a here).0 (has_filtered p rows b there).0;
  same = subst (λ xs. IsPermutation xs (filter p rows))
      (filter-map p driver_row all ∙ ap (map driver_row) (filter_same _ t all (all_from _ all (λ x _. deaf x))))
      (IsPermutation-filter p _ _ s.same);
}

-- what a query shows of the rows that pass
pub numbered_shown : {Y : Type 0} (p : Row → Bool) (t : DriverRow → Bool) (deaf : (x : DriverRow) → p (driver_row x) ≡ t x) (f : Row → Y)
    (show : DriverRow → Y) → ((x : DriverRow) → f (driver_row x) ≡ show x)
    → (rows : List Row) (all : List DriverRow) → AreNumberedRowsOf rows all → IsPermutation (map show (filter t all)) (map f (filter p rows))
numbered_shown p t deaf f show same rows all s =
    let k = numbered_filter p t deaf rows all s in
    let left : map f (map driver_row (filter t all)) ≡ map show (filter t all) = map-map f driver_row (filter t all)
    ∙ map_same _ show (filter t all) (all_from _ (filter t all) (λ x _. same x)) in
    subst (λ xs. IsPermutation xs (map f (filter p rows))) left (IsPermutation-map f (map driver_row (filter t all)) (filter p rows) k.same)

-- a function that changes no element of a list doesn't change the list
unmoved : {X : Type 0} (f : X → X) (xs : List X) → AllByRecursion (λ x. f x ≡ x) xs → map f xs ≡ xs
unmoved f [] all = refl
unmoved f (x ∷ xs) all = rw (all.0, unmoved f xs all.1) refl

-- an UPDATE changes the drivers that pass
module _ (rows : List Row) (all : List DriverRow) (s : AreNumberedRowsOf rows all) (p : Row → Bool) (t : DriverRow → Bool)
    (deaf : (x : DriverRow) → p (driver_row x) ≡ t x)
    (shown new_of : Row → Row) (change : DriverRow → DriverRow)
    (finds : (x : DriverRow) → rowid (shown (driver_row x)) ≡ rowid (driver_row x))
    (makes : (x : DriverRow) → new_of (shown (driver_row x)) ≡ driver_row (change x)) where
  pub numbered_updated : (out : List Row) → IsPermutation (map shown (filter p rows)) out
      → are_fresh (without_all rows (ids_of out)) (map new_of out) ≡ true
      → AreNumberedRowsOf (put_all (without_all rows (ids_of out)) (map new_of out)) (map (λ x. cond (t x) (change x) x) all)
  numbered_updated out same fresh = numbered_shuffled _ _ _
      (subst (λ ns. AreNumberedRowsOf (put_all (without_all rows (ids_of out)) ns) (pulled.0 ++ rest)) (sym pulled.2) placed) mixed
    where
      rest : List DriverRow
      rest = filter (λ x. not (t x)) all

      turned : List DriverRow
      turned = map change (filter t all)

      cut : Row → Row
      cut r = rowid r ∷ []

      numbers : IsPermutation (map cut (filter p rows)) (map cut out)
      numbers =
          let each : map cut (map shown (filter p rows)) ≡ map cut (filter p rows) =
          map-map cut shown (filter p rows) ∙ map_same _ cut (filter p rows)
          (all_from _ (filter p rows) (λ r has. let it = drivers_only rows all s r (has_filtered p rows r has).0 in
          subst (λ (z : Row). cut (shown z) ≡ cut z) (sym it.1) (ap (λ v. v ∷ []) (finds it.0)))) in
          subst (λ xs. IsPermutation xs (map cut out)) each (IsPermutation-map cut (map shown (filter p rows)) out same)

      remains : without_all rows (ids_of out) ≡ filter (λ r. not (p r)) rows
      remains = ap (without_all rows) (sym (map-map _ cut out)) ∙ left_is rows (are_numbered rows all s) p (map cut out) numbers

      left : AreNumberedRowsOf (without_all rows (ids_of out)) rest
      left = subst (λ xs. AreNumberedRowsOf xs rest) (sym remains)
          (numbered_filter (λ r. not (p r)) (λ x. not (t x)) (λ x. ap not (deaf x)) rows all s)

      moved : IsPermutation (map driver_row turned) (map new_of out)
      moved =
          let first = numbered_shown p t deaf (λ r. new_of (shown r)) (λ x. driver_row (change x)) makes rows all s in
          let second = subst (λ xs. IsPermutation xs (map new_of out)) (map-map new_of shown (filter p rows))
          (IsPermutation-map new_of (map shown (filter p rows)) out same) in
          subst (λ xs. IsPermutation xs (map new_of out)) (sym (map-map driver_row change (filter t all)))
          (IsPermutation-trans _ _ _ first second)

      pulled : (to : List DriverRow) × IsPermutation turned to × (map new_of out ≡ map driver_row to)
      pulled = pull_back driver_row _ _ moved turned refl

      placed : AreNumberedRowsOf (put_all (without_all rows (ids_of out)) (map driver_row pulled.0)) (pulled.0 ++ rest)
      placed = numbered_put_all pulled.0 (without_all rows (ids_of out)) rest left
          (subst (λ ns. are_fresh (without_all rows (ids_of out)) ns ≡ true) pulled.2 fresh)

      pick : DriverRow → DriverRow
      pick x = cond (t x) (change x) x

      by_case : IsPermutation (map pick all) (map pick (filter t all) ++ map pick rest)
      by_case = subst (IsPermutation (map pick all)) (map-append pick (filter t all) rest)
          (IsPermutation-map pick all _ (IsPermutation-filter_both t (λ x. not (t x)) (λ x. refl) all))

      passed : map pick (filter t all) ≡ turned
      passed = map_same _ _ (filter t all) (all_from _ (filter t all) (λ x has. ap (λ b. cond b (change x) x) (has_filtered t all x has).1))

      stayed : map pick rest ≡ rest
      stayed = unmoved pick rest (all_from _ rest
          (λ x has. ap (λ b. cond b (change x) x) (not-true _ (has_filtered (λ x. not (t x)) all x has).1)))

      mixed : IsPermutation (map pick all) (pulled.0 ++ rest)
      mixed = IsPermutation-trans _ _ _ (rw (passed, stayed) at by_case) (IsPermutation-append_left rest _ _ pulled.1)

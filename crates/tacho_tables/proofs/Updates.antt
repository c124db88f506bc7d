-- An UPDATE of rows that represent a list.
use Rattle.std.proofs.Common.{◌≡◌, ℤ, map, drop, Bool, true, not, cond, List, [], ◌∷◌, ◌++◌, filter, refl, sym, ap, ◌∙◌, subst, inl, inr}
use Rattle.std.specs.List.{AllByRecursion}
use Rattle.std.specs.List.Sorted.{IsPermutation}
use Rattle.std.proofs.lemmas.Bool.{and_parts, not-true}
use Rattle.std.proofs.lemmas.List.{map-append}
use Rattle.std.proofs.lemmas.List.Sorted.{IsPermutation-sym, IsPermutation-trans, IsPermutation-middle, IsPermutation-map, IsPermutation-append_left, IsPermutation-filter_both}
use Rattle.sqlite_value.specs.declared.value.Value.{Value}
use Rattle.sqlite_value.specs.declared.value.Value.TheVariants.{Null, Int}
use Rattle.sqlite_value.specs.Order.{Row}
use Rattle.sqlite_trees.specs.Tree.{rowid, put_row}
use Rattle.sqlite_trees.proofs.ListLemmas.{map-map, all-permutation}
use Rattle.sqlite_rules.specs.Calls.{ids_of}
use Rattle.sqlite_rules.specs.Lists.{Has}
use Rattle.sqlite_rules.specs.Edit.{next_rowid, numbered, without_all, put_all, are_fresh}
use Rattle.sqlite_rules.specs.declared.error.Rowids.TheVariants.{Chosen}
use Rattle.sqlite_rules.proofs.ListLemmas.{all_from, has_filtered}
use Rattle.tacho_tables.specs.Rows.{AreRowsOf}
use Rattle.tacho_tables.proofs.Stored.{stands_put, stands_shuffled, stands_left, shown_of, map_same}

module _ {X : Type 0} (columns : X → Row) where
  -- a number and a value as a row
  abbrev as_row : ℤ × X → Row
  as_row p = Int p.0 ∷ columns p.1

  -- the row is a number and a value
  abbrev IsStored : Row → Type 0
  IsStored r = (id : ℤ) × (x : X) × (r ≡ Int id ∷ columns x)

  -- putting rows adds their values to the list
  stands_put_all : (pairs : List (ℤ × X)) (rows : List Row) (all : List X) → AreRowsOf columns rows all → are_fresh rows (map as_row pairs) ≡ true
      → AreRowsOf columns (put_all rows (map as_row pairs)) (map (λ (p : ℤ × X). p.1) pairs ++ all)
  stands_put_all [] rows all s fresh = s
  stands_put_all (p ∷ ps) rows all s fresh =
      let parts = and_parts _ _ fresh in
      let later = stands_put_all ps (put_row (as_row p) rows) (p.1 ∷ all) (stands_put columns rows all p.0 p.1 s (not-true _ parts.0)) parts.1 in
      stands_shuffled columns _ _ _ later (IsPermutation-map columns _ _ (IsPermutation-sym _ _ (IsPermutation-middle (map (λ (p : ℤ × X). p.1) ps) p.1 all)))

  -- likewise for rows whose numbers the store chooses
  pub stands_chosen : (xs : List X) (rows : List Row) (all : List X) → AreRowsOf columns rows all
      → are_fresh rows (numbered Chosen rows (map (λ x. Null ∷ columns x) xs)) ≡ true
      → AreRowsOf columns (put_all rows (numbered Chosen rows (map (λ x. Null ∷ columns x) xs))) (xs ++ all)
  stands_chosen [] rows all s fresh = s
  stands_chosen (x ∷ xs) rows all s fresh =
      let parts = and_parts _ _ fresh in
      let put = stands_put columns rows all (next_rowid rows) x s (not-true _ parts.0) in
      let later = stands_chosen xs (put_row (Int (next_rowid rows) ∷ columns x) rows) (x ∷ all) put parts.1 in
      stands_shuffled columns _ _ _ later (IsPermutation-map columns _ _ (IsPermutation-sym _ _ (IsPermutation-middle xs x all)))

  -- such rows as pairs of number and value
  pairs_of : (rows : List Row) → AllByRecursion IsStored rows → (pairs : List (ℤ × X)) × (rows ≡ map as_row pairs)
  pairs_of [] all = ([], refl)
  pairs_of (r ∷ rows) all = let more = pairs_of rows all.1 in ((all.0.0, all.0.1) ∷ more.0, rw (all.0.2, more.1) refl)

  module _ (rows : List Row) (all : List X) (s : AreRowsOf columns rows all) (p : Row → Bool) (t : X → Bool) (deaf : (v : Value) (x : X) → p (v ∷ columns x) ≡ t x)
      (shown new_of : Row → Row) (change : X → X) (finds : (v : Value) (x : X) → rowid (shown (v ∷ columns x)) ≡ v)
      (makes : (id : ℤ) (x : X) → new_of (shown (Int id ∷ columns x)) ≡ Int id ∷ columns (change x)) (rest : (v : Value) (x : X) → drop 1 (new_of (shown (v ∷ columns x))) ≡ columns (change x)) where
    -- an UPDATE changes the values that pass, and keeps the others
    pub stands_updated : (out : List Row) → IsPermutation (map shown (filter p rows)) out → are_fresh (without_all rows (ids_of out)) (map new_of out) ≡ true
        → AreRowsOf columns (put_all (without_all rows (ids_of out)) (map new_of out)) (map (λ x. cond (t x) (change x) x) all)
    stands_updated out same fresh = stands_shuffled columns _ _ _ (subst (λ ns. AreRowsOf columns (put_all (without_all rows (ids_of out)) ns) (map (λ (q : ℤ × X). q.1) pairs.0 ++ filter (λ x. not (t x)) all)) (sym pairs.1) placed) mixed
      where
        -- a row cut to its number
        cut : Row → Row
        cut r = rowid r ∷ []

        -- they are the numbers of the rows that passed
        ids : ids_of (map cut out) ≡ ids_of out
        ids = map-map _ cut out

        -- the numbers that were found
        numbers : IsPermutation (map cut (filter p rows)) (map cut out)
        numbers =
            let moved = IsPermutation-map cut (map shown (filter p rows)) out same in
            let each : map cut (map shown (filter p rows)) ≡ map cut (filter p rows) =
            map-map cut shown (filter p rows) ∙ map_same _ cut (filter p rows) (all_from _ (filter p rows) (λ r has. let it = s.stored r (has_filtered p rows r has).0 in
            subst (λ (z : Row). cut (shown z) ≡ cut z) (sym it.2) (ap (λ v. v ∷ []) (finds (Int it.0) it.1)))) in
            subst (λ xs. IsPermutation xs (map cut out)) each moved

        -- the rows that remain without them represent the values that don't pass
        left : AreRowsOf columns (without_all rows (ids_of out)) (filter (λ x. not (t x)) all)
        left = subst (λ is. AreRowsOf columns (without_all rows is) (filter (λ x. not (t x)) all)) ids (stands_left columns rows all s p t deaf (map cut out) numbers)

        -- the rows that were put are such rows
        all_stored : AllByRecursion IsStored (map new_of out)
        all_stored =
            all-permutation IsStored (map new_of (map shown (filter p rows))) (map new_of out) (IsPermutation-map new_of _ _ same)
            (subst (AllByRecursion IsStored) (sym (map-map new_of shown (filter p rows)))
            (each_stored (filter p rows) (λ r has. (has_filtered p rows r has).0)))
          where
            each_stored : (some : List Row) → ((r : Row) → Has some r → Has rows r) → AllByRecursion IsStored (map (λ r. new_of (shown r)) some)
            each_stored [] within = tt
            each_stored (r ∷ more) within = let it = s.stored r (within r (inl refl)) in
                ((it.0, change it.1, ap (λ (z : Row). new_of (shown z)) it.2 ∙ makes it.0 it.1), each_stored more (λ q has. within q (inr has)))

        -- these rows as pairs of number and value
        pairs : (pairs : List (ℤ × X)) × (map new_of out ≡ map as_row pairs)
        pairs = pairs_of (map new_of out) all_stored

        -- with them, the rows represent the new values and those that remain
        placed : AreRowsOf columns (put_all (without_all rows (ids_of out)) (map as_row pairs.0)) (map (λ (q : ℤ × X). q.1) pairs.0 ++ filter (λ x. not (t x)) all)
        placed = stands_put_all pairs.0 (without_all rows (ids_of out)) (filter (λ x. not (t x)) all) left (subst (λ ns. are_fresh (without_all rows (ids_of out)) ns ≡ true) pairs.1 fresh)

        -- the new columns are those of the values that passed, changed
        changed : IsPermutation (map (λ x. columns (change x)) (filter t all)) (map columns (map (λ (q : ℤ × X). q.1) pairs.0))
        changed =
            let put = shown_of columns rows all s p t deaf (λ r. drop 1 (new_of (shown r))) (λ x. columns (change x)) rest in
            let moved = IsPermutation-map (λ (r : Row). drop 1 (new_of r)) (map shown (filter p rows)) out same in
            let from : map (λ (r : Row). drop 1 (new_of r)) (map shown (filter p rows)) ≡ map (λ r. drop 1 (new_of (shown r))) (filter p rows) = map-map _ shown (filter p rows) in
            let to : map (λ (r : Row). drop 1 (new_of r)) out ≡ map columns (map (λ (q : ℤ × X). q.1) pairs.0) =
            sym (map-map (drop 1) new_of out) ∙ ap (map (drop 1)) pairs.1 ∙ map-map (drop 1) as_row pairs.0 ∙ sym (map-map columns (λ (q : ℤ × X). q.1) pairs.0) in
            IsPermutation-trans _ _ _ put (subst (λ xs. IsPermutation xs (map columns (map (λ (q : ℤ × X). q.1) pairs.0))) from (subst (IsPermutation (map (λ (r : Row). drop 1 (new_of r)) (map shown (filter p rows)))) to moved))

        -- the images of a list are those of the values that pass and of those that don't, up to order
        by_case : (f : X → Row) (xs : List X) → IsPermutation (map f xs) (map f (filter t xs) ++ map f (filter (λ x. not (t x)) xs))
        by_case f xs = subst (IsPermutation (map f xs)) (map-append f (filter t xs) (filter (λ x. not (t x)) xs)) (IsPermutation-map f xs _ (IsPermutation-filter_both t (λ x. not (t x)) (λ x. refl) xs))

        -- a value as the UPDATE leaves it
        pick : X → X
        pick x = cond (t x) (change x) x

        -- the values that pass are changed
        passed : map (λ x. columns (pick x)) (filter t all) ≡ map (λ x. columns (change x)) (filter t all)
        passed = map_same _ _ (filter t all) (all_from _ (filter t all) (λ x has. ap (λ b. columns (cond b (change x) x)) (has_filtered t all x has).1))

        -- the others stay
        stayed : map (λ x. columns (pick x)) (filter (λ x. not (t x)) all) ≡ map columns (filter (λ x. not (t x)) all)
        stayed = map_same _ _ (filter (λ x. not (t x)) all) (all_from _ (filter (λ x. not (t x)) all) (λ x has. ap (λ b. columns (cond b (change x) x)) (not-true _ (has_filtered (λ x. not (t x)) all x has).1)))

        -- together they are the list after the UPDATE
        mixed : IsPermutation (map columns (map pick all)) (map columns (map (λ (q : ℤ × X). q.1) pairs.0 ++ filter (λ x. not (t x)) all))
        mixed =
            let whole : IsPermutation (map columns (map pick all)) (map (λ x. columns (change x)) (filter t all) ++ map columns (filter (λ x. not (t x)) all)) =
            subst (λ xs. IsPermutation xs (map (λ x. columns (change x)) (filter t all) ++ map columns (filter (λ x. not (t x)) all))) (sym (map-map columns pick all))
            (rw (passed, stayed) at (by_case (λ x. columns (pick x)) all)) in
            subst (IsPermutation (map columns (map pick all))) (sym (map-append columns (map (λ (q : ℤ × X). q.1) pairs.0) (filter (λ x. not (t x)) all)))
            (IsPermutation-trans _ _ _ whole (IsPermutation-append_left (map columns (filter (λ x. not (t x)) all)) _ _ changed))

-- What an edit of rows does to the list that they represent.
use Rattle.std.proofs.Common.{◌≡◌, ℤ, map, drop, Bool, true, false, not, ◌||◌, cond, List, [], ◌∷◌, filter, Ordering, Less, Equal, Greater, refl, sym, ap, ◌∙◌, subst, inl, inr, true≢false, arith}
use Rattle.std.specs.List.{AllByRecursion, list_any}
use Rattle.std.specs.List.Sorted.{IsPermutation}
use Rattle.std.specs.Ordering.{is_eq, match_ordering, int_cmp}
use Rattle.std.proofs.lemmas.Bool.{or_parts}
use Rattle.std.specs.Cmp.{both_ways}
use Rattle.std.proofs.lemmas.List.Sorted.{IsPermutation-refl, IsPermutation-trans, IsPermutation-cons, IsPermutation-middle, IsPermutation-map, list_any-IsPermutation}
use Rattle.sqlite_value.specs.declared.value.Value.{Value}
use Rattle.sqlite_value.specs.declared.value.Value.TheVariants.{Null, Int}
use Rattle.sqlite_value.specs.Order.{Row, value_cmp}
use Rattle.sqlite_value.proofs.OrderLemmas.{value_cmp-Int}
use Rattle.std.proofs.lemmas.Cmp.{int_cmp_total, tied_itself}
use Rattle.std.proofs.lemmas.Int.{ints}
use Rattle.sqlite_trees.specs.Tree.{rowid, has_rowid, put_row, without_rowid}
use Rattle.sqlite_trees.proofs.ListLemmas.{map-map, IsPermutation-filter, filter-map, filter_same, filter_all}
use Rattle.sqlite_rules.specs.Calls.{ids_of}
use Rattle.sqlite_rules.specs.Lists.{Has}
use Rattle.sqlite_rules.specs.Edit.{id_in, without_all, is_taken}
use Rattle.sqlite_rules.proofs.ListLemmas.{has_filtered, has_kept, some_has, some_from, all_from}
use Rattle.sqlite_rules.proofs.TableLemmas.{put_has}
use Rattle.tacho_tables.specs.Rows.{AreRowsOf}

-- putting a row with a free number adds one row, up to order
pub put_shuffles : (new : Row) (rows : List Row) → is_taken rows new ≡ false → IsPermutation (new ∷ rows) (put_row new rows)
put_shuffles new [] free = IsPermutation-refl _
put_shuffles new (r ∷ rows) free = go (value_cmp (rowid r) (rowid new)) (or_parts _ _ free).0 (put_shuffles new rows (or_parts _ _ free).1)
  where
    go : (o : Ordering) → is_eq o ≡ false → IsPermutation (new ∷ rows) (put_row new rows)
        → IsPermutation (new ∷ r ∷ rows) (match_ordering o (r ∷ put_row new rows) (new ∷ rows) (new ∷ r ∷ rows))
    go Less other h = IsPermutation-trans _ _ _ (IsPermutation-middle (new ∷ []) r rows) (IsPermutation-cons r _ _ h)
    go Equal other h = absurd (true≢false other)
    go Greater other h = IsPermutation-refl _

-- some element's image passes exactly if some image passes
list_any-map : {A B : Type 0} (p : B → Bool) (f : A → B) (xs : List A) → list_any p (map f xs) ≡ list_any (λ x. p (f x)) xs
list_any-map p f [] = refl
list_any-map p f (x ∷ xs) = ap (λ b. p (f x) || b) (list_any-map p f xs)

-- two functions that agree on a list have the same images
pub map_same : {A B : Type 0} (f g : A → B) (xs : List A) → AllByRecursion (λ x. f x ≡ g x) xs → map f xs ≡ map g xs
map_same f g [] all = refl
map_same f g (x ∷ xs) all = rw (all.0, map_same f g xs all.1) refl

-- ---- row numbers as values

-- numbers that compare equal are equal
same_id : (a b : ℤ) → is_eq (value_cmp (Int a) (Int b)) ≡ true → a ≡ b
same_id a b h = int_eq_same a b (sym (ap is_eq (value_cmp-Int a b)) ∙ h)
  where
    int_eq_same : (a b : ℤ) → is_eq (int_cmp a b) ≡ true → a ≡ b
    int_eq_same a b h = grind (arith, ints)

-- a number compares equal to itself
pub own_id : (a : ℤ) → is_eq (value_cmp (Int a) (Int a)) ≡ true
own_id a = ap is_eq (value_cmp-Int a a) ∙ ap is_eq (tied_itself int_cmp_total a)

-- ---- edits of rows that represent a list

-- no row has a number that is free
pub free_from : (rows : List Row) (id : ℤ) (rest b : Row) → is_taken rows (Int id ∷ rest) ≡ false → Has rows b → rowid b ≡ Int id → ⊥
free_from rows id rest b free has is = true≢false
    (sym (some_from (λ r. is_eq (value_cmp (rowid r) (Int id))) rows b has
    (subst (λ v. is_eq (value_cmp v (Int id)) ≡ true) (sym is) (own_id id))) ∙ free)

module _ {X : Type 0} (columns : X → Row) where
  -- the order of the list doesn't matter
  pub stands_shuffled : (rows : List Row) (all other : List X) → AreRowsOf columns rows all
      → IsPermutation (map columns other) (map columns all) → AreRowsOf columns rows other
  stands_shuffled rows all other s same = record { stored = s.stored; apart = s.apart; same = IsPermutation-trans _ _ _ same s.same }

  -- putting a row adds its value to the list
  pub stands_put : (rows : List Row) (all : List X) (id : ℤ) (x : X) → AreRowsOf columns rows all → is_taken rows (Int id ∷ columns x) ≡ false
      → AreRowsOf columns (put_row (Int id ∷ columns x) rows) (x ∷ all)
  stands_put rows all id x s free =
      let new : Row = Int id ∷ columns x in
      record {
        stored = λ r has. elim (put_has new rows r has) [ inl is ↦ (id, x, is) | inr was ↦ s.stored r was ];
        apart = λ a b here there same. elim (put_has new rows a here) [
          | inl is ↦ elim (put_has new rows b there) [
            | inl too ↦ is ∙ sym too
            | inr was ↦ absurd (free_from rows id (columns x) b free was (sym same ∙ ap rowid is))
          ]
          | inr was ↦ elim (put_has new rows b there) [
            | inl too ↦ absurd (free_from rows id (columns x) a free was (same ∙ ap rowid too))
            | inr both ↦ s.apart a b was both same
          ]
        ];
        same = IsPermutation-trans _ _ _ (IsPermutation-cons (columns x) _ _ s.same)
            (IsPermutation-map (drop 1) (new ∷ rows) (put_row new rows) (put_shuffles new rows free));
      }

  module _ (p : Row → Bool) (t : X → Bool) (deaf : (v : Value) (x : X) → p (v ∷ columns x) ≡ t x) where
    blind : (rows : List Row) (all : List X) → AreRowsOf columns rows all → (r : Row) → Has rows r → p r ≡ p (Null ∷ drop 1 r)
    blind rows all s r has = let it = s.stored r has in subst (λ (z : Row). p z ≡ p (Null ∷ drop 1 z)) (sym it.2)
        (deaf _ it.1 ∙ sym (deaf Null it.1))

    pub stands_filter : (rows : List Row) (all : List X) → AreRowsOf columns rows all → AreRowsOf columns (filter p rows) (filter t all)
    stands_filter rows all s = record {
      stored = λ r has. s.stored r (has_filtered p rows r has).0;
      apart = λ a b here there. s.apart a b (has_filtered p rows a here).0 (has_filtered p rows b there).0;
      same =
          let test : Row → Bool = λ w. p (Null ∷ w) in
          let moved = IsPermutation-filter test (map columns all) (map (drop 1) rows) s.same in
          let left : filter test (map columns all) ≡ map columns (filter t all) = filter-map test columns all
          ∙ ap (map columns) (filter_same _ t all (all_from _ all (λ x _. deaf Null x))) in
          let right : filter test (map (drop 1) rows) ≡ map (drop 1) (filter p rows) = filter-map test (drop 1) rows
          ∙ ap (map (drop 1)) (filter_same _ p rows (all_from _ rows (λ r has. sym (blind rows all s r has)))) in
          subst (λ xs. IsPermutation xs (map (drop 1) (filter p rows))) left
          (subst (IsPermutation (filter test (map columns all))) right moved);
    }

-- `without_all` keeps the rows that have none of the numbers
without_all_is : (ids : List ℤ) (rows : List Row) → without_all rows ids ≡ filter (λ r. not (list_any (λ id. has_rowid id r) ids)) rows
without_all_is [] rows = sym (filter_all _ rows (all_from _ rows (λ r has. refl)))
without_all_is (id ∷ ids) rows = without_all_is ids (without_rowid id rows)
    ∙ both (λ r. has_rowid id r) (λ r. list_any (λ i. has_rowid i r) ids) rows
  where
    step : (p q : Row → Bool) (r : Row) (rows : List Row) (a b : Bool) → p r ≡ a → q r ≡ b
        → filter (λ r. not (q r)) (cond (not a) (r ∷ filter (λ r. not (p r)) rows) (filter (λ r. not (p r)) rows)) ≡ cond (not (a || b))
        (r ∷ filter (λ r. not (q r)) (filter (λ r. not (p r)) rows)) (filter (λ r. not (q r)) (filter (λ r. not (p r)) rows))
    step p q r rows true b is too = refl
    step p q r rows false true is too = ap (λ z. cond (not z) (r ∷ filter (λ r. not (q r)) (filter (λ r. not (p r)) rows))
        (filter (λ r. not (q r)) (filter (λ r. not (p r)) rows))) too
    step p q r rows false false is too = ap (λ z. cond (not z) (r ∷ filter (λ r. not (q r)) (filter (λ r. not (p r)) rows))
        (filter (λ r. not (q r)) (filter (λ r. not (p r)) rows))) too

    both : (p q : Row → Bool) (rows : List Row)
        → filter (λ r. not (q r)) (filter (λ r. not (p r)) rows) ≡ filter (λ r. not (p r || q r)) rows
    both p q [] = refl
    both p q (r ∷ rows) = step p q r rows (p r) (q r) refl refl ∙ ap (λ xs. cond (not (p r || q r)) (r ∷ xs) xs) (both p q rows)

-- each row has a number, and no two rows have the same
pub record AreNumbered (rows : List Row) : Type 0 where
  pub numbered : (r : Row) → Has rows r → (id : ℤ) × (rowid r ≡ Int id)
  pub apart : (a b : Row) → Has rows a → Has rows b → rowid a ≡ rowid b → a ≡ b

module _ (rows : List Row) (s : AreNumbered rows) (p : Row → Bool) where
  -- a row has one of the numbers that were found exactly if it passes
  found_is : (out : List Row) → IsPermutation (map (λ r. rowid r ∷ []) (filter p rows)) out → (r : Row) → Has rows r
      → list_any (λ id. has_rowid id r) (ids_of out) ≡ p r
  found_is out same r has =
      list_any-map (λ id. has_rowid id r) (λ o. id_in (rowid o)) out
      ∙ sym (list_any-IsPermutation (λ o. has_rowid (id_in (rowid o)) r) _ _ same)
      ∙ list_any-map (λ (o : Row). has_rowid (id_in (rowid o)) r) (λ r. rowid r ∷ []) (filter p rows)
      ∙ both_ways _ _ sound complete
    where
      sound : list_any (λ o. has_rowid (id_in (rowid o)) r) (filter p rows) ≡ true → p r ≡ true
      sound h =
          let it = some_has (λ o. has_rowid (id_in (rowid o)) r) (filter p rows) h in
          let was = has_filtered p rows it.0 it.1 in
          let o = s.numbered it.0 was.0 in
          let own = s.numbered r has in
          let met : is_eq (value_cmp (Int own.0) (Int o.0)) ≡ true = subst (λ v. is_eq (value_cmp v (Int o.0)) ≡ true) own.1
          (subst (λ v. has_rowid (id_in v) r ≡ true) o.1 it.2) in
          let one : rowid it.0 ≡ rowid r = o.1 ∙ ap Int (sym (same_id own.0 o.0 met)) ∙ sym own.1 in
          subst (λ z. p z ≡ true) (s.apart it.0 r was.0 has one) was.1

      complete : p r ≡ true → list_any (λ o. has_rowid (id_in (rowid o)) r) (filter p rows) ≡ true
      complete h =
          let own = s.numbered r has in
          some_from (λ o. has_rowid (id_in (rowid o)) r) (filter p rows) r (has_kept p rows r has h)
          (subst (λ v. is_eq (value_cmp v (Int (id_in v))) ≡ true) (sym own.1) (own_id own.0))

  -- without the rows that were found, the rows that don't pass remain
  pub left_is : (out : List Row) → IsPermutation (map (λ r. rowid r ∷ []) (filter p rows)) out
      → without_all rows (ids_of out) ≡ filter (λ r. not (p r)) rows
  left_is out same = without_all_is (ids_of out) rows
      ∙ filter_same _ (λ r. not (p r)) rows (all_from _ rows (λ r has. ap not (found_is out same r has)))

module _ {X : Type 0} (columns : X → Row) (rows : List Row) (all : List X) (s : AreRowsOf columns rows all) (p : Row → Bool) (t : X → Bool)
    (deaf : (v : Value) (x : X) → p (v ∷ columns x) ≡ t x) where
  -- what a query shows of the rows that pass
  pub shown_of : {Y : Type 0} (f : Row → Y) (show : X → Y) → ((v : Value) (x : X) → f (v ∷ columns x) ≡ show x)
      → IsPermutation (map show (filter t all)) (map f (filter p rows))
  shown_of f show same =
      let k = stands_filter columns p t deaf rows all s in
      let moved = IsPermutation-map (λ (w : Row). f (Null ∷ w)) (map columns (filter t all)) (map (drop 1) (filter p rows)) k.same in
      let left : map (λ (w : Row). f (Null ∷ w)) (map columns (filter t all)) ≡ map show (filter t all) = map-map
      (λ (w : Row). f (Null ∷ w)) columns (filter t all)
      ∙ map_same _ show (filter t all) (all_from _ (filter t all) (λ x _. same Null x)) in
      let right : map (λ (w : Row). f (Null ∷ w)) (map (drop 1) (filter p rows)) ≡ map f (filter p rows) =
      map-map (λ (w : Row). f (Null ∷ w)) (drop 1) (filter p rows)
      ∙ map_same _ f (filter p rows) (all_from _ (filter p rows)
      (λ r has. let it = k.stored r has in subst (λ (z : Row). f (Null ∷ drop 1 z) ≡ f z) (sym it.2)
      (same Null it.1 ∙ sym (same (Int it.0) it.1)))) in
      subst (λ xs. IsPermutation xs (map f (filter p rows))) left
      (subst (IsPermutation (map (λ (w : Row). f (Null ∷ w)) (map columns (filter t all)))) right moved)

  -- rows with hidden numbers are numbered
  pub are_numbered : AreNumbered rows
  are_numbered = record { numbered = λ r has. (let it = s.stored r has in (it.0, ap rowid it.2)); apart = s.apart }

  -- a DELETE of the rows that pass keeps the others
  pub stands_left : (out : List Row) → IsPermutation (map (λ r. rowid r ∷ []) (filter p rows)) out
      → AreRowsOf columns (without_all rows (ids_of out)) (filter (λ x. not (t x)) all)
  stands_left out same =
      subst (λ xs. AreRowsOf columns xs (filter (λ x. not (t x)) all)) (sym (left_is rows are_numbered p out same))
      (stands_filter columns (λ r. not (p r)) (λ x. not (t x)) (λ v x. ap not (deaf v x)) rows all s)

-- Rows that were parsed, as typed rows of a driver.
use Rattle.std.proofs.Common.{◌≡◌, ◌∙◌, ℕ, suc, ◌+◌, ◌<◌, inl, inr, List, [], ◌∷◌, ◌++◌, add-one, drop, length, map, Option, None, Some, Less, refl, sym, ap, ap₂, subst, arith}
use Rattle.std.specs.Prelude.{Vec}
use Rattle.std.specs.declared.alloc.Global.{Global}
use Rattle.std.specs.List.{AllByRecursion, slice_index_or}
use Rattle.std.specs.List.Sorted.{IsPermutation}
use Rattle.std.specs.Ordering.{nat_cmp}
use Rattle.std.proofs.Math.Seq.{drop-cons}
use Rattle.std.proofs.lemmas.Bool.Decides.{nat_tests}
use Rattle.std.proofs.lemmas.List.Sorted.{IsPermutation-sym, IsPermutation-trans, IsPermutation-map}
use Rattle.sqlite_value.specs.Order.{Row}
use Rattle.sqlite_schema.specs.declared.schema.Column.{Column}
use Rattle.sqlite_trees.specs.Tree.{IsAscending}
use Rattle.sqlite_trees.proofs.ListLemmas.{pull_back, all-permutation}
use Rattle.sqlite_rules.proofs.ListLemmas.{all_has}
use Rattle.tacho_check.specs.Parsed.{IsParsed, Pairs, NeverFall, GoOn, IsCounted, HasUnread, AreRead, AreParsed, AreInOrder, AreNumbered}
use Rattle.tacho_check.specs.Typed.{IsOwnRow, AreShown}
use Rattle.tacho_check.proofs.RowOrderLemmas.{same_stored, one_order}

-- ---- lists

-- what remains at a place begins with the element there
pub cut_at : {X : Type 0} (xs : List X) (i : ℕ) (x : X) → i < length xs → slice_index_or xs i x ≡ x → drop i xs ≡ x ∷ drop (i + 1) xs
cut_at xs i x some at = rw add-one (drop-cons xs i x some ∙ ap (λ y. y ∷ drop (suc i) xs) at)

module _ {X Y : Type 0} (R : X → Y → Type 0) where
  -- one more pair
  pub pairs_more : (xs : List X) (ys : List Y) (x : X) (y : Y) → Pairs R xs ys → R x y → Pairs R (xs ++ x ∷ []) (ys ++ y ∷ [])
  pairs_more [] [] x y h r = (r, tt)
  pairs_more [] (b ∷ ys) x y h r = absurd h
  pairs_more (a ∷ xs) [] x y h r = absurd h
  pairs_more (a ∷ xs) (b ∷ ys) x y h r = (h.0, pairs_more xs ys x y h.1 r)

  -- pairs as one list
  zipped : (xs : List X) (ys : List Y) → Pairs R xs ys
      → (zs : List (X × Y)) × (map (λ z. z.0) zs ≡ xs) × (map (λ z. z.1) zs ≡ ys) × AllByRecursion (λ z. R z.0 z.1) zs
  zipped [] [] h = ([], refl, refl, tt)
  zipped [] (y ∷ ys) h = absurd h
  zipped (x ∷ xs) [] h = absurd h
  zipped (x ∷ xs) (y ∷ ys) h =
      let more = zipped xs ys h.1 in
      ((x, y) ∷ more.0, ap (λ us. x ∷ us) more.1, ap (λ bs. y ∷ bs) more.2, (h.0, more.3))

  unzipped : (zs : List (X × Y)) → AllByRecursion (λ z. R z.0 z.1) zs → Pairs R (map (λ z. z.0) zs) (map (λ z. z.1) zs)
  unzipped [] h = tt
  unzipped (z ∷ zs) h = (h.0, unzipped zs h.1)

  -- where the second elements are in another order, so are the first
  pub pairs_moved : (xs : List X) (ys moved : List Y) → Pairs R xs ys → IsPermutation ys moved
      → (us : List X) × IsPermutation xs us × Pairs R us moved
  pairs_moved xs ys moved h same =
      let it = zipped xs ys h in
      let back = pull_back (λ (z : X × Y). z.1) ys moved same it.0 (sym it.2) in (
        map (λ z. z.0) back.0,
        subst (λ us. IsPermutation us (map (λ z. z.0) back.0)) it.1 (IsPermutation-map (λ z. z.0) it.0 back.0 back.1),
        subst (Pairs R (map (λ z. z.0) back.0)) (sym back.2)
            (unzipped back.0 (all-permutation (λ z. R z.0 z.1) it.0 back.0 back.1 it.3)),
      )

  -- what is equal of each two elements is so of the lists
  pub pairs_mapped : {Z : Type 0} (f : X → Z) (g : Y → Z) → ((x : X) (y : Y) → R x y → f x ≡ g y) → (xs : List X) (ys : List Y)
      → Pairs R xs ys → map f xs ≡ map g ys
  pairs_mapped f g alike [] [] h = refl
  pairs_mapped f g alike [] (y ∷ ys) h = absurd h
  pairs_mapped f g alike (x ∷ xs) [] h = absurd h
  pairs_mapped f g alike (x ∷ xs) (y ∷ ys) h = ap₂ (λ u us. u ∷ us) (alike x y h.0) (pairs_mapped f g alike xs ys h.1)

-- ---- rows that were read

-- what was parsed, sorted by number, is in order
pub in_order : {Y : Type 0} (is_of : Row → Option Y → Type 0) (number_of : Y → ℕ) (rows : List Row) (found : Option (Vec Y Global))
    (ys : Vec Y Global) (sorted : List Y) → found ≡ Some ys → AreParsed is_of rows found → IsPermutation ys.items sorted
    → NeverFall 0 (map number_of sorted) → AreInOrder is_of number_of rows sorted
in_order is_of number_of rows found ys sorted is h same up =
    let it = pairs_moved (λ row y. is_of row (Some y)) rows ys.items sorted (subst (AreParsed is_of rows) is h) same in
    record { moved = it.0; same = it.1; each = it.2; never_fall = up }

-- how a table's rows are read: a stored row is that of a typed row exactly if what is shown of it is what the typed row shows
pub record IsTyping (n : ℕ) (table : List Column) {X Y : Type 0} (Shows : Row → X → Type 0) (StandsFor : Y → X → Type 0)
    (columns : X → Row) (shown : Row → Row) (Within : X → Type 0) (number_of : Y → ℕ) (key : X → ℕ) : Type 0 where
  pub made : (w : Row) → IsOwnRow n table w → (x : X) → Shows (shown w) x → w ≡ columns x
  pub back : (x : X) → Within x → Shows (shown (columns x)) x
  pub inside : (row : Row) (x : X) → Shows row x → Within x
  pub alike : (y : Y) (x : X) → StandsFor y x → number_of y ≡ key x
  pub one : (a b : X) → columns a ≡ columns b → a ≡ b

module _ {n : ℕ} {table : List Column} {X Y : Type 0} {Shows : Row → X → Type 0} {StandsFor : Y → X → Type 0}
    {columns : X → Row} {shown : Row → Row} {Within : X → Type 0} {number_of : Y → ℕ} {key : X → ℕ}
    (typing : IsTyping n table Shows StandsFor columns shown Within number_of key)
    {own found : List Row} (it : AreShown n table shown own found) where
  -- typed rows that have the stored rows, and what stands for them
  pub record AreTyped (ys : List Y) : Type 0 where
    pub xs : List X
    pub stands : Pairs StandsFor ys xs
    pub within : AllByRecursion Within xs
    pub rows : IsPermutation (map columns xs) own

  -- rows that were parsed show typed rows
  typed : (rows : List Row) (ys : List Y) → AreRead (IsParsed Shows StandsFor) rows ys
      → (xs : List X) × Pairs Shows rows xs × Pairs StandsFor ys xs × AllByRecursion Within xs
  typed [] [] h = ([], tt, tt, tt)
  typed [] (y ∷ ys) h = absurd h
  typed (row ∷ rows) [] h = absurd h
  typed (row ∷ rows) (y ∷ ys) h =
      let more = typed rows ys h.1 in
      (h.0.0 ∷ more.0, (h.0.1, more.1), (h.0.2, more.2), (typing.inside row h.0.0 h.0.1, more.3))

  -- rows that show typed rows are theirs
  rows_made : (ws : List Row) (xs : List X) → AllByRecursion (IsOwnRow n table) ws → Pairs Shows (map shown ws) xs → ws ≡ map columns xs
  rows_made [] [] all h = refl
  rows_made [] (x ∷ xs) all h = absurd h
  rows_made (w ∷ ws) [] all h = absurd h
  rows_made (w ∷ ws) (x ∷ xs) all h = ap₂ (λ u us. u ∷ us) (typing.made w all.0 x h.0) (rows_made ws xs all.1 h.1)

  pub stored : (moved : List Row) (ys : List Y) → IsPermutation found moved → AreRead (IsParsed Shows StandsFor) moved ys → AreTyped ys
  stored moved ys then h =
      let is = typed moved ys h in
      let rows = pull_back shown (map shown own) moved (IsPermutation-trans (map shown own) found moved it.same then) own refl in
      let made = rows_made rows.0 is.0 (all-permutation (IsOwnRow n table) own rows.0 rows.1 it.each)
      (subst (λ us. Pairs Shows us is.0) rows.2 is.1) in
      record {
        xs = is.0;
        stands = is.2;
        within = is.3;
        rows = IsPermutation-sym own (map columns is.0) (subst (IsPermutation own) made rows.1);
      }

  each_shown : (xs : List X) → AllByRecursion Within xs → AllByRecursion (λ v. (x : X) × Shows v x) (map shown (map columns xs))
  each_shown [] h = tt
  each_shown (x ∷ xs) h = ((x, typing.back x h.0), each_shown xs h.1)

  -- where a row shows none, no typed rows have the stored rows
  pub unread : HasUnread {Y = Y} (IsParsed Shows StandsFor) found → (xs : List X) → AllByRecursion Within xs
      → ¬ (IsPermutation (map columns xs) own)
  unread (bad, has, never) xs within moved =
      let all = all-permutation (λ v. (x : X) × Shows v x) (map shown (map columns xs)) found
      (IsPermutation-trans (map shown (map columns xs)) (map shown own) found (IsPermutation-map shown (map columns xs) own moved) it.same)
      (each_shown xs within) in
      let shows = all_has (λ v. (x : X) × Shows v x) found bad all has in
      never shows.0 shows.1

  -- ---- numbered rows

  -- typed rows, numbered from 1 to a count, have the stored rows
  pub record AreRows (count : ℕ) (xs : List X) : Type 0 where
    pub counted : IsCounted count (map key xs)
    pub rows : IsPermutation (map columns xs) own

  less_is : (i j : ℕ) → i < j → nat_cmp i j ≡ Less
  less_is i j h = grind (arith, nat_tests)

  above : (i : ℕ) (xs : List X) (j : ℕ) → i < j → GoOn j (map key xs) → AllByRecursion (λ x. nat_cmp i (key x) ≡ Less) xs
  above i [] j low h = tt
  above i (x ∷ xs) j low h =
      let is = h.0 in (less_is i (key x) (omega (arith, low, is)), above i xs (j + 1) (omega (arith, low)) h.1)

  rise : (xs : List X) (j : ℕ) → GoOn j (map key xs) → IsAscending (λ a b. nat_cmp (key a) (key b) ≡ Less) xs
  rise [] j h = tt
  rise (x ∷ xs) j h = let is = h.0 in (above (key x) xs (j + 1) (omega (arith, is)) h.1, rise xs (j + 1) h.1)

  keys : (ys : List Y) (is : AreTyped ys) → map number_of ys ≡ map key is.xs
  keys ys is = pairs_mapped StandsFor number_of key typing.alike ys is.xs is.stands

  -- what was read, if it is in order, stands for all such rows
  ordered : (count : ℕ) (ys : List Y) → AreInOrder (IsParsed Shows StandsFor) number_of found ys
      → (is : AreTyped ys) × ((zs : List X) → AreRows count zs → zs ≡ is.xs)
  ordered count ys order =
      let is = stored order.moved ys order.same order.each in (
        is,
        (λ zs h. sym (one_order key zs is.xs (rise zs 1 h.counted.1) (same_stored columns typing.one zs is.xs own h.rows is.rows)
            (subst (NeverFall 0) (keys ys is) order.never_fall))),
      )

  pub unnumbered : (count : ℕ) → AreNumbered {Y = Y} (IsParsed Shows StandsFor) number_of count found None → (zs : List X)
      → AllByRecursion Within zs → ¬ (AreRows count zs)
  unnumbered count (inl never) zs within h = unread never zs within h.rows
  unnumbered count (inr (ys, order, uncounted)) zs within h =
      let is = ordered count ys order in
      uncounted (subst (IsCounted count) (ap (map key) (is.1 zs h) ∙ sym (keys ys is.0)) h.counted)

  -- what was read stands for such rows, and for all of them
  pub record AreAllRows (count : ℕ) (ys : List Y) : Type 0 where
    pub typed : AreTyped ys
    pub counted : IsCounted count (map key typed.xs)
    pub only : (zs : List X) → AreRows count zs → zs ≡ typed.xs

  pub numbered : (count : ℕ) (ys : Vec Y Global) → AreNumbered (IsParsed Shows StandsFor) number_of count found (Some ys)
      → AreAllRows count ys.items
  numbered count ys (order, counted) =
      let is = ordered count ys.items order in
      record { typed = is.0; counted = subst (IsCounted count) (keys ys.items is.0) counted; only = is.1 }

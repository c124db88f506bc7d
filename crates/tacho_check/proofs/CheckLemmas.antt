-- A check of all drivers, in the order of their numbers.
use Rattle.std.proofs.Common.{◌≡◌, ◌∙◌, ℕ, zero, suc, ℤ, ◌+◌, ◌<◌, ◌≤◌, ◌<ℤ◌, ◌≤ℤ◌, inl, inr, false, List, [], ◌∷◌, None, Some, take, map, length, refl, sym, ap, subst, arith, add-one}
use Rattle.std.specs.List.{slice_index_or}
use Rattle.std.specs.List.Sorted.{IsPermutation, IsSorted}
use Rattle.std.specs.Ordering.{is_lt, int_cmp}
use Rattle.std.proofs.lemmas.Int.{ints}
use Rattle.std.proofs.lemmas.List.{take_all}
use Rattle.std.proofs.lemmas.List.Sorted.{IsPermutation-sym}
use Rattle.sqlite_value.specs.declared.value.Value.TheVariants.{Int}
use Rattle.sqlite_value.specs.Order.{Row}
use Rattle.sqlite_trees.specs.Tree.{Trees}
use Rattle.sqlite_trees.proofs.ListLemmas.{all-permutation}
use Rattle.sqlite_keyed.proofs.KeyedLemmas.{same_int}
use Rattle.sqlite_rules.specs.Lists.{Has}
use Rattle.sqlite_rules.proofs.ListLemmas.{all_has, all_from, all_more, has_filtered}
use Rattle.sqlite_rules.proofs.ProbeLemmas.{mapped_has, has_mapped}
use Rattle.tacho_tables.specs.Schema.{Layout}
use Rattle.tacho_tables.specs.Schema as made
use Rattle.tacho_tables.specs.declared.table.TableName.{TableName}
use Rattle.tacho_tables.specs.declared.table.TableName.TheVariants.{Held}
use Rattle.tacho_tables.specs.Readable.{is_number, is_own, own_rows, IsReadable}
use Rattle.tacho_tables.specs.Ask.{own_in, number_shown}
use Rattle.tacho_check.specs.Check.{IsSoundAt}
use Rattle.tacho_check.specs.Checked.{IsChecked, AreSoundIn}
use Rattle.tacho_check.specs.Judged.{IsJudged}
use Rattle.tacho_check.specs.Numbers.{number_row, AreAllNumbers}
use Rattle.tacho_check.proofs.OwnLemmas.{own_sound, sound_own}
use Rattle.tacho_check.proofs.ParentLemmas.{none_anywhere}
use Rattle.tacho_check.proofs.StateLemmas.{all_represent}

-- ---- numbers in order

up_self : (a : ℤ) → a ≤ℤ a
up_self a = grind (arith, ints)

up_then : (a b c : ℤ) → is_lt (int_cmp b a) ≡ false → b ≤ℤ c → a ≤ℤ c
up_then a b c next low = grind (arith, ints)

not_both : (a b : ℤ) → a ≤ℤ b → b <ℤ a → ⊥
not_both a b low high = grind (arith, ints)

-- what follows the first of sorted numbers is sorted
sorted_rest : (n : ℤ) (ns : List ℤ) → IsSorted int_cmp (n ∷ ns) → IsSorted int_cmp ns
sorted_rest n ns order k d p q = rw add-one (rw add-one at (order (suc k) d (omega (arith, p)) (omega (arith, q))))

-- the first is the lowest
lowest : (n : ℤ) (ns : List ℤ) → IsSorted int_cmp (n ∷ ns) → (m : ℤ) → Has (n ∷ ns) m → n ≤ℤ m
lowest n ns order m (inl is) = subst (λ (z : ℤ). n ≤ℤ z) (sym is) (up_self n)
lowest n [] order m (inr later) = absurd later
lowest n (k ∷ ns) order m (inr later) =
    up_then n k m (order 0 n (omega arith) (omega arith)) (lowest k ns (sorted_rest n (k ∷ ns) order) m later)

-- a number of the list that is below the one at a place stands before it
stands_before : (ns : List ℤ) → IsSorted int_cmp ns → (i : ℕ) (x : ℤ) → i < length ns → x ≡ slice_index_or ns i x → (m : ℤ) → Has ns m
    → m <ℤ x → Has (take i ns) m
stands_before [] order i x within is m has low = absurd has
stands_before (n ∷ ns) order zero x within is m has low =
    absurd (not_both x m (subst (λ (z : ℤ). z ≤ℤ m) (sym is) (lowest n ns order m has)) low)
stands_before (n ∷ ns) order (suc i) x within is m (inl first) low = inl first
stands_before (n ∷ ns) order (suc i) x within is m (inr later) low =
    inr (stands_before ns (sorted_rest n ns order) i x (omega (arith, within)) is m later low)

-- ---- all drivers

has_permuted : {X : Type 0} (xs ys : List X) (x : X) → IsPermutation xs ys → Has xs x → Has ys x
has_permuted xs ys x same has =
    all_has (Has ys) xs x (all-permutation (Has ys) ys xs (IsPermutation-sym xs ys same) (all_from (Has ys) ys (λ e h. h))) has

module _ (layout : Layout) (db : Trees) (ready : IsReadable layout db) where
  -- a driver who has a row in `drivers` has a number of the list
  listed : (ns : List ℤ) → AreAllNumbers (db made.driver_rows) ns → (m : ℤ) (r : Row) → Has (own_rows m (db made.driver_rows)) r → Has ns m
  listed ns all m r has =
      let own = has_filtered (is_own m) (db made.driver_rows) r has in
      let number = ready.numbered.drivers.numbered r own.0 in
      let same : number.0 ≡ m = same_int number.0 m (sym (ap (is_number m) number.1) ∙ own.1) in
      let shown : number_shown r ≡ number_row m = ap (λ v. v ∷ []) (number.1 ∙ ap Int same) in
      let there = has_permuted (map number_shown (db made.driver_rows)) (map number_row ns) (number_row m) all.all
      (subst (Has (map number_shown (db made.driver_rows))) shown (mapped_has number_shown (db made.driver_rows) r own.0)) in
      let one = has_mapped number_row ns (number_row m) there in
      let alike : m ≡ one.0 = let e = one.2 in cc in
      subst (Has ns) (sym alike) one.1

  -- a driver who has none has no rows, so they are sound
  absent_sound : (m : ℤ) → own_rows m (db made.driver_rows) ≡ [] → IsSoundAt layout db m Held
  absent_sound m none = own_sound layout db Held m (inl (λ j before. none_anywhere layout db ready.sound ready.numbered.drivers m none j))

  -- a driver's rows are sound if they are where the driver has a number of the list
  sound_if : (ns : List ℤ) → AreAllNumbers (db made.driver_rows) ns → (m : ℤ) → (Has ns m → IsSoundAt layout db m Held)
      → IsSoundAt layout db m Held
  sound_if ns all m each = go (own_rows m (db made.driver_rows)) refl where
    go : (rows : List Row) → own_rows m (db made.driver_rows) ≡ rows → IsSoundAt layout db m Held
    go [] e = absent_sound m e
    go (r ∷ rows) e = each (listed ns all m r (subst (λ (xs : List Row). Has xs r) (sym e) (inl refl)))

  -- one more driver's rows are sound
  pub one_more : (ns : List ℤ) (i : ℕ) (x : ℤ) → i < length ns → x ≡ slice_index_or ns i x → AreSoundIn layout db (take i ns)
      → IsJudged (own_in layout db x) x None → AreSoundIn layout db (take (i + 1) ns)
  one_more ns i x within is done sound =
      all_more (λ m. IsSoundAt layout db m Held) ns i x within is done (own_sound layout db Held x sound)

  -- all are sound
  pub all_checked : (ns : List ℤ) (i : ℕ) → AreAllNumbers (db made.driver_rows) ns → length ns ≤ i → AreSoundIn layout db (take i ns)
      → IsChecked layout db None
  all_checked ns i all past done =
      all_represent layout db ready
      (λ m. sound_if ns all m (λ has. all_has (λ k. IsSoundAt layout db k Held) ns m
      (subst (λ (xs : List ℤ). AreSoundIn layout db xs) (take_all i ns past) done) has))

  -- a driver whose rows aren't sound is the first
  pub found_checked : (ns : List ℤ) (i : ℕ) (x : ℤ) → AreAllNumbers (db made.driver_rows) ns → i < length ns → x ≡ slice_index_or ns i x
      → AreSoundIn layout db (take i ns) → (k : TableName) → IsJudged (own_in layout db x) x (Some k)
      → IsChecked layout db (Some (record { driver = x; table = k }))
  found_checked ns i x all within is done k unsound = record {
    layout = layout;
    sound = ready.sound;
    at = record {
      unsound = λ sound. unsound.0 (sound_own layout db k x sound);
      before = λ j first. own_sound layout db j x (unsound.1 j first);
    };
    below = λ m low. sound_if ns all m (λ has. all_has (λ n. IsSoundAt layout db n Held) (take i ns) m done
        (stands_before ns all.sorted i x within is m has low));
  }

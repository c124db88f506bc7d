-- Rows are those of all drivers, one after the other.
use Rattle.std.proofs.Common.{◌≡◌, ◌≢◌, ◌∙◌, ℕ, ℤ, pos, Bool, true, false, not, true≢false, List, [], ◌∷◌, ◌++◌, drop, map, filter, flat_map, refl, sym, ap, ap₂, subst, inl, inr, arith}
use Rattle.std.specs.List.{AllByRecursion}
use Rattle.std.specs.List.Sorted.{IsPermutation}
use Rattle.std.specs.Ordering.{int_eq}
use Rattle.std.proofs.lemmas.Int.{ints}
use Rattle.std.proofs.lemmas.List.{map-append}
use Rattle.std.proofs.lemmas.List.Sorted.{IsPermutation-refl, IsPermutation-sym, IsPermutation-trans, IsPermutation-append, IsPermutation-filter_both, length_permutation}
use Rattle.sqlite_value.specs.declared.value.Value.{Value}
use Rattle.sqlite_value.specs.declared.value.Value.TheVariants.{Null, Int, Real, Text, Blob}
use Rattle.sqlite_value.specs.Order.{Row, column}
use Rattle.sqlite_trees.proofs.ListLemmas.{all-permutation, filter-filter}
use Rattle.sqlite_rules.specs.Lists.{Has}
use Rattle.sqlite_rules.proofs.ProbeLemmas.{mapped_has}
use Rattle.sqlite_rules.proofs.ListLemmas.{all_has, has_filtered}
use Rattle.tacho_tables.specs.Rows.{AreRowsOf}
use Rattle.tacho_state.specs.Distinct.{HasNot, AreDistinct}
use Rattle.tacho_tables.specs.Readable.{is_number, is_own, own_rows, AreNumbered}
use Rattle.tacho_check.specs.Member.{Member, state_of}

-- ---- elements

-- a list with one element has it alone in every order
pub single : {X : Type 0} (x : X) (ys : List X) → IsPermutation (x ∷ []) ys → ys ≡ x ∷ []
single x [] same = absurd (let e = length_permutation (x ∷ []) [] same in omega (arith, e))
single x (y ∷ []) same = ap (λ z. z ∷ []) (all-permutation (λ z. z ≡ x) (x ∷ []) (y ∷ []) same (refl, tt)).0
single x (y ∷ z ∷ ys) same = absurd (let e = length_permutation (x ∷ []) (y ∷ z ∷ ys) same in omega (arith, e))

-- ---- numbers

pub int_self : (n : ℤ) → int_eq n n ≡ true
int_self n = grind (arith, ints)

one_int : (n : ℤ) (a b : ℕ) → int_eq n (pos a) ≡ true → int_eq n (pos b) ≡ true → a ≡ b
one_int n a b p q = grind (arith, ints)

-- a value is one number
one_value : (v : Value) (a b : ℕ) → is_number (pos a) v ≡ true → is_number (pos b) v ≡ true → a ≡ b
one_value Null a b p q = cc
one_value (Int n) a b p q = one_int n a b p q
one_value (Real x) a b p q = cc
one_value (Text t) a b p q = cc
one_value (Blob x) a b p q = cc

-- a row of one driver isn't another's
not_both : (y : Row) (a b : ℕ) → a ≢ b → is_own (pos a) y ≡ true → not (is_own (pos b) y) ≡ true
not_both y a b other own = go (is_own (pos b) y) refl where
  go : (t : Bool) → is_own (pos b) y ≡ t → not t ≡ true
  go true e = absurd (other (one_value (column y 0) a b own e))
  go false e = refl

-- ---- rows by driver

-- the rows of others don't change when one driver's are left out
others_same : (n : ℕ) (ys : List Row) (ms : List Member) → HasNot n (state_of ms)
    → flat_map (λ (m : Member). own_rows (pos m.driver.number) (filter (λ y. not (is_own (pos n) y)) ys)) ms
    ≡ flat_map (λ (m : Member). own_rows (pos m.driver.number) ys) ms
others_same n ys [] h = refl
others_same n ys (m ∷ ms) h =
    ap₂ (λ (xs zs : List Row). xs ++ zs)
    (filter-filter (is_own (pos m.driver.number)) (λ y. not (is_own (pos n) y)) (λ y own. not_both y m.driver.number n h.0 own) ys)
    (others_same n ys ms h.1)

-- if each row is that of a member, the rows are those of all members
pub spread : (ms : List Member) (ys : List Row) → AreDistinct (state_of ms)
    → ((y : Row) → Has ys y → (m : Member) × Has ms m × (is_own (pos m.driver.number) y ≡ true))
    → IsPermutation (flat_map (λ (m : Member). own_rows (pos m.driver.number) ys) ms) ys
spread [] [] d covered = IsPermutation-refl []
spread [] (y ∷ ys) d covered = absurd (covered y (inl refl)).1
spread (m ∷ ms) ys d covered =
    IsPermutation-trans _ (own ++ rest) ys
    (IsPermutation-append own own _ rest (IsPermutation-refl own)
    (subst (λ (xs : List Row). IsPermutation xs rest) (others_same n ys ms d.0) (spread ms rest d.3 remain)))
    (IsPermutation-sym ys (own ++ rest) (IsPermutation-filter_both (is_own (pos n)) (λ y. not (is_own (pos n) y)) (λ y. refl) ys)) where
      n : ℕ
      n = m.driver.number

      own : List Row
      own = own_rows (pos n) ys

      rest : List Row
      rest = filter (λ y. not (is_own (pos n) y)) ys

      remain : (y : Row) → Has rest y → (x : Member) × Has ms x × (is_own (pos x.driver.number) y ≡ true)
      remain y has =
          let both = has_filtered (λ y. not (is_own (pos n) y)) ys y has in
          let it = covered y both.0 in
          go it.0 it.1 it.2 both.1
        where
          go : (x : Member) → Has (m ∷ ms) x → is_own (pos x.driver.number) y ≡ true → not (is_own (pos n) y) ≡ true
              → (x : Member) × Has ms x × (is_own (pos x.driver.number) y ≡ true)
          go x (inl is) mine isnt =
              let yes : is_own (pos n) y ≡ true = subst (λ (z : Member). is_own (pos z.driver.number) y ≡ true) is mine in
              absurd (true≢false (sym isnt ∙ ap not yes))
          go x (inr later) mine isnt = (x, later, mine)

module _ {X : Type 0} (columns : X → Row) (f : Member → List X) (rows : List Row) where
  -- the rows of members, in another order
  each_moved : (ms : List Member)
      → AllByRecursion (λ (m : Member). IsPermutation (map columns (f m)) (own_rows (pos m.driver.number) (map (drop 1) rows))) ms
      → IsPermutation (map columns (flat_map f ms)) (flat_map (λ (m : Member). own_rows (pos m.driver.number) (map (drop 1) rows)) ms)
  each_moved [] h = IsPermutation-refl []
  each_moved (m ∷ ms) h =
      subst (λ (xs : List Row). IsPermutation xs (flat_map (λ (m : Member). own_rows (pos m.driver.number) (map (drop 1) rows)) (m ∷ ms)))
      (sym (map-append columns (f m) (flat_map f ms)))
      (IsPermutation-append (map columns (f m)) (own_rows (pos m.driver.number) (map (drop 1) rows)) (map columns (flat_map f ms)) _ h.0
      (each_moved ms h.1))

  -- each of these rows has the columns of a value
  made_of : (xs : List X) → AllByRecursion (λ (y : Row). (x : X) × (y ≡ columns x)) (map columns xs)
  made_of [] = tt
  made_of (x ∷ xs) = ((x, refl), made_of xs)

  -- a row is its number and its other columns
  row_split : (r : Row) (id : ℤ) → column r 0 ≡ Int id → r ≡ Int id ∷ drop 1 r
  row_split [] id e = absurd (let g = e in cc)
  row_split (v ∷ vs) id e = ap (λ (z : Value). z ∷ vs) e

  -- so the rows of a table are those of the members
  pub table_stands : (ms : List Member) → AreDistinct (state_of ms) → AreNumbered rows
      → AllByRecursion (λ (m : Member). IsPermutation (map columns (f m)) (own_rows (pos m.driver.number) (map (drop 1) rows))) ms
      → ((y : Row) → Has (map (drop 1) rows) y → (m : Member) × Has ms m × (is_own (pos m.driver.number) y ≡ true))
      → AreRowsOf columns rows (flat_map f ms)
  table_stands ms d numbered each covered = record { stored = stored; apart = numbered.apart; same = same } where
    same : IsPermutation (map columns (flat_map f ms)) (map (drop 1) rows)
    same = IsPermutation-trans _ _ _ (each_moved ms each) (spread ms (map (drop 1) rows) d covered)

    stored : (r : Row) → Has rows r → (id : ℤ) × (x : X) × (r ≡ Int id ∷ columns x)
    stored r has =
        let id = numbered.numbered r has in
        let made = all_has (λ (y : Row). (x : X) × (y ≡ columns x)) (map (drop 1) rows) (drop 1 r)
        (all-permutation (λ (y : Row). (x : X) × (y ≡ columns x)) (map columns (flat_map f ms)) (map (drop 1) rows) same
        (made_of (flat_map f ms)))
        (mapped_has (drop 1) rows r has) in
        (id.0, made.0, row_split r id.0 id.1 ∙ ap (λ (z : Row). Int id.0 ∷ z) made.1)

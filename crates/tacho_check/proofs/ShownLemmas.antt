-- What a driver's rows that were read say of the stored rows.
use Rattle.std.proofs.Common.{◌≡◌, ◌≢◌, ◌∙◌, ℕ, suc, ℤ, pos, ◌==◌, Bool, true, false, true≢false, List, [], ◌∷◌, None, drop, map, length, refl, sym, ap, subst, arith}
use Rattle.std.specs.Prelude.{Vec}
use Rattle.std.specs.declared.alloc.Global.{Global}
use Rattle.std.specs.List.{AllByRecursion}
use Rattle.std.specs.List.Sorted.{IsPermutation}
use Rattle.std.specs.Ordering.{int_eq}
use Rattle.std.proofs.lemmas.Bool.Decides.{nat_tests}
use Rattle.std.proofs.lemmas.List.Sorted.{IsPermutation-sym}
use Rattle.sqlite_value.specs.declared.value.Value.TheVariants.{Int}
use Rattle.sqlite_value.specs.Order.{Row, column}
use Rattle.sqlite_schema.specs.declared.schema.Column.{Column}
use Rattle.sqlite_schema.specs.Rules.{are_typed}
use Rattle.sqlite_keyed.proofs.KeyedLemmas.{same_int}
use Rattle.sqlite_rules.proofs.ListLemmas.{all_from, has_filtered}
use Rattle.sqlite_rules.proofs.ProbeLemmas.{has_mapped}
use Rattle.tacho_tables.specs.declared.table.TableName.{TableName}
use Rattle.tacho_tables.specs.declared.table.TableName.TheVariants.{Drivers, Downloads, CardSpans, EntryRows, Held}
use Rattle.tacho_tables.specs.Readable.{is_number, is_own, own_rows}
use Rattle.tacho_tables.specs.Ask.{Show, shown_of}
use Rattle.tacho_tables.proofs.UniqueLemmas.{HasDriver}
use Rattle.tacho_check.specs.declared.own.OwnRows.{OwnRows}
use Rattle.tacho_check.specs.Own.{rows_of, AreOwnRows}
use Rattle.tacho_check.specs.Typed.{IsOwnRow}
use Rattle.tacho_check.proofs.OwnLemmas.{none_moved}
use Rattle.tacho_check.proofs.TypeLemmas.{HasTypes}

-- rows that were read of each table
pub each_table : (own : TableName → List Row) (found : OwnRows) → Show (shown_of Drivers) (own Drivers) (rows_of found Drivers)
    → Show (shown_of Downloads) (own Downloads) (rows_of found Downloads)
    → Show (shown_of CardSpans) (own CardSpans) (rows_of found CardSpans)
    → Show (shown_of EntryRows) (own EntryRows) (rows_of found EntryRows) → Show (shown_of Held) (own Held) (rows_of found Held)
    → AreOwnRows own found
each_table own found a b c d e Drivers = a
each_table own found a b c d e Downloads = b
each_table own found a b c d e CardSpans = c
each_table own found a b c d e EntryRows = d
each_table own found a b c d e Held = e

-- ---- whether there are any

-- a list without images is empty
pub none_mapped : {X Y : Type 0} (f : X → Y) (xs : List X) → map f xs ≡ [] → xs ≡ []
none_mapped f [] e = refl
none_mapped f (x ∷ xs) e = absurd (let g = e in cc)

-- a list with one image has one element
pub one_mapped : {X Y : Type 0} (f : X → Y) (xs : List X) (y : Y) → map f xs ≡ y ∷ [] → (x : X) × (xs ≡ x ∷ []) × (f x ≡ y)
one_mapped f [] y e = absurd (let g = e in cc)
one_mapped f (x ∷ []) y e = let same : f x ≡ y = let g = e in cc in (x, refl, same)
one_mapped f (x ∷ z ∷ xs) y e = absurd (let g = e in cc)

pub none_shown : (shown : Row → Row) (own found : List Row) → Show shown own found → found ≡ [] → own ≡ []
none_shown shown own found same none =
    none_mapped shown own (none_moved (map shown own) (IsPermutation-sym (map shown own) []
    (subst (IsPermutation (map shown own)) none same)))

pub some_shown : (shown : Row → Row) (own found : List Row) → Show shown own found → found ≢ [] → own ≢ []
some_shown shown own found same some none =
    some (none_moved found (subst (λ rows. IsPermutation (map shown rows) found) none same))

-- likewise, by the test of a list that was read
counted_none : (n : ℕ) → (suc n == 0) ≡ true → ⊥
counted_none n h = grind (arith, nat_tests)

pub empty_shown : (shown : Row → Row) (own : List Row) (found : Vec Row Global) → Show shown own found.items → (empty : Bool)
    → empty ≡ (found.len == 0) → empty ≡ true → own ≡ []
empty_shown shown own found same empty is on = go found.items same found.ok.0 where
  go : (items : List Row) → Show shown own items → found.len ≡ length items → own ≡ []
  go [] same many = none_shown shown own [] same refl
  go (x ∷ items) same many = absurd (counted_none (length items) (sym (ap (λ n. n == 0) many) ∙ sym is ∙ on))

pub full_shown : (shown : Row → Row) (own : List Row) (found : Vec Row Global) → Show shown own found.items → (empty : Bool)
    → empty ≡ (found.len == 0) → empty ≡ false → own ≢ []
full_shown shown own found same empty is off = some_shown shown own found.items same (λ none.
    let many : found.len ≡ 0 = found.ok.0 ∙ ap (λ items. length items) none in
    true≢false (sym (ap (λ n. n == 0) many) ∙ sym is ∙ off))

-- ---- typed rows

-- a driver's stored rows have the driver's number, and the types of their table
pub own_rows_are : (m : ℤ) (n : ℕ) → m ≡ pos n → (table : List Column) (rows : List Row) → HasDriver rows → HasTypes table rows
    → AllByRecursion (IsOwnRow n table) (own_rows m (map (drop 1) rows))
own_rows_are m n same table rows has types = all_from (IsOwnRow n table) (own_rows m (map (drop 1) rows))
    (λ w there.
    let was = has_filtered (is_own m) (map (drop 1) rows) w there in
    let row = has_mapped (drop 1) rows w was.0 in
    let number = has row.0 row.1 in
    let first : column w 0 ≡ Int number.0 = ap (λ (z : Row). column z 0) row.2 ∙ number.1 in
    let is : int_eq number.0 (pos n) ≡ true = subst (λ z. int_eq number.0 z ≡ true) same (sym (ap (is_number m) first) ∙ was.1) in
    record {
      driver = first ∙ ap Int (same_int number.0 (pos n) is);
      typed = subst (λ (z : Row). are_typed None 0 table z ≡ true) (sym row.2) (types row.0 row.1);
    })

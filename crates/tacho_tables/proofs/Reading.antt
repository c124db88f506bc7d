-- The spans that are read from rows.
use Rattle.std.proofs.Common.{◌≡◌, ◌∙◌, ℕ, ◌≤◌, List, [], ◌∷◌, ◌++◌, append-nil, drop, drop_of_length-le, length, map, refl, sym, ap, subst, Option, Some, None, Result, Ok, Err, IfOk, arith}
use Rattle.std.specs.Prelude.{Contains, MatchOption}
use Rattle.std.specs.List.Sorted.{IsPermutation}
use Rattle.std.proofs.lemmas.List.Sorted.{IsPermutation-sym, IsPermutation-map, Contains-permutation, length_permutation}
use Rattle.sqlite_trees.proofs.ListLemmas.{pull_back, map-map}
use Rattle.sqlite.specs.Order.{Row}
use Rattle.tacho_tables.specs.declared.rows.StoredSpan.{StoredSpan}
use Rattle.tacho_tables.specs.Calls.{AreMade, IsFirst}
use Rattle.tacho_tables.specs.Rows.{SpanRow}
use Rattle.tacho_tables.specs.Tables.{span_of, span_shown}

-- equal lists have equal heads
pub head_is : {A : Type 0} {x y : A} {xs ys : List A} → x ∷ xs ≡ y ∷ ys → x ≡ y
head_is e = cc

-- and equal tails
tail_is : {A : Type 0} {x y : A} {xs ys : List A} → x ∷ xs ≡ y ∷ ys → xs ≡ ys
tail_is e = cc

-- the first row is read as the first of the values that the rows show
pub reads_first_of : {X A : Type 0} (show : X → Row) (is : X → A) (rest : List X) (row : Row) (more : List Row) (a : A) → row ∷ more ≡ map show rest → ((x : X) → row ≡ show x → a ≡ is x)
    → (later : List X) × (more ≡ map show later) × (map is rest ≡ a ∷ map is later)
reads_first_of show is [] row more a shown reads = absurd (let e = shown in cc)
reads_first_of show is (x ∷ later) row more a shown reads = (later, tail_is shown, ap (λ z. z ∷ map is later) (sym (reads x (head_is shown))))

-- where no row remains, everything was read
pub none_left : {X A : Type 0} (show : X → Row) (is : X → A) (rest : List X) (rows : List Row) (n : ℕ)
    → length rows ≤ n → drop n rows ≡ map show rest
    → (done all : List A) → done ++ map is rest ≡ all → done ≡ all
none_left show is [] rows n past cut done all whole = sym (append-nil done) ∙ whole
none_left show is (x ∷ rest) rows n past cut done all whole = absurd (let e = sym (drop_of_length-le rows past) ∙ cut in cc)

-- only the empty list is a permutation of the empty list
pub none_of_none : {X : Type 0} (xs : List X) → IsPermutation xs [] → xs ≡ []
none_of_none [] same = refl
none_of_none (x ∷ xs) same = absurd (let e = length_permutation (x ∷ xs) [] same in omega (arith, e))

-- the value that is made of the first row is made of one of the values that the rows show
pub first_found : {X Y T V : Type 0} (columns : X → Row) (told : T → V) (meant : X → V) (of : Y → X) (found : Option T) (rows : List Row) (ys : List Y)
    → IsPermutation (map (λ y. columns (of y)) ys) rows → IsFirst columns told meant rows found
    → MatchOption found (ys ≡ []) (λ it. (y : Y) × Contains ys y × (told it ≡ meant (of y)))
first_found columns told meant of found rows ys same first =
    let it = pull_back (λ y. columns (of y)) _ rows same ys refl in go found it.0 it.1 rows it.2 first
  where
    go : (found : Option _) (to : List _) → IsPermutation ys to → (rows : List Row) → rows ≡ map (λ y. columns (of y)) to
        → IsFirst columns told meant rows found
        → MatchOption found (ys ≡ []) (λ it. (y : _) × Contains ys y × (told it ≡ meant (of y)))
    go None [] moved rows shown first = none_of_none ys moved
    go None (y ∷ to) moved rows shown first = absurd (let e = sym shown ∙ first in cc)
    go (Some it) [] moved [] shown first = absurd first
    go (Some it) [] moved (row ∷ rows) shown first = cc
    go (Some it) (y ∷ to) moved [] shown first = absurd first
    go (Some it) (y ∷ to) moved (row ∷ rows) shown first =
        (y, Contains-permutation (y ∷ to) ys y (IsPermutation-sym _ _ moved) (0, omega (arith), refl), first (of y) (head_is shown))

-- a fact about an optional value implies a weaker one
pub some_weaker : {X : Type 0} (o : Option X) (P : Type 0) {Q R : X → Type 0} → ((x : X) → Q x → R x) → MatchOption o P Q
    → MatchOption o P R
some_weaker None P weaker h = h
some_weaker (Some x) P weaker h = weaker x h

-- the values read from rows are those that the rows show, up to order
pub all_read : {X A : Type 0} (show : X → Row) (is : X → A) (xs : List X) (rows : List Row) → IsPermutation (map show xs) rows → (found : List A)
    → ((shown : List X) → rows ≡ map show shown → found ≡ map is shown) → IsPermutation (map is xs) found
all_read show is xs rows same found reads =
    let it = pull_back show _ rows same xs refl in
    subst (IsPermutation (map is xs)) (sym (reads it.0 it.2)) (IsPermutation-map is xs it.0 it.1)

-- the spans that are made of rows
pub spans_made : (rows : List Row) (found : List StoredSpan) → AreMade span_shown (λ s. s) span_of rows found
    → (shown : List SpanRow) → rows ≡ map span_shown shown → found ≡ map span_of shown
spans_made rows found made shown is = same found ∙ made shown is where
  same : (xs : List StoredSpan) → xs ≡ map (λ s. s) xs
  same [] = refl
  same (x ∷ xs) = ap (λ ys. x ∷ ys) (same xs)

-- spans that are made of the rows of other values
pub spans_read : {X : Type 0} (row : X → SpanRow) (xs : List X) (rows : List Row) → IsPermutation (map (λ x. span_shown (row x)) xs) rows
    → (found : List StoredSpan) → AreMade span_shown (λ s. s) span_of rows found → IsPermutation (map (λ x. span_of (row x)) xs) found
spans_read row xs rows same found made =
    subst (λ (ys : List StoredSpan). IsPermutation ys found) (map-map span_of row xs)
    (all_read span_shown span_of (map row xs) rows (subst (λ (ys : List Row). IsPermutation ys rows) (sym (map-map span_shown row xs)) same) found
    (spans_made rows found made))

-- A list whose things have numbers has a sorted permutation; only one, if no two things have the same number. And a decided property has a
-- list of the things in a list that satisfy it.
use Rattle.std.proofs.Common.{◌≡◌, ◌≢◌, ℕ, zero, suc, ◌+◌, ◌<◌, ◌≤◌, ◌⊎◌, ◌↔◌, inl, inr, List, [], ◌∷◌, ◌++◌, length}
use Rattle.std.proofs.Common.{get_or, refl, sym, ap, subst, ◌∙◌, arith}
use Rattle.std.specs.List.{All, AllPairs, Contains, insert, swap}
use Rattle.std.specs.List.Sorted.{IsPermutation, IsNonDecreasingBy}
use Rattle.std.specs.Prelude.{IsSorted}
use Rattle.std.specs.Ordering.{nat_cmp}
use Rattle.std.proofs.lemmas.Bool.{cases_lt}
use Rattle.std.proofs.lemmas.Bool.Decides.{nat_tests}
use Rattle.std.proofs.lemmas.List.Edits.{Swapped, swapped_from_swap, length-swap}
use Rattle.std.proofs.lemmas.List.Elements.{Contains-get_or, All-append}
use Rattle.std.proofs.lemmas.List.Kept.{AllPairs-cons}
use Rattle.std.proofs.lemmas.List.Sorted.{IsPermutation-refl, IsPermutation-sym, IsPermutation-cons}
use Rattle.std.proofs.lemmas.List.Sorted.{IsPermutation-trans, IsPermutation-insert}
use Rattle.std.proofs.lemmas.List.Sorted.{IsPermutation-keeps, IsNonDecreasingBy-insert, Contains-permutation}
use Rattle.tacho_law.specs.Exactly.{AreExactly}
use Rattle.tacho_law.proofs.ExactlyLemmas.{contains_head, contains_tail, contains_cases, head_first, tail_order}
use Rattle.tacho_law.proofs.ExactlyLemmas.{same_list}

-- a property of all members of a list, by place
pub all_of : {A : Type 0} (P : A → Type 0) (xs : List A) → ((x : A) → Contains xs x → P x) → All P xs
all_of P xs h k d within = h (get_or xs k d) (Contains-get_or xs k d within)

module _ {A : Type 0} (R : A → A → Type 0) where
  -- two ordered lists, one after the other
  pub pairs_append : (xs ys : List A) → AllPairs R xs → AllPairs R ys
      → ((x y : A) → Contains xs x → Contains ys y → R x y) → AllPairs R (xs ++ ys)
  pairs_append [] ys o p cross = p
  pairs_append (x ∷ xs) ys o p cross =
      AllPairs-cons R x (xs ++ ys)
      (All-append (R x) xs ys
      (all_of (R x) xs (λ y h. head_first R x xs y o h))
      (all_of (R x) ys (λ y h. cross x y (contains_head x xs) h)))
      (pairs_append xs ys (tail_order R x xs o) p (λ z y h k. cross z y (contains_tail x xs z h) k))

-- the things of a list with a property, in the order of the list
pub record Kept {A : Type 0} (Q : A → Type 0) (R : A → A → Type 0) (xs : List A) : Type 0 where
  pub all : List A
  pub each : (x : A) → Contains all x ↔ (Contains xs x × Q x)
  pub in_order : AllPairs R all

-- a decided property has such a list
pub kept : {A : Type 0} (Q : A → Type 0) (R : A → A → Type 0) → ((x : A) → Q x ⊎ (¬ (Q x))) → (xs : List A)
    → AllPairs R xs → Kept Q R xs
kept Q R decide [] o = record {
  all = [];
  each = λ x. (
    λ h. absurd (let k : h.0 < 0 = h.1 in omega arith),
    λ h. h.0,
  );
  in_order = o;
}
kept {A} Q R decide (x ∷ xs) o =
    let more : Kept Q R xs = kept Q R decide xs (tail_order R x xs o) in
    elim (decide x) [
      | inl is ↦ record {
        all = x ∷ more.all;
        each = λ y. (
          λ h. elim (contains_cases x more.all y h) [
            | inl same ↦ (
              subst (λ z. Contains (x ∷ xs) z) same (contains_head x xs),
              subst Q same is,
            )
            | inr later ↦
                let in' : Contains xs y × Q y = (more.each y).0 later in
                (contains_tail x xs y in'.0, in'.1)
          ],
          λ h. elim (contains_cases x xs y h.0) [
            | inl same ↦ subst (λ z. Contains (x ∷ more.all) z) same (contains_head x more.all)
            | inr later ↦ contains_tail x more.all y ((more.each y).1 (later, h.1))
          ],
        );
        in_order =
            AllPairs-cons R x more.all (all_of (R x) more.all (λ y h. head_first R x xs y o ((more.each y).0 h).0))
            more.in_order;
      }
      | inr not ↦ record {
        all = more.all;
        each = λ y. (
          λ h.
              let in' : Contains xs y × Q y = (more.each y).0 h in
              (contains_tail x xs y in'.0, in'.1),
          λ h. elim (contains_cases x xs y h.0) [
            | inl same ↦ absurd (not (subst Q (sym same) h.1))
            | inr later ↦ (more.each y).1 (later, h.1)
          ],
        );
        in_order = more.in_order;
      }
    ]

-- of an exact list, the things with one more property
pub kept_exactly : {A : Type 0} (P Q : A → Type 0) (R : A → A → Type 0) → ((x : A) → Q x ⊎ (¬ (Q x))) → (xs : List A)
    → AreExactly P R xs → (ys : List A) × AreExactly (λ x. P x × Q x) R ys
kept_exactly P Q R decide xs are =
    let k : Kept Q R xs = kept Q R decide xs are.in_order in (
      k.all,
      record {
        each = λ x. (
          λ h. let in' : Contains xs x × Q x = (k.each x).0 h in ((are.each x).0 in'.0, in'.1),
          λ h. (k.each x).1 ((are.each x).1 h.0, h.1),
        );
        in_order = k.in_order;
      },
    )

-- where the thing at place p comes from, after the things at a and b have been exchanged
record Moved {X : Type 0} (f g : ℕ → X) (a b size p : ℕ) : Type 0 where
  pub from : ℕ
  pub within : from < size
  pub is : g p ≡ f from
  pub how : ((p ≡ a) × (from ≡ b)) ⊎ (((p ≡ b) × (from ≡ a)) ⊎ ((p ≢ a) × (p ≢ b) × (from ≡ p)))

moved : {X : Type 0} (f g : ℕ → X) (a b size p : ℕ) → Swapped f g a b → a < size → b < size → p < size → Moved f g a b size p
moved {X} f g a b size p s below below' within =
    let other : ((p ≡ a) ⊎ (p ≢ a)) = elim (cases_lt p a) [
      | inl lt ↦ inr (λ e. omega (arith, e, lt))
      | inr ge ↦ elim (cases_lt a p) [ inl lt ↦ inr (λ e. omega (arith, e, lt)) | inr le ↦ inl (omega arith) ]
    ] in
    let another : ((p ≡ b) ⊎ (p ≢ b)) = elim (cases_lt p b) [
      | inl lt ↦ inr (λ e. omega (arith, e, lt))
      | inr ge ↦ elim (cases_lt b p) [ inl lt ↦ inr (λ e. omega (arith, e, lt)) | inr le ↦ inl (omega arith) ]
    ] in
    elim other [
      | inl e ↦ record { from = b; within = below'; is = ap g e ∙ s.0; how = inl (e, refl) }
      | inr n ↦ elim another [
        | inl e ↦ record { from = a; within = below; is = ap g e ∙ s.1; how = inr (inl (e, refl)) }
        | inr m ↦ record { from = p; within = within; is = s.2 p n m; how = inr (inr (n, m, refl)) }
      ]
    ]

-- things at different places come from different places
from_apart : {X : Type 0} (f g : ℕ → X) (a b size i j : ℕ) (p : Moved f g a b size i) (q : Moved f g a b size j)
    → i ≢ j → p.from ≢ q.from
from_apart f g a b size i j p q other e = other (elim p.how [
  | inl (x, y) ↦ elim q.how [
    | inl (z, w) ↦ omega arith
    | inr more ↦ elim more [ inl (z, w) ↦ omega arith | inr (z, v, w) ↦ absurd (v (omega arith)) ]
  ]
  | inr rest ↦ elim rest [
    | inl (x, y) ↦ elim q.how [
      | inl (z, w) ↦ omega arith
      | inr more ↦ elim more [ inl (z, w) ↦ omega arith | inr (z, v, w) ↦ absurd (z (omega arith)) ]
    ]
    | inr (x, u, y) ↦ elim q.how [
      | inl (z, w) ↦ absurd (u (omega arith))
      | inr more ↦ elim more [ inl (z, w) ↦ absurd (x (omega arith)) | inr (z, v, w) ↦ omega arith ]
    ]
  ]
])

module _ {X : Type 0} (n : X → ℕ) where
  -- no two things of the list have the same number
  abbrev pub Apart : X → X → Type 0
  Apart x y = n x ≢ n y

  -- likewise, for any two places
  AreApart : List X → Type 0
  AreApart xs = (i j : ℕ) (d : X) → i < length xs → j < length xs → i ≢ j → n (get_or xs i d) ≢ n (get_or xs j d)

  -- of two places, one is before the other
  are_apart : (xs : List X) → AllPairs Apart xs → AreApart xs
  unfolding AreApart
  are_apart xs h i j d within within' other = elim (cases_lt i j) [
    | inl lt ↦ h i j d lt within'
    | inr ge ↦ λ e. h j i d (elim (cases_lt j i) [ inl lt ↦ lt | inr le ↦ absurd (other (omega arith)) ]) within (sym e)
  ]

  -- it stays so where two things are exchanged
  apart_swap : (xs : List X) (a b : ℕ) → a < length xs → b < length xs → AreApart xs → AreApart (swap xs a b)
  unfolding AreApart
  apart_swap xs a b below below' h i j d within within' other e =
      let size : length (swap xs a b) ≡ length xs = length-swap xs a b in
      let f : ℕ → X = λ k. get_or xs k d in
      let g : ℕ → X = λ k. get_or (swap xs a b) k d in
      let s : Swapped f g a b = swapped_from_swap xs (swap xs a b) a b d below below' refl in
      let p : Moved f g a b (length xs) i = moved f g a b (length xs) i s below below' (omega arith) in
      let q : Moved f g a b (length xs) j = moved f g a b (length xs) j s below below' (omega arith) in
      h p.from q.from d p.within q.within (from_apart f g a b (length xs) i j p q other) (sym (ap n p.is) ∙ e ∙ ap n q.is)

  -- and in any other order
  apart_moved : (xs ys : List X) → IsPermutation xs ys → AreApart xs → AreApart ys
  apart_moved xs ys same h = IsPermutation-keeps xs AreApart h apart_swap ys same

  -- then a sorted list rises
  rises : (xs : List X) → AreApart xs → IsNonDecreasingBy n xs → AllPairs (λ x y. n x < n y) xs
  unfolding AreApart
  rises xs h up i j d lt within = elim (cases_lt (n (get_or xs i d)) (n (get_or xs j d))) [
    | inl is ↦ is
    | inr ge ↦
        let le : n (get_or xs i d) ≤ n (get_or xs j d) = up i j d (omega arith) within in
        absurd (h i j d (omega arith) within (λ e. omega (arith, e, lt)) (omega arith))
  ]

  -- so there is only one sorted list of the same things
  pub sorted_once : (xs ys zs : List X) → AllPairs Apart xs → IsPermutation xs ys → IsPermutation xs zs
      → IsNonDecreasingBy n ys → IsNonDecreasingBy n zs → ys ≡ zs
  sorted_once xs ys zs apart p q up up' =
      let h : AreApart xs = are_apart xs apart in
      same_list (λ x y. n x < n y) (λ x y a b. omega (arith, a, b)) ys zs
      (rises ys (apart_moved xs ys p h) up) (rises zs (apart_moved xs zs q h) up')
      (λ x k. Contains-permutation xs zs x q (Contains-permutation ys xs x (IsPermutation-sym xs ys p) k))
      (λ x k. Contains-permutation xs ys x p (Contains-permutation zs xs x (IsPermutation-sym xs zs q) k))

  -- where a thing goes in a sorted list
  record Place (xs : List X) (y : X) : Type 0 where
    pub at : ℕ
    pub within : at ≤ length xs
    pub before : (k : ℕ) (d : X) → k < at → n (get_or xs k d) ≤ n y
    pub after : (k : ℕ) (d : X) → at ≤ k → k < length xs → n y ≤ n (get_or xs k d)

  place : (xs : List X) (y : X) → IsNonDecreasingBy n xs → Place xs y
  place [] y up = record {
    at = 0;
    within = omega arith;
    before = λ k d lt. absurd (omega arith);
    after = λ k d le lt. absurd (omega arith);
  }
  place (x ∷ xs) y up = elim (cases_lt (n x) (n y)) [
    | inl less ↦
        let tail : IsNonDecreasingBy n xs = λ i j d le within. up (suc i) (suc j) d (omega arith) (omega arith) in
        let p : Place xs y = place xs y tail in
        let in' : p.at ≤ length xs = p.within in
        record {
          at = suc p.at;
          within = omega arith;
          before = first x xs y p less;
          after = later x xs y p;
        }
    | inr ge ↦ record {
      at = 0;
      within = omega arith;
      before = λ k d lt. absurd (omega arith);
      after = λ k d le within. (let up' : n x ≤ n (get_or (x ∷ xs) k d) = up 0 k d (omega arith) within in omega arith);
    }
  ]
    where
      first : (x : X) (xs : List X) (y : X) (p : Place xs y) → n x < n y
          → (k : ℕ) (d : X) → k < suc p.at → n (get_or (x ∷ xs) k d) ≤ n y
      first x xs y p less zero d lt = omega arith
      first x xs y p less (suc k) d lt = p.before k d (omega arith)

      later : (x : X) (xs : List X) (y : X) (p : Place xs y)
          → (k : ℕ) (d : X) → suc p.at ≤ k → k < length (x ∷ xs) → n y ≤ n (get_or (x ∷ xs) k d)
      later x xs y p zero d le within = absurd (omega arith)
      later x xs y p (suc k) d le within = p.after k d (omega arith) (omega arith)

  -- a sorted list of the same things
  pub record SortedOf (xs : List X) : Type 0 where
    pub all : List X
    pub same : IsPermutation xs all
    pub up : IsNonDecreasingBy n all

  -- there is one
  pub sorted_of : (xs : List X) → SortedOf xs
  sorted_of [] = record {
    all = [];
    same = IsPermutation-refl [];
    up = λ i j d le within. absurd (omega arith);
  }
  sorted_of (x ∷ xs) =
      let s : SortedOf xs = sorted_of xs in
      let p : Place s.all x = place s.all x s.up in
      record {
        all = insert s.all p.at x;
        same =
            IsPermutation-trans (x ∷ xs) (x ∷ s.all) (insert s.all p.at x) (IsPermutation-cons x xs s.all s.same)
            (IsPermutation-insert s.all p.at x);
        up = IsNonDecreasingBy-insert n s.all p.at x s.up p.within p.before p.after;
      }

  -- it is sorted by its numbers
  pub is_sorted : (xs : List X) → IsNonDecreasingBy n xs → IsSorted (λ x y. nat_cmp (n x) (n y)) xs
  is_sorted xs up k d low within =
      let le : n (get_or xs k d) ≤ n (get_or xs (k + 1) d) = up k (k + 1) d (omega arith) within in
      grind (arith, nat_tests)

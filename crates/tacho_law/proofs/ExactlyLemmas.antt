-- Ordered lists of exactly the things with a property (specs/Exactly): such a list and its length are unique; and how a loop extends one.
use Rattle.std.proofs.Common.{◌≡◌, ℕ, zero, suc, ◌+◌, ◌<◌, ◌≤◌, ◌⊎◌, ◌↔◌, inl, inr, List, []}
use Rattle.std.proofs.Common.{◌∷◌, ◌++◌, length, get_or, refl, sym, ap, subst, ◌∙◌, arith}
use Rattle.std.specs.List.{All, AllPairs, Contains}
use Rattle.std.proofs.lemmas.Bool.{cases_lt}
use Rattle.std.proofs.lemmas.List.Elements.{Contains-push, Contains-append_left, Contains-push_cases, Contains-get_or}
use Rattle.std.proofs.lemmas.List.Quantifiers.{all_pairs_push}
use Rattle.tacho_law.specs.Exactly.{AreExactly, HasCount}

-- a list contains its head
pub contains_head : {A : Type 0} (x : A) (xs : List A) → Contains (x ∷ xs) x
contains_head x xs = (0, omega arith, refl)

-- a list contains what its tail contains
pub contains_tail : {A : Type 0} (x : A) (xs : List A) (y : A) → Contains xs y → Contains (x ∷ xs) y
contains_tail x xs y (k, within, is) = (suc k, omega arith, is)

-- a member of a list is its head or in its tail
pub contains_cases : {A : Type 0} (x : A) (xs : List A) (y : A) → Contains (x ∷ xs) y → (x ≡ y) ⊎ Contains xs y
contains_cases x xs y (zero, within, is) = inl is
contains_cases x xs y (suc k, within, is) = inr (k, omega arith, is)

module _ {A : Type 0} (R : A → A → Type 0) where
  -- the tail is in order
  pub tail_order : (x : A) (xs : List A) → AllPairs R (x ∷ xs) → AllPairs R xs
  tail_order x xs h i j d below within = h (suc i) (suc j) d (omega arith) (omega arith)

  -- the head is before each member of the tail
  pub head_first : (x : A) (xs : List A) (y : A) → AllPairs R (x ∷ xs) → Contains xs y → R x y
  head_first x xs y h (k, within, is) = subst (λ (z : A). R x z) is (h 0 (suc k) y (omega arith) (omega arith))

  -- an ordered list is determined by its members, if no two of them are before each other
  pub same_list : ((x y : A) → R x y → R y x → ⊥) → (xs ys : List A) → AllPairs R xs → AllPairs R ys
      → ((x : A) → Contains xs x → Contains ys x) → ((x : A) → Contains ys x → Contains xs x) → xs ≡ ys
  same_list never [] [] o p f g = refl
  same_list never [] (y ∷ ys) o p f g =
      absurd (let h : Contains [] y = g y (contains_head y ys) in let k : h.0 < 0 = h.1 in omega arith)
  same_list never (x ∷ xs) [] o p f g =
      absurd (let h : Contains [] x = f x (contains_head x xs) in let k : h.0 < 0 = h.1 in omega arith)
  same_list never (x ∷ xs) (y ∷ ys) o p f g =
      let e : x ≡ y = elim (contains_cases y ys x (f x (contains_head x xs))) [
        | inl same ↦ sym same
        | inr later ↦ elim (contains_cases x xs y (g y (contains_head y ys))) [
          | inl same ↦ same
          | inr after ↦ absurd (never y x (head_first y ys x p later) (head_first x xs y o after))
        ]
      ] in
      let f' : (z : A) → Contains xs z → Contains ys z = λ z h.
      elim (contains_cases y ys z (f z (contains_tail x xs z h))) [
        | inl same ↦ absurd (
            let r : R x z = head_first x xs z o h in
            let s : R x x = subst (λ (w : A). R x w) (sym same ∙ sym e) r in
            never x x s s)
        | inr in' ↦ in'
      ] in
      let g' : (z : A) → Contains ys z → Contains xs z = λ z h.
      elim (contains_cases x xs z (g z (contains_tail y ys z h))) [
        | inl same ↦ absurd (
            let r : R y z = head_first y ys z p h in
            let s : R y y = subst (λ (w : A). R y w) (sym same ∙ e) r in
            never y y s s)
        | inr in' ↦ in'
      ] in
      let t : xs ≡ ys = same_list never xs ys (tail_order x xs o) (tail_order y ys p) f' g' in
      ap (λ (z : A). z ∷ xs) e ∙ ap (λ (zs : List A). y ∷ zs) t

-- each member of the list has the property
pub at_index : {A : Type 0} (P : A → Type 0) (R : A → A → Type 0) (xs : List A) → AreExactly P R xs → All P xs
at_index P R xs are k d within = (are.each (get_or xs k d)).0 (Contains-get_or xs k d within)

module _ {A : Type 0} (P : A → Type 0) (R : A → A → Type 0) (never : (x y : A) → P x → P y → R x y → R y x → ⊥) where
  -- two things with the property, one before the other
  InOrder : A → A → Type 0
  InOrder x y = P x × P y × R x y

  -- the list is in this order
  all_in_order : (xs : List A) → AreExactly P R xs → AllPairs InOrder xs
  unfolding InOrder
  all_in_order xs are i j d below within =
      (at_index P R xs are i d (omega arith), at_index P R xs are j d within, are.in_order i j d below within)

  -- no two things are before each other
  one_way : (x y : A) → InOrder x y → InOrder y x → ⊥
  unfolding InOrder
  one_way x y (p, q, r) (q', p', s) = never x y p q r s

  -- there is only one list of the things with the property
  pub one_exactly : (xs ys : List A) → AreExactly P R xs → AreExactly P R ys → xs ≡ ys
  one_exactly xs ys a b =
      same_list InOrder one_way xs ys (all_in_order xs a) (all_in_order ys b)
      (λ x h. (b.each x).1 ((a.each x).0 h)) (λ x h. (a.each x).1 ((b.each x).0 h))

  -- and only one number of them
  pub how_many_only : (n m : ℕ) → HasCount P R n → HasCount P R m → n ≡ m
  how_many_only n m a b =
      sym a.count ∙ (ap (λ (xs : List A). length xs) (one_exactly a.all b.all a.exactly b.exactly) ∙ b.count)

-- the property can be replaced by an equivalent one
pub exactly_as : {A : Type 0} (P Q : A → Type 0) (R : A → A → Type 0) (xs : List A)
    → ((x : A) → P x ↔ Q x) → AreExactly P R xs → AreExactly Q R xs
exactly_as P Q R xs same a =
    record { each = λ x. (λ h. (same x).0 ((a.each x).0 h), λ h. (a.each x).1 ((same x).1 h)); in_order = a.in_order }

-- likewise for the number
pub how_many_as : {A : Type 0} (P Q : A → Type 0) (R : A → A → Type 0) (n : ℕ)
    → ((x : A) → P x ↔ Q x) → HasCount P R n → HasCount Q R n
how_many_as P Q R n same a = record { all = a.all; exactly = exactly_as P Q R a.all same a.exactly; count = a.count }

-- if nothing has the property, the list is empty
pub exactly_none : {A : Type 0} (P : A → Type 0) (R : A → A → Type 0) → ((x : A) → P x → ⊥) → AreExactly P R []
exactly_none P R none = record {
  each = λ x. (λ h. absurd (let (k, within, is) = h in omega arith), λ h. absurd (none x h));
  in_order = λ i j d below within. absurd (omega arith);
}

-- a new property that nothing has changes nothing
pub exactly_skip : {A : Type 0} (P Q : A → Type 0) (R : A → A → Type 0) (xs : List A)
    → AreExactly P R xs → ((x : A) → Q x → ⊥) → AreExactly (λ x. P x ⊎ Q x) R xs
exactly_skip P Q R xs a none = record {
  each = λ x. (λ h. inl ((a.each x).0 h), λ h. elim h [ inl old ↦ (a.each x).1 old | inr new ↦ absurd (none x new) ]);
  in_order = a.in_order;
}

-- a new property that exactly one thing has, after all others, appends that thing
pub exactly_add : {A : Type 0} (P Q : A → Type 0) (R : A → A → Type 0) (xs : List A) (new : A) → AreExactly P R xs
    → Q new → ((x : A) → Q x → new ≡ x) → ((x : A) → P x → R x new) → AreExactly (λ x. P x ⊎ Q x) R (xs ++ new ∷ [])
exactly_add {A} P Q R xs new a is one later = record {
  each = λ x. (
    λ h. elim (Contains-push_cases xs new x h) [
      | inl old ↦ inl ((a.each x).0 old)
      | inr same ↦ inr (subst Q same is)
    ],
    λ h. elim h [
      | inl old ↦ Contains-append_left xs (new ∷ []) x ((a.each x).1 old)
      | inr q ↦ subst (λ (y : A). Contains (xs ++ new ∷ []) y) (one x q) (Contains-push xs new)
    ],
  );
  in_order = all_pairs_push R xs new a.in_order (λ k d below. later (get_or xs k d) (at_index P R xs a k d below));
}

-- a thing found for one of the items seen
pub record OfSeen {A B : Type 0} (Of : A → B → Type 0) (seen : List A) (b : B) : Type 0 where
  pub item : A
  pub among : Contains seen item
  pub of : Of item b

-- a thing found for one of the numbers from `first` to below n
pub record OfBelow {B : Type 0} (Of : ℕ → B → Type 0) (first n : ℕ) (b : B) : Type 0 where
  pub place : ℕ
  pub from : first ≤ place
  pub below : place < n
  pub of : Of place b

-- what is found for the items of a list
module _ {A B : Type 0} (Of : A → B → Type 0) (R : B → B → Type 0) where
  -- the things found with one more item
  seen_more : (seen : List A) (x : A) (b : B) → (OfSeen Of seen b ⊎ Of x b) ↔ OfSeen Of (seen ++ x ∷ []) b
  seen_more seen x b = (
    λ h. elim h [
      | inl old ↦ record { item = old.item; among = Contains-append_left seen (x ∷ []) old.item old.among; of = old.of }
      | inr new ↦ record { item = x; among = Contains-push seen x; of = new }
    ],
    λ h. elim (Contains-push_cases seen x h.item h.among) [
      | inl old ↦ inl (record { item = h.item; among = old; of = h.of })
      | inr same ↦ inr (subst (λ (y : A). Of y b) (sym same) h.of)
    ],
  )

  -- nothing is found before the first item
  pub seen_none : AreExactly (OfSeen Of []) R []
  seen_none = exactly_none (OfSeen Of []) R (λ b h. let (k, within, is) = h.among in omega arith)

  -- an item for which nothing is found
  pub seen_skip : (seen : List A) (found : List B) (x : A) → AreExactly (OfSeen Of seen) R found
      → ((b : B) → Of x b → ⊥) → AreExactly (OfSeen Of (seen ++ x ∷ [])) R found
  seen_skip seen found x r none =
      exactly_as (λ b. OfSeen Of seen b ⊎ Of x b) (OfSeen Of (seen ++ x ∷ [])) R found
      (seen_more seen x) (exactly_skip (OfSeen Of seen) (Of x) R found r none)

  -- an item for which one thing is found
  pub seen_add : (seen : List A) (found : List B) (x : A) (new : B) → AreExactly (OfSeen Of seen) R found
      → Of x new → ((b : B) → Of x b → new ≡ b) → ((y : A) (b : B) → Contains seen y → Of y b → R b new)
      → AreExactly (OfSeen Of (seen ++ x ∷ [])) R (found ++ new ∷ [])
  seen_add seen found x new r is one later =
      exactly_as (λ b. OfSeen Of seen b ⊎ Of x b) (OfSeen Of (seen ++ x ∷ [])) R (found ++ new ∷ []) (seen_more seen x)
      (exactly_add (OfSeen Of seen) (Of x) R found new r is one (λ b h. later h.item b h.among h.of))

-- what is found for numbers, in order
module _ {B : Type 0} (Of : ℕ → B → Type 0) (R : B → B → Type 0) (first : ℕ) where
  -- the things found with one more number
  pub below_more : (n : ℕ) → first ≤ n → (b : B) → (OfBelow Of first n b ⊎ Of n b) ↔ OfBelow Of first (n + 1) b
  below_more n some b = (
    λ h. elim h [
      | inl old ↦ record {
        place = old.place;
        from = old.from;
        below = let l : old.place < n = old.below in omega arith;
        of = old.of;
      }
      | inr new ↦ record { place = n; from = some; below = omega arith; of = new }
    ],
    λ h. elim (cases_lt h.place n) [
      | inl lt ↦ inl (record { place = h.place; from = h.from; below = lt; of = h.of })
      | inr ge ↦ inr (
          let l : h.place < n + 1 = h.below in
          let e : h.place ≡ n = omega arith in
          subst (λ (k : ℕ). Of k b) e h.of)
    ],
  )

  -- nothing is found before the first number
  pub below_none : AreExactly (OfBelow Of first first) R []
  below_none = exactly_none (OfBelow Of first first) R (λ b h.
      let a : first ≤ h.place = h.from in let l : h.place < first = h.below in omega arith)

  -- a number for which nothing is found
  pub below_skip : (n : ℕ) (found : List B) → first ≤ n → AreExactly (OfBelow Of first n) R found
      → ((b : B) → Of n b → ⊥) → AreExactly (OfBelow Of first (n + 1)) R found
  below_skip n found some r none =
      exactly_as (λ b. OfBelow Of first n b ⊎ Of n b) (OfBelow Of first (n + 1)) R found
      (below_more n some) (exactly_skip (OfBelow Of first n) (Of n) R found r none)

  -- a number for which one thing is found
  pub below_add : (n : ℕ) (found : List B) (new : B) → first ≤ n → AreExactly (OfBelow Of first n) R found
      → Of n new → ((b : B) → Of n b → new ≡ b) → ((k : ℕ) (b : B) → first ≤ k → k < n → Of k b → R b new)
      → AreExactly (OfBelow Of first (n + 1)) R (found ++ new ∷ [])
  below_add n found new some r is one later =
      exactly_as (λ b. OfBelow Of first n b ⊎ Of n b)
      (OfBelow Of first (n + 1)) R (found ++ new ∷ []) (below_more n some)
      (exactly_add (OfBelow Of first n) (Of n) R found new r is one (λ b h. later h.place b h.from h.below h.of))

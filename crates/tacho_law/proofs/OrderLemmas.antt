-- Breaches that are apart have only one order (`put_in_order`), and a list in this order is determined by its members
-- (`laws::one_list_of_breaches`).
use Rattle.std.proofs.Common.{◌≡◌, ℕ, zero, suc, ◌+◌, ◌-◌, ◌<◌, ◌⊎◌, ◌↔◌, inl, inr, List, length, get_or, refl}
use Rattle.std.proofs.Common.{sym, ap, subst, ◌∙◌, arith, Bool, false, nat_eq, ◌&&◌, if◌then◌else◌, nat_cmp, is_lt}
use Rattle.std.specs.Ordering.{ordering_then}
use Rattle.std.specs.List.{AllPairs, Contains}
use Rattle.std.specs.List.Sorted.{IsPermutation}
use Rattle.std.proofs.lemmas.Bool.{cases_lt}
use Rattle.std.proofs.lemmas.Bool.Decides.{nat_tests}
use Rattle.std.proofs.lemmas.List.Sorted.{IsPermutation-sym, Contains-permutation}
use Rattle.std.proofs.lemmas.Map.Keys.{IsDistinct-from_apart, IsDistinct-IsPermutation, apart_from_distinct}
use Rattle.tacho_law.specs.declared.breach.Breach.{Breach}
use Rattle.tacho_law.specs.declared.breach.Kind.{Kind}
use Rattle.tacho_law.specs.declared.breach.Kind.TheVariants.{B1, B2, B3, B4, B5, B6, B7, B8, B9, B10}
use Rattle.tacho_law.specs.Order.{Earlier, Agree, HaveOwnPlaces, AreBreaches, place_of_kind}
use Rattle.tacho_law.proofs.ExactlyLemmas.{one_exactly, same_list}

-- the kind at a place
kind_at : ℕ → Kind
kind_at n =
    if nat_eq n 1 then B1 else
    (if nat_eq n 2 then B2 else
    (if nat_eq n 3 then B3 else
    (if nat_eq n 4 then B4 else
    (if nat_eq n 5 then B5 else
    (if nat_eq n 6 then B6 else
    (if nat_eq n 7 then B7 else
    (if nat_eq n 8 then B8 else (if nat_eq n 9 then B9 else B10))))))))

-- the kind at a kind's place is that kind
kind_at_place : (k : Kind) → kind_at (place_of_kind k) ≡ k
unfolding kind_at
kind_at_place B1 = refl
kind_at_place B2 = refl
kind_at_place B3 = refl
kind_at_place B4 = refl
kind_at_place B5 = refl
kind_at_place B6 = refl
kind_at_place B7 = refl
kind_at_place B8 = refl
kind_at_place B9 = refl
kind_at_place B10 = refl

-- kinds at the same place are equal
same_kind : (a b : Kind) → place_of_kind a ≡ place_of_kind b → a ≡ b
same_kind a b e = sym (kind_at_place a) ∙ (ap kind_at e ∙ kind_at_place b)

-- true if two breaches have the same place in the order
agree : Breach → Breach → Bool
agree a b = nat_eq a.moment b.moment && nat_eq (place_of_kind a.kind) (place_of_kind b.kind) && nat_eq a.since b.since

-- true if the three numbers of each are the same
agrees : ℕ → ℕ → ℕ → ℕ → ℕ → ℕ → Bool
agrees m p s m' p' s' = nat_eq m m' && nat_eq p p' && nat_eq s s'

-- the test is symmetric
agrees_flips : (m p s m' p' s' : ℕ) → agrees m p s m' p' s' ≡ agrees m' p' s' m p s
unfolding agrees
agrees_flips m p s m' p' s' = grind (arith, nat_tests)

-- likewise for breaches
agree_flips : (a b : Breach) → agree a b ≡ agree b a
unfolding agree agrees
agree_flips a b = agrees_flips a.moment (place_of_kind a.kind) a.since b.moment (place_of_kind b.kind) b.since

-- if some of the numbers differ, the test fails
agrees_not : (m p s m' p' s' : ℕ) → (m ≡ m' → p ≡ p' → s ≡ s' → ⊥) → agrees m p s m' p' s' ≡ false
unfolding agrees
agrees_not m p s m' p' s' n = grind (arith, nat_tests)

-- conversely, if the test fails, some of the numbers differ
agrees_no : (m p s m' p' s' : ℕ) → agrees m p s m' p' s' ≡ false → m ≡ m' → p ≡ p' → s ≡ s' → ⊥
unfolding agrees
agrees_no m p s m' p' s' n a b c = grind (arith, nat_tests)

-- breaches that don't agree fail the test
agree_not : (a b : Breach) → ¬ (Agree a b) → agree a b ≡ false
unfolding agree agrees
agree_not a b n = agrees_not a.moment (place_of_kind a.kind) a.since b.moment (place_of_kind b.kind) b.since
    (λ e f g. n (record { moment = e; kind = same_kind a.kind b.kind f; since = g }))

-- conversely, breaches that fail the test don't agree
agree_no : (a b : Breach) → agree a b ≡ false → ¬ (Agree a b)
unfolding agree agrees
agree_no a b e h =
    agrees_no a.moment (place_of_kind a.kind) a.since b.moment
    (place_of_kind b.kind) b.since e h.moment (ap place_of_kind h.kind) h.since

-- breaches that are apart are also apart in any other order
pub still_apart : (xs ys : List Breach) → IsPermutation xs ys → HaveOwnPlaces xs → HaveOwnPlaces ys
still_apart xs ys p apart i j d below within =
    agree_no (get_or ys i d) (get_or ys j d)
    (apart_from_distinct agree ys i j d
    (IsDistinct-IsPermutation agree agree_flips xs ys p
    (IsDistinct-from_apart agree xs
    (λ a b d' lt in'. agree_not (get_or xs a d') (get_or xs b d') (apart a b d' lt in'))))
    below within)

-- if numbers don't decrease and don't agree, they increase
rises : (m p s m' p' s' : ℕ) → (m ≡ m' → p ≡ p' → s ≡ s' → ⊥)
    → is_lt (ordering_then (ordering_then (nat_cmp m' m) (nat_cmp p' p)) (nat_cmp s' s)) ≡ false
    → (m < m') ⊎ ((m ≡ m') × ((p < p') ⊎ ((p ≡ p') × (s < s'))))
rises m p s m' p' s' n e = elim (cases_lt m m') [
  | inl lt ↦ inl lt
  | inr ge ↦ elim (cases_lt m' m) [
    | inl gt ↦ absurd (grind (arith, nat_tests))
    | inr le ↦ let one : m ≡ m' = omega arith in inr (
      one,
      elim (cases_lt p p') [
        | inl lt ↦ inl lt
        | inr ge ↦ elim (cases_lt p' p) [
          | inl gt ↦ absurd (grind (arith, nat_tests))
          | inr le ↦ let two : p ≡ p' = omega arith in inr (
            two,
            elim (cases_lt s s') [
              | inl lt ↦ lt
              | inr ge ↦ elim (cases_lt s' s) [
                | inl gt ↦ absurd (grind (arith, nat_tests))
                | inr le ↦ absurd (n one two (omega arith))
              ]
            ],
          )
        ]
      ],
    )
  ]
]

-- neighbours of a sorted list that don't agree are in the order of a report
pub earlier_next : (a b : Breach) → ¬ (Agree a b)
    → is_lt
    (ordering_then
    (ordering_then (nat_cmp b.moment a.moment) (nat_cmp (place_of_kind b.kind) (place_of_kind a.kind)))
    (nat_cmp b.since a.since))
    ≡ false
    → Earlier a b
earlier_next a b n e = rises a.moment (place_of_kind a.kind) a.since b.moment (place_of_kind b.kind) b.since
    (λ f g h. n (record { moment = f; kind = same_kind a.kind b.kind g; since = h })) e

-- the order is transitive
pub earlier_trans : (a b c : Breach) → Earlier a b → Earlier b c → Earlier a c
earlier_trans a b c e f = grind (arith, e, f)

-- if neighbours are in order, so are breaches that are further apart
chain : (xs : List Breach) → ((k : ℕ) (d : Breach) → k + 1 < length xs → Earlier (get_or xs k d) (get_or xs (k + 1) d))
    → (i n : ℕ) (d : Breach) → i + n + 1 < length xs → Earlier (get_or xs i d) (get_or xs (i + n + 1) d)
chain xs next i zero d within = let e : i + 0 + 1 ≡ i + 1 = omega arith in rw e (next i d (omega arith))
chain xs next i (suc n) d within =
    let e : i + suc n + 1 ≡ (i + n + 1) + 1 = omega arith in
    rw e
    (earlier_trans (get_or xs i d) (get_or xs (i + n + 1) d) (get_or xs ((i + n + 1) + 1) d)
    (chain xs next i n d (omega arith)) (next (i + n + 1) d (omega arith)))

-- if neighbours are in order, the whole list is
pub earlier_all : (xs : List Breach)
    → ((k : ℕ) (d : Breach) → k + 1 < length xs → Earlier (get_or xs k d) (get_or xs (k + 1) d)) → AllPairs Earlier xs
earlier_all xs next i j d below within =
    let e : i + (j - (i + 1)) + 1 ≡ j = omega arith in
    subst (λ (k : ℕ). Earlier (get_or xs i d) (get_or xs k d)) e (chain xs next i (j - (i + 1)) d (omega arith))

-- lists that are permutations of each other have the same members
pub same_members : (xs ys : List Breach) → IsPermutation xs ys
    → (breach : Breach) → Contains ys breach ↔ Contains xs breach
same_members xs ys p breach =
    (λ h. Contains-permutation ys xs breach (IsPermutation-sym xs ys p) h, λ h. Contains-permutation xs ys breach p h)

-- no two breaches are before each other
never_earlier : (a b : Breach) → Earlier a b → Earlier b a → ⊥
never_earlier a b e f = grind (arith, e, f)

-- an ordered list of breaches is determined by its members
pub one_list_in_order : (found others : List Breach) → AllPairs Earlier found → AllPairs Earlier others
    → ((breach : Breach) → Contains found breach ↔ Contains others breach) → found ≡ others
one_list_in_order found others order order' same =
    same_list Earlier never_earlier found others order order' (λ breach. (same breach).0) (λ breach. (same breach).1)

-- there is only one list of exactly the breaches with a property
pub one_breaches : (P : Breach → Type 0) (found others : List Breach)
    → AreBreaches P found → AreBreaches P others → found ≡ others
one_breaches P = one_exactly P Earlier (λ a b p q. never_earlier a b)

-- breaches with equal fields are equal
pub same_breach : (a b : Breach) → a.kind ≡ b.kind → a.moment ≡ b.moment
    → a.since ≡ b.since → a.amount ≡ b.amount → a ≡ b
same_breach a b k e f g =
    let none : Kind → Breach = λ x. record { kind = x; moment = a.moment; since = a.since; amount = a.amount } in
    let one : ℕ → Breach = λ x. record { kind = b.kind; moment = x; since = a.since; amount = a.amount } in
    let two : ℕ → Breach = λ x. record { kind = b.kind; moment = b.moment; since = x; amount = a.amount } in
    let three : ℕ → Breach = λ x. record { kind = b.kind; moment = b.moment; since = b.since; amount = x } in
    ap none k ∙ (ap one e ∙ (ap two f ∙ ap three g))

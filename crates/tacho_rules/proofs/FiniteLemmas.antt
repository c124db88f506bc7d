-- Decided properties, and finite sets: a finite set has an ordered list.
use Rattle.std.proofs.Common.{◌≡◌, ℕ, zero, suc, ◌<◌, ◌≤◌, ◌⊎◌, ◌↔◌, inl, inr, List, [], ◌∷◌, ◌++◌, get_or, refl, sym, subst, ◌∙◌, arith}
use Rattle.std.specs.List.{AllPairs, Contains}
use Rattle.std.proofs.lemmas.Bool.{cases_lt}
use Rattle.std.proofs.lemmas.List.Elements.{Contains-get_or}
use Rattle.std.proofs.lemmas.List.Kept.{AllPairs-cons}
use Rattle.tacho_law.specs.Exactly.{AreExactly}
use Rattle.tacho_law.proofs.ExactlyLemmas.{contains_head, contains_tail, contains_cases, head_first, tail_order}

-- ---- decided properties

abbrev pub Decided : Type 0 → Type 0
Decided P = P ⊎ (¬ P)

pub decide_both : {A B : Type 0} → Decided A → Decided B → Decided (A × B)
decide_both (inl a) (inl b) = inl (a, b)
decide_both (inl a) (inr none) = inr (λ p. none p.1)
decide_both (inr none) d = inr (λ p. none p.0)

pub decide_either : {A B : Type 0} → Decided A → Decided B → Decided (A ⊎ B)
decide_either (inl a) d = inl (inl a)
decide_either (inr none) (inl b) = inl (inr b)
decide_either (inr none) (inr never) = inr (λ p. elim p [ inl a ↦ none a | inr b ↦ never b ])

pub decide_not : {A : Type 0} → Decided A → Decided (¬ A)
decide_not (inl a) = inr (λ none. none a)
decide_not (inr none) = inl none

pub decide_if : {A B : Type 0} → Decided A → Decided B → Decided (A → B)
decide_if d (inl b) = inl (λ a. b)
decide_if (inr none) (inr never) = inl (λ a. absurd (none a))
decide_if (inl a) (inr never) = inr (λ f. never (f a))

-- an equivalent property is decided too
pub decide_as : {A B : Type 0} → (A → B) → (B → A) → Decided A → Decided B
decide_as f g (inl a) = inl (f a)
decide_as f g (inr none) = inr (λ b. none (g b))

pub decide_lt : (m n : ℕ) → Decided (m < n)
decide_lt m n = elim (cases_lt m n) [ inl l ↦ inl l | inr l ↦ inr (λ h. omega (arith, l, h)) ]

pub decide_le : (m n : ℕ) → Decided (m ≤ n)
decide_le m n = elim (cases_lt n m) [ inl l ↦ inr (λ h. omega (arith, l, h)) | inr l ↦ inl l ]

pub decide_eq : (m n : ℕ) → Decided (m ≡ n)
decide_eq m n = elim (cases_lt m n) [
  | inl l ↦ inr (λ h. omega (arith, l, h))
  | inr l ↦ elim (cases_lt n m) [ inl k ↦ inr (λ h. omega (arith, k, h)) | inr k ↦ inl (omega (arith, k, l)) ]
]

-- ---- finite sets

-- there is a list of exactly the elements that satisfy `P`
pub record IsFinite {A : Type 0} (P : A → Type 0) : Type 0 where
  pub all : List A
  pub each : (x : A) → Contains all x ↔ P x

pub no_member : {A : Type 0} (x : A) → Contains [] x → ⊥
no_member x (k, within, is) = omega arith

pub finite_none : {A : Type 0} (P : A → Type 0) → ((x : A) → ¬ (P x)) → IsFinite P
finite_none P none = record { all = []; each = λ x. (λ h. absurd (no_member x h), λ p. absurd (none x p)) }

pub finite_one : {A : Type 0} (P : A → Type 0) (a : A) → P a → ((x : A) → P x → a ≡ x) → IsFinite P
finite_one {A} P a is one = record {
  all = a ∷ [];
  each = λ x. (
    λ h. elim (contains_cases a [] x h) [ inl same ↦ subst P same is | inr in' ↦ absurd (no_member x in') ],
    λ p. subst (λ (y : A). Contains (a ∷ []) y) (one x p) (contains_head a []),
  );
}

pub finite_as : {A : Type 0} (P Q : A → Type 0) → ((x : A) → P x ↔ Q x) → IsFinite P → IsFinite Q
finite_as P Q same f =
    record { all = f.all; each = λ x. (λ h. (same x).0 ((f.each x).0 h), λ q. (f.each x).1 ((same x).1 q)) }

-- a member of two lists joined is a member of one of them
pub append_cases : {A : Type 0} (xs ys : List A) (x : A) → Contains (xs ++ ys) x → Contains xs x ⊎ Contains ys x
append_cases [] ys x h = inr h
append_cases (y ∷ xs) ys x h = elim (contains_cases y (xs ++ ys) x h) [
  | inl same ↦ inl (subst (λ z. Contains (y ∷ xs) z) same (contains_head y xs))
  | inr later ↦ elim (append_cases xs ys x later) [
    | inl in' ↦ inl (contains_tail y xs x in')
    | inr in' ↦ inr in'
  ]
]

pub append_left : {A : Type 0} (xs ys : List A) (x : A) → Contains xs x → Contains (xs ++ ys) x
append_left [] ys x h = absurd (no_member x h)
append_left (y ∷ xs) ys x h = elim (contains_cases y xs x h) [
  | inl same ↦ subst (λ z. Contains (y ∷ (xs ++ ys)) z) same (contains_head y (xs ++ ys))
  | inr later ↦ contains_tail y (xs ++ ys) x (append_left xs ys x later)
]

pub append_right : {A : Type 0} (xs ys : List A) (x : A) → Contains ys x → Contains (xs ++ ys) x
append_right [] ys x h = h
append_right (y ∷ xs) ys x h = contains_tail y (xs ++ ys) x (append_right xs ys x h)

pub finite_or : {A : Type 0} (P Q : A → Type 0) → IsFinite P → IsFinite Q → IsFinite (λ x. P x ⊎ Q x)
finite_or P Q f g = record {
  all = f.all ++ g.all;
  each = λ x. (
    λ h. elim (append_cases f.all g.all x h) [
      | inl in' ↦ inl ((f.each x).0 in')
      | inr in' ↦ inr ((g.each x).0 in')
    ],
    λ p. elim p [
      | inl q ↦ append_left f.all g.all x ((f.each x).1 q)
      | inr q ↦ append_right f.all g.all x ((g.each x).1 q)
    ],
  );
}

-- the union of finite sets, one for each member of a list
bind_list : {A B : Type 0} (Q : A → B → Type 0) (xs : List A) → ((x : A) → Contains xs x → IsFinite (Q x))
    → IsFinite (λ (y : B). (x : A) × Contains xs x × Q x y)
bind_list Q [] of = finite_none (λ y. (x : _) × Contains [] x × Q x y) (λ y h. no_member h.0 h.1)
bind_list {A} {B} Q (a ∷ xs) of =
    finite_as (λ y. Q a y ⊎ ((x : A) × Contains xs x × Q x y)) (λ y. (x : A) × Contains (a ∷ xs) x × Q x y)
    (λ y. (
      λ h. elim h [
        | inl q ↦ (a, contains_head a xs, q)
        | inr q ↦ (q.0, contains_tail a xs q.0 q.1, q.2)
      ],
      λ h. elim (contains_cases a xs h.0 h.1) [
        | inl same ↦ inl (subst (λ (z : A). Q z y) (sym same) h.2)
        | inr later ↦ inr (h.0, later, h.2)
      ],
    ))
    (finite_or (Q a) (λ y. (x : A) × Contains xs x × Q x y) (of a (contains_head a xs))
    (bind_list Q xs (λ x h. of x (contains_tail a xs x h))))

-- the union of finite sets, one for each element of a finite set
pub finite_of : {A B : Type 0} (P : A → Type 0) (Q : A → B → Type 0) → IsFinite P → ((x : A) → P x → IsFinite (Q x))
    → IsFinite (λ (y : B). (x : A) × P x × Q x y)
finite_of {A} {B} P Q f of =
    finite_as (λ y. (x : A) × Contains f.all x × Q x y) (λ y. (x : A) × P x × Q x y)
    (λ y. (λ h. (h.0, (f.each h.0).0 h.1, h.2), λ h. (h.0, (f.each h.0).1 h.1, h.2)))
    (bind_list Q f.all (λ x h. of x ((f.each x).0 h)))

-- a finite set, or the empty set where `C` doesn't hold
pub finite_when : {A : Type 0} (C : Type 0) (P : A → Type 0) → Decided C → (C → IsFinite P) → IsFinite (λ x. C × P x)
finite_when C P (inl c) f = finite_as P (λ x. C × P x) (λ x. (λ p. (c, p), λ h. h.1)) (f c)
finite_when C P (inr none) f = finite_none (λ x. C × P x) (λ x h. none h.0)

-- the elements of a finite set that satisfy a decided property
pub finite_where : {A : Type 0} (P Q : A → Type 0) → IsFinite P → ((x : A) → P x → Decided (Q x)) → IsFinite (λ x. P x × Q x)
finite_where {A} P Q f decided =
    finite_as (λ y. (x : A) × P x × (Q x × (x ≡ y))) (λ y. P y × Q y)
    (λ y. (
      λ h. (subst P h.2.1 h.1, subst Q h.2.1 h.2.0),
      λ h. (y, h.0, (h.1, refl)),
    ))
    (finite_of P (λ x y. Q x × (x ≡ y)) f
    (λ x p. finite_when (Q x) (λ y. x ≡ y) (decided x p) (λ q. finite_one (λ y. x ≡ y) x refl (λ y e. e))))

pub finite_below : (n : ℕ) → IsFinite (λ (k : ℕ). k < n)
finite_below zero = finite_none (λ (k : ℕ). k < zero) (λ k h. omega (arith, h))
finite_below (suc n) =
    finite_as (λ (k : ℕ). (k < n) ⊎ (n ≡ k)) (λ (k : ℕ). k < suc n)
    (λ k. (
      λ h. elim h [ inl l ↦ omega (arith, l) | inr e ↦ omega (arith, e) ],
      λ h. elim (cases_lt k n) [ inl l ↦ inl l | inr l ↦ inr (omega (arith, l, h)) ],
    ))
    (finite_or (λ (k : ℕ). k < n) (λ (k : ℕ). n ≡ k) (finite_below n) (finite_one (λ (k : ℕ). n ≡ k) n refl (λ k e. e)))

-- the members of a list
pub finite_in : {A : Type 0} (xs : List A) → IsFinite (λ x. Contains xs x)
finite_in xs = record { all = xs; each = λ x. (λ h. h, λ h. h) }

-- ---- decisions over finite sets

-- whether a finite set has an element is decided
decide_any : {A : Type 0} (P : A → Type 0) → IsFinite P → Decided ((x : A) × P x)
decide_any {A} P f = go f.all f.each where
  go : (xs : List A) → ((x : A) → Contains xs x ↔ P x) → Decided ((x : A) × P x)
  go [] each = inr (λ h. no_member h.0 ((each h.0).1 h.1))
  go (x ∷ xs) each = inl (x, (each x).0 (contains_head x xs))

pub decide_some : {A : Type 0} (P Q : A → Type 0) → IsFinite P → ((x : A) → P x → Decided (Q x))
    → Decided ((x : A) × (P x × Q x))
decide_some P Q f decided = decide_any (λ x. P x × Q x) (finite_where P Q f decided)

pub decide_all : {A : Type 0} (P Q : A → Type 0) → IsFinite P → ((x : A) → P x → Decided (Q x))
    → Decided ((x : A) → P x → Q x)
decide_all {A} P Q f decided = go (decide_some P (λ x. ¬ (Q x)) f (λ x p. decide_not (decided x p))) where
  sure : (x : A) → ¬ (Q x → ⊥) → Decided (Q x) → Q x
  sure x h (inl q) = q
  sure x h (inr none) = absurd (h none)

  go : Decided ((x : A) × (P x × (¬ (Q x)))) → Decided ((x : A) → P x → Q x)
  go (inl h) = inr (λ every. h.1.1 (every h.0 h.1.0))
  go (inr none) = inl (λ x p. sure x (λ never. none (x, (p, never))) (decided x p))

-- ---- ordered lists

module _ {A : Type 0} (P : A → Type 0) (R : A → A → Type 0)
    (one : (x y : A) → P x → P y → (x ≡ y) ⊎ (R x y ⊎ R y x))
    (further : (x y z : A) → P x → P y → P z → R x y → R y z → R x z) where
  -- an ordered list with one more element in its place
  record With (x : A) (ys : List A) : Type 0 where
    all : List A
    in_order : AllPairs R all
    each : (y : A) → Contains all y ↔ ((x ≡ y) ⊎ Contains ys y)

  with : (x : A) (ys : List A) → P x → ((y : A) → Contains ys y → P y) → AllPairs R ys → With x ys
  with x [] p ps order = record {
    all = x ∷ [];
    in_order = λ i j d below within. absurd (omega arith);
    each = λ y. (
      λ h. contains_cases x [] y h,
      λ h. elim h [
        | inl same ↦ subst (λ (z : A). Contains (x ∷ []) z) same (contains_head x [])
        | inr in' ↦ absurd (no_member y in')
      ],
    );
  }
  with x (y ∷ ys) p ps order =
      go (one x y p (ps y (contains_head y ys)))
      (with x ys p (λ z h. ps z (contains_tail y ys z h)) (tail_order R y ys order)) where
        go : (x ≡ y) ⊎ (R x y ⊎ R y x) → With x ys → With x (y ∷ ys)
        go (inl same) later = record {
          all = y ∷ ys;
          in_order = order;
          each = λ z. (
            λ h. inr h,
            λ h. elim h [
              | inl e ↦ subst (λ (u : A). Contains (y ∷ ys) u) (sym same ∙ e) (contains_head y ys)
              | inr in' ↦ in'
            ],
          );
        }
        go (inr (inl first)) later = record {
          all = x ∷ y ∷ ys;
          in_order = AllPairs-cons R x (y ∷ ys)
              (λ k d within. elim (contains_cases y ys (get_or (y ∷ ys) k d) (Contains-get_or (y ∷ ys) k d within)) [
                | inl same ↦ subst (λ (z : A). R x z) same first
                | inr in' ↦ further x y (get_or (y ∷ ys) k d) p (ps y (contains_head y ys))
                    (ps (get_or (y ∷ ys) k d) (contains_tail y ys (get_or (y ∷ ys) k d) in')) first
                    (head_first R y ys (get_or (y ∷ ys) k d) order in')
              ])
              order;
          each = λ z. (
            λ h. contains_cases x (y ∷ ys) z h,
            λ h. elim h [
              | inl e ↦ subst (λ (u : A). Contains (x ∷ y ∷ ys) u) e (contains_head x (y ∷ ys))
              | inr in' ↦ contains_tail x (y ∷ ys) z in'
            ],
          );
        }
        go (inr (inr after)) later = record {
          all = y ∷ later.all;
          in_order = AllPairs-cons R y later.all
              (λ k d within. elim ((later.each (get_or later.all k d)).0 (Contains-get_or later.all k d within)) [
                | inl same ↦ subst (λ (z : A). R y z) same after
                | inr in' ↦ head_first R y ys (get_or later.all k d) order in'
              ])
              later.in_order;
          each = λ z. (
            λ h. elim (contains_cases y later.all z h) [
              | inl e ↦ inr (subst (λ (u : A). Contains (y ∷ ys) u) e (contains_head y ys))
              | inr in' ↦ elim ((later.each z).0 in') [
                | inl e ↦ inl e
                | inr old ↦ inr (contains_tail y ys z old)
              ]
            ],
            λ h. elim h [
              | inl e ↦ contains_tail y later.all z ((later.each z).1 (inl e))
              | inr in' ↦ elim (contains_cases y ys z in') [
                | inl e ↦ subst (λ (u : A). Contains (y ∷ later.all) u) e (contains_head y later.all)
                | inr old ↦ contains_tail y later.all z ((later.each z).1 (inr old))
              ]
            ],
          );
        }

  -- an ordered list of the elements of `xs`
  record InOrder (xs : List A) : Type 0 where
    all : List A
    in_order : AllPairs R all
    each : (y : A) → Contains all y ↔ Contains xs y

  put : (xs : List A) → ((y : A) → Contains xs y → P y) → InOrder xs
  put [] ps = record { all = []; in_order = λ i j d below within. absurd (omega arith); each = λ y. (λ h. h, λ h. h) }
  put (x ∷ xs) ps =
      let later : InOrder xs = put xs (λ y h. ps y (contains_tail x xs y h)) in
      let more : With x later.all =
      with x later.all (ps x (contains_head x xs)) (λ y h. ps y (contains_tail x xs y ((later.each y).0 h))) later.in_order in
      record {
        all = more.all;
        in_order = more.in_order;
        each = λ y. (
          λ h. elim ((more.each y).0 h) [
            | inl e ↦ subst (λ (u : A). Contains (x ∷ xs) u) e (contains_head x xs)
            | inr in' ↦ contains_tail x xs y ((later.each y).0 in')
          ],
          λ h. elim (contains_cases x xs y h) [
            | inl e ↦ (more.each y).1 (inl e)
            | inr in' ↦ (more.each y).1 (inr ((later.each y).1 in'))
          ],
        );
      }

  -- a finite set has an ordered list
  pub listed : IsFinite P → (xs : List A) × AreExactly P R xs
  listed f =
      let all : InOrder f.all = put f.all (λ y h. (f.each y).0 h) in (
        all.all,
        record {
          each = λ x. (λ h. (f.each x).0 ((all.each x).0 h), λ p. (all.each x).1 ((f.each x).1 p));
          in_order = all.in_order;
        },
      )

-- Sets of rests, described by whether they have one, two or a regular one (specs/Counted): the case of a set, a set with one more rest, and
-- two sets together.
use Rattle.std.proofs.Common.{◌≡◌, ◌≢◌, ◌⊎◌, inl, inr, refl, sym, ap, subst, ◌∙◌, Bool, true, false, Option, Some, None}
use Rattle.std.specs.Prelude.{◌↔◌, ◌&&◌, ◌||◌}
use Rattle.std.proofs.lemmas.Bool.{or_cases, or_left, or_right, and_parts, and_from}
use Rattle.tacho_choice.specs.declared.counted.Counted.{Counted}
use Rattle.tacho_choice.specs.declared.counted.Counted.TheVariants.{Nothing, One, More}
use Rattle.tacho_choice.specs.Counted.{AreCounted, IsOneOf}
use Rattle.tacho_choice.specs.Step.{has_one, has_two, has_regular, plus, plus_where, serves}

pub same_tests : (a b : Bool) → (a ≡ true → b ≡ true) → (b ≡ true → a ≡ true) → a ≡ b
same_tests true b f g = sym (f refl)
same_tests false true f g = g refl
same_tests false false f g = refl

-- there are two different rests, and the first of them is regular
abbrev pub HasTwoOf : {R : Type 0} → (R → Bool) → (R → Type 0) → Type 0
HasTwoOf {R} is_regular P = (r : R) × ((s : R) × (P r × P s × (r ≢ s) × (is_regular r ≡ true)))

same_counted : (a b : Counted) → has_one a ≡ has_one b → has_two a ≡ has_two b → has_regular a ≡ has_regular b → a ≡ b
same_counted Nothing Nothing e f g = refl
same_counted Nothing (One l) e f g = absurd (let h : false ≡ true = e in cc)
same_counted Nothing (More l) e f g = absurd (let h : false ≡ true = e in cc)
same_counted (One k) Nothing e f g = absurd (let h : true ≡ false = e in cc)
same_counted (One k) (One l) e f g = ap One g
same_counted (One k) (More l) e f g = absurd (let h : false ≡ true = f in cc)
same_counted (More k) Nothing e f g = absurd (let h : true ≡ false = e in cc)
same_counted (More k) (One l) e f g = absurd (let h : true ≡ false = f in cc)
same_counted (More k) (More l) e f g = ap More g

one_plus : (a : Counted) (l : Bool) → has_one (plus a l) ≡ true
one_plus Nothing l = refl
one_plus (One k) l = refl
one_plus (More k) l = refl

two_plus : (a : Counted) (l : Bool) → has_two (plus a l) ≡ has_one a
two_plus Nothing l = refl
two_plus (One k) l = refl
two_plus (More k) l = refl

long_plus : (a : Counted) (l : Bool) → has_regular (plus a l) ≡ (has_regular a || l)
long_plus Nothing l = refl
long_plus (One k) l = refl
long_plus (More k) l = refl

module _ (R : Type 0) (is_regular : R → Bool) where
  pub case_same : (P : R → Type 0) (a b : Counted) → AreCounted is_regular P a → AreCounted is_regular P b → a ≡ b
  case_same P a b is are = same_counted a b
      (same_tests (has_one a) (has_one b) (λ e. are.one.1 (is.one.0 e)) (λ e. is.one.1 (are.one.0 e)))
      (same_tests (has_two a) (has_two b) (λ e. are.two.1 (is.two.0 e)) (λ e. is.two.1 (are.two.0 e)))
      (same_tests (has_regular a) (has_regular b) (λ e. are.long.1 (is.long.0 e)) (λ e. is.long.1 (are.long.0 e)))

  pub case_agree : (P Q : R → Type 0) (a : Counted) → ((r : R) → P r ↔ Q r) → AreCounted is_regular P a
      → AreCounted is_regular Q a
  case_agree P Q a h is = record {
    one = (λ e. let x = is.one.0 e in (x.0, (h x.0).0 x.1), λ x. is.one.1 (x.0, (h x.0).1 x.1));
    two = (
      λ e. let x = is.two.0 e in (x.0, (x.1.0, ((h x.0).0 x.1.1.0, (h x.1.0).0 x.1.1.1, x.1.1.2))),
      λ x. is.two.1 (x.0, (x.1.0, ((h x.0).1 x.1.1.0, (h x.1.0).1 x.1.1.1, x.1.1.2))),
    );
    long = (
      λ e. let x = is.long.0 e in (x.0, ((h x.0).0 x.1.0, x.1.1)),
      λ x. is.long.1
          (x.0, ((h x.0).1 x.1.0, x.1.1)),
    );
  }

  pub case_plus : (P : R → Type 0) (a : Counted) (r : R) → (P r → ⊥) → AreCounted is_regular P a
      → AreCounted is_regular (λ s. P s ⊎ (s ≡ r)) (plus a (is_regular r))
  case_plus P a r fresh is = record {
    one = (λ e. (r, inr refl), λ x. one_plus a (is_regular r));
    two = (
      λ e. let x = is.one.0 (sym (two_plus a (is_regular r)) ∙ e) in
          (x.0, (r, (inl x.1, inr refl, λ same. fresh (subst P same x.1)))),
      λ x. two_plus a (is_regular r) ∙ elim x.1.1.0 [
        | inl p ↦ is.one.1 (x.0, p)
        | inr e ↦ elim x.1.1.1 [
          | inl q ↦ is.one.1 (x.1.0, q)
          | inr f ↦ absurd (x.1.1.2 (e ∙ sym f))
        ]
      ],
    );
    long = (
      λ e. elim (or_cases (has_regular a) (is_regular r) (sym (long_plus a (is_regular r)) ∙ e)) [
        | inl before ↦ let x = is.long.0 before in (x.0, (inl x.1.0, x.1.1))
        | inr here ↦ (r, (inr refl, here))
      ],
      λ x. long_plus a (is_regular r) ∙ elim x.1.0 [
        | inl p ↦ or_left (has_regular a) (is_regular r) (is.long.1 (x.0, (p, x.1.1)))
        | inr e ↦ or_right (has_regular a) (is_regular r) (sym (ap is_regular e) ∙ x.1.1)
      ],
    );
  }

  -- a rest of this kind is added if it is taken
  pub case_where : (P E T : R → Type 0) (taken : Bool) (edge : Option Bool) (a : Counted) → IsOneOf is_regular E edge
      → ((r s : R) → E r → E s → r ≡ s) → ((r : R) → E r → P r → ⊥) → ((r : R) → E r → (taken ≡ true) ↔ T r)
      → AreCounted is_regular P a → AreCounted is_regular (λ r. P r ⊎ (E r × T r)) (plus_where taken edge a)
  case_where P E T taken None a none alone fresh test is = case_agree P (λ r. P r ⊎ (E r × T r)) a
      (λ r. (λ p. inl p, λ x. elim x [ inl p ↦ p | inr e ↦ absurd (none r e.0) ])) is
  case_where P E T true (Some l) a some alone fresh test is =
      let r : R = some.0 in
      let e : E r = some.1.0 in
      let f : is_regular r ≡ l = some.1.1 in
      let more : AreCounted is_regular (λ s. P s ⊎ (s ≡ r)) (plus a l) = subst (λ (x : Bool). AreCounted is_regular
      (λ s. P s ⊎ (s ≡ r)) (plus a x)) f (case_plus P a r (fresh r e) is) in
      case_agree (λ s. P s ⊎ (s ≡ r)) (λ s. P s ⊎ (E s × T s)) (plus a l)
      (λ s. (
        λ x. elim x [ inl p ↦ inl p | inr same ↦ let es : E s = subst E (sym same) e in inr (es, (test s es).0 refl) ],
        λ x. elim x [ inl p ↦ inl p | inr et ↦ inr (alone s r et.0 e) ],
      )) more
  case_where P E T false (Some l) a some alone fresh test is =
      case_agree P (λ r. P r ⊎ (E r × T r)) a
      (λ r. (
        λ p. inl p,
        λ x. elim x [
          | inl p ↦ p
          | inr et ↦ absurd (let h : false ≡ true = (test r et.0).1 et.1 in
              cc)
        ],
      )) is

  module _ (P Q : R → Type 0) (a b : Counted) (apart : (r : R) → P r → Q r → ⊥) (same_or_not : (r s : R)
      → (r ≡ s) ⊎ (r ≢ s)) (is : AreCounted is_regular P a) (are : AreCounted is_regular Q b) where
    -- there are two different rests in the two sets, if the test says so
    two_of : ((has_two a || has_two b) || (has_one a && has_one b)) ≡ true
        → (r : R) × ((s : R) × ((P r ⊎ Q r) × (P s ⊎ Q s) × (r ≢ s)))
    two_of e = elim (or_cases (has_two a || has_two b) (has_one a && has_one b) e) [
      | inl two ↦ elim (or_cases (has_two a) (has_two b) two) [
        | inl left ↦ let x = is.two.0 left in (x.0, (x.1.0, (inl x.1.1.0, inl x.1.1.1, x.1.1.2)))
        | inr right ↦ let x = are.two.0 right in (x.0, (x.1.0, (inr x.1.1.0, inr x.1.1.1, x.1.1.2)))
      ]
      | inr each ↦
          let ones = and_parts (has_one a) (has_one b) each in
          let x = is.one.0 ones.0 in
          let y = are.one.0 ones.1 in
          (x.0, (y.0, (inl x.1, inr y.1, λ same. apart y.0 (subst P same x.1) y.1)))
    ]

    of_two : (r s : R) → P r ⊎ Q r → P s ⊎ Q s → r ≢ s → ((has_two a || has_two b) || (has_one a && has_one b)) ≡ true
    of_two r s (inl p) (inl q) differ = or_left (has_two a || has_two b) (has_one a && has_one b)
        (or_left (has_two a) (has_two b) (is.two.1 (r, (s, (p, q, differ)))))
    of_two r s (inl p) (inr q) differ = or_right (has_two a || has_two b) (has_one a && has_one b)
        (and_from (has_one a) (has_one b) (is.one.1 (r, p)) (are.one.1 (s, q)))
    of_two r s (inr p) (inl q) differ = or_right (has_two a || has_two b) (has_one a && has_one b)
        (and_from (has_one a) (has_one b) (is.one.1 (s, q)) (are.one.1 (r, p)))
    of_two r s (inr p) (inr q) differ = or_left (has_two a || has_two b) (has_one a && has_one b)
        (or_right (has_two a) (has_two b) (are.two.1 (r, (s, (p, q, differ)))))

    long_of : (has_regular a || has_regular b) ≡ true → (r : R) × ((P r ⊎ Q r) × (is_regular r ≡ true))
    long_of e = elim (or_cases (has_regular a) (has_regular b) e) [
      | inl left ↦ let x = is.long.0 left in (x.0, (inl x.1.0, x.1.1))
      | inr right ↦ let x = are.long.0 right in (x.0, (inr x.1.0, x.1.1))
    ]

    of_long : (r : R) → P r ⊎ Q r → is_regular r ≡ true → (has_regular a || has_regular b) ≡ true
    of_long r (inl p) e = or_left (has_regular a) (has_regular b) (is.long.1 (r, (p, e)))
    of_long r (inr q) e = or_right (has_regular a) (has_regular b) (are.long.1 (r, (q, e)))

    pub serves_is : (serves a b ≡ true) ↔ HasTwoOf is_regular (λ r. P r ⊎ Q r)
    serves_is = (
      λ e.
          let parts = and_parts (has_regular a || has_regular b) ((has_two a || has_two b) ||
          (has_one a && has_one b)) e in
          let x = long_of parts.0 in
          let y = two_of parts.1 in
          elim (same_or_not x.0 y.0) [
            | inr differ ↦ (x.0, (y.0, (x.1.0, y.1.1.0, differ, x.1.1)))
            | inl same ↦ (x.0, (y.1.0, (x.1.0, y.1.1.1, (λ e. y.1.1.2 (sym same ∙ e)), x.1.1)))
          ],
      λ h. and_from (has_regular a || has_regular b) ((has_two a || has_two b) || (has_one a && has_one b))
          (of_long h.0 h.1.1.0 h.1.1.3) (of_two h.0 h.1.0 h.1.1.0 h.1.1.1 h.1.1.2),
    )

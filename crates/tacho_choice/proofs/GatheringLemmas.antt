-- The rests of a week, with one more rest.
use Rattle.std.proofs.Common.{◌≡◌, ℕ, ◌<◌, ◌≤◌, ◌⊎◌, inl, inr, refl, ap, subst, ◌∙◌, arith, Bool, true, false, ltb, leb}
use Rattle.std.proofs.Common.{Option, Some, None}
use Rattle.std.specs.Prelude.{◌↔◌, ◌||◌}
use Rattle.std.proofs.lemmas.Bool.{cases_lt, lt-ltb, le-ltb, le-leb, lt-leb, ltb-true, or_cases, or_left, or_right}
use Rattle.tacho_choice.specs.declared.counted.Counted.TheVariants.{Nothing}
use Rattle.tacho_choice.specs.declared.weekly_rests.WeeklyRests.{WeeklyRests}
use Rattle.tacho_choice.specs.Counted.{AreCounted, IsOneOf}
use Rattle.tacho_choice.specs.Step.{plus, with_rest}
use Rattle.tacho_choice.proofs.CasesLemmas.{case_agree, case_plus}
use Rattle.tacho_choice.proofs.ChoicesLemmas.{IsWeek, Enters, Starts, Inside}

-- one more rest
abbrev pub And : {R : Type 0} → (R → Type 0) → R → R → Type 0
And {R} P x r = P r ⊎ (r ≡ x)

module _ (R : Type 0) (first last : R → ℕ) (is_regular : R → Bool) (Whole : ℕ → Type 0) where
  edge_agree : (A B : R → Type 0) (edge : Option Bool) → ((r : R) → A r ↔ B r) → IsOneOf is_regular A edge
      → IsOneOf is_regular B edge
  edge_agree A B None same none = λ r b. none r ((same r).1 b)
  edge_agree A B (Some l) same some = (some.0, ((same some.0).0 some.1.0, some.1.1))

  -- sets of rests that agree on the rests with a minute in the week
  module _ (P Q : R → Type 0) (w : ℕ) (week : WeeklyRests) (same : (r : R) → first r ≤ w → w ≤ last r → P r ↔ Q r) where
    enters_same : (r : R) → Enters R P first last is_regular Whole w r ↔ Enters R Q first last is_regular Whole w r
    enters_same r = (
      λ x. let a : first r < w = x.1 in ((same r (omega arith) x.2).0 x.0, x.1, x.2),
      λ x. let a : first r < w = x.1 in ((same r (omega arith) x.2).1 x.0, x.1, x.2),
    )

    inside_same : (r : R) → Inside R P first last is_regular Whole w r ↔ Inside R Q first last is_regular Whole w r
    inside_same r = (
      λ x. let a : first r ≡ w = x.1 in let b : last r ≡ w = x.2 in (
        (same r (omega arith) (omega arith)).0 x.0,
        x.1,
        x.2,
      ),
      λ x. let a : first r ≡ w = x.1 in let b : last r ≡ w = x.2 in (
        (same r (omega arith) (omega arith)).1 x.0,
        x.1,
        x.2,
      ),
    )

    starts_same : (r : R) → Starts R P first last is_regular Whole w r ↔ Starts R Q first last is_regular Whole w r
    starts_same r = (
      λ x. let a : first r ≡ w = x.1 in let b : w < last r = x.2 in (
        (same r (omega arith) (omega arith)).0 x.0,
        x.1,
        x.2,
      ),
      λ x. let a : first r ≡ w = x.1 in let b : w < last r = x.2 in (
        (same r (omega arith) (omega arith)).1 x.0,
        x.1,
        x.2,
      ),
    )

    pub week_agree : IsWeek R P first last is_regular Whole w week → IsWeek R Q first last is_regular Whole w week
    week_agree h = record {
      entering = edge_agree (Enters R P first last is_regular Whole w) (Enters R Q first last is_regular Whole w)
          week.entering enters_same h.entering;
      inside = case_agree R is_regular (Inside R P first last is_regular Whole w)
          (Inside R Q first last is_regular Whole w) week.inside inside_same h.inside;
      starting = edge_agree (Starts R P first last is_regular Whole w) (Starts R Q first last is_regular Whole w)
          week.starting starts_same h.starting;
      through = (
        λ e. let x = h.through.0 e in (x.0, ((enters_same x.0).0 x.1.0, x.1.1)),
        λ x. h.through.1 (x.0, ((enters_same x.0).1 x.1.0, x.1.1)),
      );
    }

  pub week_none : (P : R → Type 0) (w : ℕ) → ((r : R) → P r → ⊥) → IsWeek R P first last is_regular Whole w
      (record { entering = None; inside = Nothing; starting = None; through = false })
  week_none P w none = record {
    entering = λ r x. none r x.0;
    inside = record {
      one = (λ e. absurd (let k : false ≡ true = e in cc), λ x. absurd (none x.0 x.1.0));
      two = (λ e. absurd (let k : false ≡ true = e in cc), λ x. absurd (none x.0 x.1.1.0.0));
      long = (λ e. absurd (let k : false ≡ true = e in cc), λ x. absurd (none x.0 x.1.0.0));
    };
    starting = λ r x. none r x.0;
    through = (λ e. absurd (let k : false ≡ true = e in cc), λ x. absurd (none x.0 x.1.0.0));
  }

  module _ (P : R → Type 0) (w : ℕ) (week : WeeklyRests) (is : IsWeek R P first last is_regular Whole w week) (x : R)
      (fresh : P x → ⊥) (order : first x ≤ last x) where
    keep : (A B : R → Type 0) → (A x → B x → ⊥) → (r : R) → (P r × A r × B r) ↔ (And P x r × A r × B r)
    keep A B out r = (
      λ h. (inl h.0, h.1, h.2),
      λ h. elim h.0 [
        | inl p ↦ (p, h.1, h.2)
        | inr e ↦ absurd (out (subst A e h.1) (subst B e h.2))
      ],
    )

    keep_through : (first x < w → w ≤ last x → w < last x → ⊥)
        → (week.through ≡ true) ↔ ((r : R) × (Enters R (And P x) first last is_regular Whole w r × (w < last r)))
    keep_through out = (
      λ e. let y = is.through.0 e in (y.0, ((inl y.1.0.0, y.1.0.1, y.1.0.2), y.1.1)),
      λ y. elim y.1.0.0 [
        | inl p ↦ is.through.1 (y.0, ((p, y.1.0.1, y.1.0.2), y.1.1))
        | inr e ↦ absurd (out (subst (λ (r : R). first r < w) e y.1.0.1) (subst (λ (r : R). w ≤ last r) e y.1.0.2)
            (subst (λ (r : R). w < last r) e y.1.1))
      ],
    )

    keep_entering : (first x < w → w ≤ last x → ⊥) → IsOneOf is_regular (Enters R (And P x) first last is_regular
        Whole w) week.entering
    keep_entering out = edge_agree (Enters R P first last is_regular Whole w) (Enters R (And P x) first last
        is_regular Whole w) week.entering (keep (λ r. first r < w) (λ r. w ≤ last r) out) is.entering

    keep_inside : (first x ≡ w → last x ≡ w → ⊥) → AreCounted is_regular (Inside R (And P x) first last is_regular
        Whole w) week.inside
    keep_inside out = case_agree R is_regular (Inside R P first last is_regular Whole w) (Inside R (And P x) first
        last is_regular Whole w) week.inside (keep (λ r. first r ≡ w) (λ r. last r ≡ w) out) is.inside

    keep_starting : (first x ≡ w → w < last x → ⊥) → IsOneOf is_regular (Starts R (And P x) first last is_regular
        Whole w) week.starting
    keep_starting out = edge_agree (Starts R P first last is_regular Whole w) (Starts R (And P x) first last
        is_regular Whole w) week.starting (keep (λ r. first r ≡ w) (λ r. w < last r) out) is.starting

    out_more : (first x < w → w ≤ last x → ⊥) → (first x ≡ w → ⊥) → IsWeek R (And P x) first last is_regular Whole w
        week
    out_more a b = record {
      entering = keep_entering a;
      inside = keep_inside (λ e f. b e);
      starting = keep_starting
          (λ e f. b e);
      through = keep_through (λ e f g. a e f);
    }

    entering_more : first x < w → w ≤ last x → IsWeek R (And P x) first last is_regular Whole w
        (record {
          entering = Some (is_regular x);
          inside = week.inside;
          starting = week.starting;
          through =
              week.through || ltb w (last x);
        })
    entering_more a b = record {
      entering = (x, ((inr refl, a, b), refl));
      inside = keep_inside (λ e f. omega arith);
      starting = keep_starting (λ e f. omega arith);
      through = (
        λ e. elim (or_cases week.through (ltb w (last x)) e) [
          | inl t ↦ let y = is.through.0 t in (y.0, ((inl y.1.0.0, y.1.0.1, y.1.0.2), y.1.1))
          | inr t ↦ (x, ((inr refl, a, b), ltb-true w (last x) t))
        ],
        λ y. elim y.1.0.0 [
          | inl p ↦ or_left week.through (ltb w (last x)) (is.through.1 (y.0, ((p, y.1.0.1, y.1.0.2), y.1.1)))
          | inr e ↦ or_right week.through (ltb w (last x)) (lt-ltb w (last x) (subst (λ (r : R). w < last r) e y.1.1))
        ],
      );
    }

    starting_more : first x ≡ w → w < last x → IsWeek R (And P x) first last is_regular Whole w
        (record {
          entering = week.entering;
          inside = week.inside;
          starting = Some (is_regular x);
          through =
              week.through;
        })
    starting_more a b = record {
      entering = keep_entering (λ e f. omega arith);
      inside = keep_inside (λ e f. omega arith);
      starting = (x, ((inr refl, a, b), refl));
      through = keep_through (λ e f g. omega arith);
    }

    inside_more : first x ≡ w → last x ≡ w → IsWeek R (And P x) first last is_regular Whole w
        (record {
          entering = week.entering;
          inside = plus week.inside (is_regular x);
          starting = week.starting;
          through = week.through;
        })
    inside_more a b = record {
      entering = keep_entering (λ e f. omega arith);
      inside = case_agree R is_regular (λ s. Inside R P first last is_regular Whole w s ⊎ (s ≡ x))
          (Inside R (And P x) first last is_regular Whole w) (plus week.inside (is_regular x))
          (λ r. (
            λ h. elim h [ inl p ↦ (inl p.0, p.1, p.2) | inr e ↦ (inr e, ap first e ∙ a, ap last e ∙ b) ],
            λ h. elim h.0 [ inl p ↦ inl (p, h.1, h.2) | inr e ↦ inr e ],
          ))
          (case_plus R is_regular (Inside R P first last is_regular Whole w) week.inside x (λ i. fresh i.0) is.inside);
      starting = keep_starting (λ e f. omega arith);
      through = keep_through (λ e f g. omega arith);
    }

    pub week_more : IsWeek R (And P x) first last is_regular Whole w (with_rest week w (first x) (last x)
        (is_regular x))
    week_more = elim (cases_lt (first x) w) [
      | inl early ↦ let e : ltb (first x) w ≡ true = lt-ltb (first x) w early in elim (cases_lt (last x) w) [
        | inl gone ↦ let f : leb w (last x) ≡ false = lt-leb w (last x) gone in rw (e, f)
            (out_more (λ a b. omega arith) (λ a. omega arith))
        | inr in' ↦ let f : leb w (last x) ≡ true = le-leb w (last x) in' in rw (e, f) (entering_more early in')
      ]
      | inr late ↦ let e : ltb (first x) w ≡ false = le-ltb (first x) w late in elim (cases_lt w (first x)) [
        | inl later ↦ let f : ltb w (first x) ≡ true = lt-ltb w (first x) later in rw (e, f)
            (out_more (λ a b. omega arith) (λ a. omega arith))
        | inr here ↦ let f : ltb w (first x) ≡ false = le-ltb w (first x) here in elim (cases_lt w (last x)) [
          | inl leaves ↦ let g : ltb w (last x) ≡ true = lt-ltb w (last x) leaves in rw (e, f, g)
              (starting_more (omega arith) leaves)
          | inr ends ↦ let g : ltb w (last x) ≡ false = le-ltb w (last x) ends in rw (e, f, g)
              (inside_more (omega arith) (omega arith))
        ]
      ]
    ]

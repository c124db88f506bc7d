-- One week's step is exact for any things that have a first and a last week, if at most one of them crosses the end of each week. The proof
-- reads a choice one week earlier, or changes it for the thing that crosses the end.
use Rattle.std.proofs.Common.{◌≡◌, ◌≢◌, ℕ, ◌+◌, ◌-◌, ◌<◌, ◌≤◌, ◌⊎◌, inl, inr, refl, sym, ap, subst, ◌∙◌, arith}
use Rattle.std.proofs.Common.{Bool, true, false, cond, leb, ltb, Option, Some, None}
use Rattle.std.specs.Prelude.{◌↔◌, ◌&&◌, ◌||◌, not, is_some}
use Rattle.std.proofs.lemmas.Bool.{cases_lt, cases_Bool, leb-true, ltb-true, lt-ltb, le-leb, both_ways, not-true}
use Rattle.std.proofs.lemmas.Bool.{or_cases, and_from, and_parts, or_left, or_right, cond-true, cond-false}
use Rattle.tacho_choice.specs.declared.counted.Counted.{Counted}
use Rattle.tacho_choice.specs.declared.outcome.Outcome.{Outcome}
use Rattle.tacho_choice.specs.declared.weekly_rests.WeeklyRests.{WeeklyRests}
use Rattle.tacho_choice.specs.Step.{plus_where, counted_of, may, serves, IsNext, IsFirst}
use Rattle.tacho_choice.specs.Counted.{AreCounted, IsOneOf}
use Rattle.tacho_choice.proofs.CasesLemmas.{HasTwoOf, case_same, case_agree, case_where, serves_is, same_tests}

-- a week, given its parts
abbrev week_by : Option Bool → Counted → Option Bool → Bool → WeeklyRests
week_by entering inside starting through =
    record { entering = entering; inside = inside; starting = starting; through = through }

module _ (R : Type 0) (IsRest : R → Type 0) (first last : R → ℕ) (is_regular : R → Bool) (Whole : ℕ → Type 0) where
  abbrev pub IsChoice : (R → ℕ) → Type 0
  IsChoice week_of = (r : R) → IsRest r → (first r ≤ week_of r) × (week_of r ≤ last r)

  -- it starts in an earlier week and reaches this one
  abbrev pub Enters : ℕ → R → Type 0
  Enters w r = IsRest r × (first r < w) × (w ≤ last r)

  -- it starts in this week and continues into the next
  abbrev pub Starts : ℕ → R → Type 0
  Starts w r = IsRest r × (first r ≡ w) × (w < last r)

  abbrev pub Inside : ℕ → R → Type 0
  Inside w r = IsRest r × (first r ≡ w) × (last r ≡ w)

  abbrev pub Leaves : ℕ → R → Type 0
  Leaves w r = IsRest r × (first r ≤ w) × (w < last r)

  -- the week has these rests
  pub record IsWeek (w : ℕ) (week : WeeklyRests) : Type 0 where
    pub entering : IsOneOf is_regular (Enters w) week.entering
    pub inside : AreCounted is_regular (Inside w) week.inside
    pub starting : IsOneOf is_regular (Starts w) week.starting
    pub through : (week.through ≡ true) ↔ ((r : R) × (Enters w r × (w < last r)))

  abbrev pub CountedIn : (R → ℕ) → ℕ → R → Type 0
  CountedIn week_of w r = IsRest r × (week_of r ≡ w)

  -- true if the rest that crosses the week's start is counted before this week
  abbrev pub CameCounted : (R → ℕ) → ℕ → Bool → Type 0
  CameCounted week_of w b = (b ≡ true) ↔ ((r : R) × (Enters w r × (week_of r < w)))

  -- true if the rest that crosses the week's end is counted in this week or an earlier one
  abbrev pub GoesCounted : (R → ℕ) → ℕ → Bool → Type 0
  GoesCounted week_of w b = (b ≡ true) ↔ ((r : R) × (Leaves w r × (week_of r ≤ w)))

  -- the outcome of a week under a choice
  pub record IsOutcome (week_of : R → ℕ) (w : ℕ) (outcome : Outcome) : Type 0 where
    pub counted : AreCounted is_regular (CountedIn week_of w) outcome.counted
    pub crossing : GoesCounted week_of w outcome.crossing

  -- the choice is valid for a week and the next; if one of them is entirely at rest, nothing is required
  abbrev pub Serves : (R → ℕ) → ℕ → Type 0
  Serves week_of w = Whole w ⊎ (Whole (w + 1) ⊎ HasTwoOf is_regular (λ r. CountedIn week_of w r ⊎ CountedIn week_of
      (w + 1) r))

  -- one choice is valid for each two neighbouring weeks from one week to another
  pub record CanServe (a u : ℕ) : Type 0 where
    pub week_of : R → ℕ
    pub choice : IsChoice week_of
    pub each : (w : ℕ) → a ≤ w → w + 1 ≤ u → Serves week_of w

  -- likewise, and the choice leaves this outcome of the last week
  pub record CanReach (a u : ℕ) (left : Outcome) : Type 0 where
    pub week_of : R → ℕ
    pub choice : IsChoice week_of
    pub each : (w : ℕ) → a ≤ w → w + 1 ≤ u → Serves week_of w
    pub outcome : IsOutcome week_of u left

  module _ (order : (r : R) → IsRest r → first r ≤ last r) (alone : (w : ℕ) (r s : R) → Leaves w r → Leaves w s
      → r ≡ s) where
    enters_alone : (w : ℕ) (r s : R) → Enters w r → Enters w s → r ≡ s
    enters_alone w r s e f =
        let rf : first r < w = e.1 in let rl : w ≤ last r = e.2 in
        let sf : first s < w = f.1 in let sl : w ≤ last s = f.2 in
        alone (w - 1) r s (e.0, omega arith, omega arith) (f.0, omega arith, omega arith)

    starts_alone : (w : ℕ) (r s : R) → Starts w r → Starts w s → r ≡ s
    starts_alone w r s e f =
        let rf : first r ≡ w = e.1 in
        let sf : first s ≡ w = f.1 in
        alone w r s (e.0, omega arith, e.2) (f.0, omega arith, f.2)

    -- there is only one rest of this kind, so it is regular or not
    edge_only : (E : R → Type 0) (a b : Option Bool) → ((r s : R) → E r → E s → r ≡ s) → IsOneOf is_regular E a
        → IsOneOf is_regular E b → a ≡ b
    edge_only E None None same is are = refl
    edge_only E None (Some l) same none some = absurd (none some.0 some.1.0)
    edge_only E (Some k) None same some none = absurd (none some.0 some.1.0)
    edge_only E (Some k) (Some l) same is are =
        ap Some (sym is.1.1 ∙ (ap is_regular (same is.0 are.0 is.1.0 are.1.0) ∙ are.1.1))

    -- a week has only one description
    pub week_only : (w : ℕ) (a b : WeeklyRests) → IsWeek w a → IsWeek w b → a ≡ b
    week_only w a b is are =
        let e : a.entering ≡ b.entering =
        edge_only (Enters w) a.entering b.entering (enters_alone w) is.entering are.entering in
        let f : a.inside ≡ b.inside = case_same R is_regular (Inside w) a.inside b.inside is.inside are.inside in
        let g : a.starting ≡ b.starting =
        edge_only (Starts w) a.starting b.starting (starts_alone w) is.starting are.starting in
        let h : a.through ≡ b.through =
        same_tests a.through b.through (λ t. are.through.1 (is.through.0 t)) (λ t. is.through.1 (are.through.0 t)) in
        ap (λ (x : Option Bool). week_by x a.inside a.starting a.through) e
        ∙ (ap (λ (x : Counted). week_by b.entering x a.starting a.through) f
        ∙ (ap (λ (x : Option Bool). week_by b.entering b.inside x a.through) g
        ∙ ap (λ (x : Bool). week_by b.entering b.inside b.starting x) h))

    -- decides something for the one rest of this kind
    edge_test : (E T : R → Type 0) (edge : Option Bool) → IsOneOf is_regular E edge → ((r s : R) → E r → E s → r ≡ s)
        → ((r : R) → T r ⊎ (T r → ⊥)) → (b : Bool) × (((b ≡ true) ↔ ((r : R) × (E r × T r))) × (b ≡ true
        → is_some edge ≡ true))
    edge_test E T None none same dec = (
      false,
      (
        (λ e. absurd (let h : false ≡ true = e in cc), λ x. absurd (none x.0 x.1.0)),
        λ e. absurd
            (let h : false ≡ true = e in cc),
      ),
    )
    edge_test E T (Some l) some same dec = elim (dec some.0) [
      | inl t ↦ (true, ((λ e. (some.0, (some.1.0, t)), λ x. refl), λ e. refl))
      | inr f ↦ (
        false,
        (
          (
            λ e. absurd (let h : false ≡ true = e in cc),
            λ x. absurd
                (f (subst T (same x.0 some.0 x.1.0 some.1.0) x.1.1)),
          ),
          λ e. refl,
        ),
      )
    ]

    edge_some : (E : R → Type 0) (edge : Option Bool) (r : R) → IsOneOf is_regular E edge → E r → is_some edge ≡ true
    edge_some E None r none e = absurd (none r e)
    edge_some E (Some l) r some e = refl

    some_edge : (E : R → Type 0) (edge : Option Bool) → IsOneOf is_regular E edge → is_some edge ≡ true → (r : R) × E r
    some_edge E None none e = absurd (let h : false ≡ true = e in cc)
    some_edge E (Some l) some e = (some.0, some.1.0)

    or_false : (b : Bool) → (b || false) ≡ true → b ≡ true
    or_false true h = refl
    or_false false h = h

    below_or_not : (m n : ℕ) → (m < n) ⊎ ((m < n) → ⊥)
    below_or_not m n = elim (cases_lt m n) [ inl h ↦ inl h | inr h ↦ inr (λ k. absurd (omega arith)) ]

    -- what the tests mean for the rest that crosses the week's start
    entering_test : (b t e : Bool) (f w l : ℕ) → ((b ≡ true) ↔ (f < w)) → ((t ≡ true) ↔ (w < l))
        → (w < l → (e ≡ true) ↔ (f ≤ w)) → f ≤ l → ((not b && (not t || e)) ≡ true) ↔ (f ≡ w)
    entering_test true t e f w l came through goes fits = (
      λ h. absurd (let x : false ≡ true = h in cc),
      λ h. absurd
          (let x : f < w = came.0 refl in omega arith),
    )
    entering_test false false e f w l came through goes fits = (
      λ h. elim (cases_lt f w) [
        | inl below ↦ absurd (let x : false ≡ true = came.1 below in cc)
        | inr above ↦ elim (cases_lt w l) [
          | inl long ↦ absurd (let x : false ≡ true = through.1 long in cc)
          | inr ends
              ↦ omega arith
        ]
      ],
      λ h. refl,
    )
    entering_test false true true f w l came through goes fits = (
      λ h. elim (cases_lt f w) [
        | inl below ↦ absurd (let x : false ≡ true = came.1 below in cc)
        | inr above ↦ let x : f ≤ w = (goes (through.0 refl)).0 refl in omega arith
      ],
      λ h. refl,
    )
    entering_test false true false f w l came through goes fits = (
      λ h. absurd (let x : false ≡ true = h in cc),
      λ h. let x : false ≡ true = (goes (through.0 refl)).1 (omega arith) in x,
    )

    module _ (week_of : R → ℕ) (choice : IsChoice week_of) (w : ℕ) (week : WeeklyRests) (is : IsWeek w week) where
      pub came : (b : Bool) × (CameCounted week_of w b × (b ≡ true → is_some week.entering ≡ true))
      came = edge_test (Enters w) (λ r. week_of r < w) week.entering is.entering (enters_alone w)
          (λ r. below_or_not (week_of r) w)

      pub goes : (b : Bool) × GoesCounted week_of w b
      goes =
          let one = edge_test (Starts w) (λ r. week_of r < w + 1) week.starting is.starting (starts_alone w)
          (λ r. below_or_not (week_of r) (w + 1)) in
          let two = edge_test (Enters w) (λ r. (w < last r) × (week_of r < w + 1)) week.entering is.entering
          (enters_alone w)
          (λ r. elim (below_or_not w (last r)) [
            | inl a ↦ elim (below_or_not (week_of r) (w + 1)) [ inl b ↦ inl (a, b) | inr b ↦ inr (λ x. b x.1) ]
            | inr a ↦ inr (λ x. a x.0)
          ]) in
          elim one.0 as (λ b. (((b ≡ true) ↔ ((r : R) × (Starts w r × (week_of r < w + 1))))
          → (b : Bool) × GoesCounted week_of w b)) [
            | true ↦ λ h. (
              true,
              (
                λ e. let x = h.0 refl in let f : first x.0 ≡ w = x.1.0.1 in let below : week_of x.0
                    < w + 1 = x.1.1 in (x.0, ((x.1.0.0, omega arith, x.1.0.2), omega arith)),
                λ x. refl,
              ),
            )
            | false ↦ λ h. (
              two.0,
              (
                λ e. let x = two.1.0.0 e in let f : first x.0 < w = x.1.0.1 in let below : week_of x.0 < w + 1 =
                    x.1.1.1 in (x.0, ((x.1.0.0, omega arith, x.1.1.0), omega arith)),
                λ x. let f : first x.0 ≤ w = x.1.0.1 in let l : w < last x.0 = x.1.0.2 in let below : week_of x.0 ≤ w
                    = x.1.1 in
                    elim (cases_lt (first x.0) w) [
                      | inl earlier ↦ two.1.0.1 (x.0, ((x.1.0.0, earlier, omega arith), (l, omega arith)))
                      | inr here ↦ absurd (let y : false ≡ true = h.1 (x.0, ((x.1.0.0, omega arith, l), omega arith))
                          in cc)
                    ],
              ),
            )
          ] one.1.0

      module _ (b e : Bool) (before : CameCounted week_of w b) (after : GoesCounted week_of w e) where
        came_at : (r : R) → Enters w r → (b ≡ true) ↔ (week_of r < w)
        came_at r h = (
          λ x. let y = before.0 x in subst (λ (z : R). week_of z < w) (enters_alone w y.0 r y.1.0 h)
              y.1.1,
          λ x. before.1 (r, (h, x)),
        )

        goes_at : (r : R) → Leaves w r → (e ≡ true) ↔ (week_of r ≤ w)
        goes_at r h = (
          λ x. let y = after.0 x in subst (λ (z : R). week_of z ≤ w) (alone w y.0 r y.1.0 h) y.1.1,
          λ x.
              after.1 (r, (h, x)),
        )

        through_at : (r : R) → Enters w r → (week.through ≡ true) ↔ (w < last r)
        through_at r h = (
          λ x. let y = is.through.0 x in subst (λ (z : R). w < last z) (enters_alone w y.0 r y.1.0 h)
              y.1.1,
          λ x. is.through.1 (r, (h, x)),
        )

        -- the outcome of a week is computed from its description
        pub counted_is : AreCounted is_regular (CountedIn week_of w) (counted_of week b e)
        counted_is =
            let T : R → Type 0 = λ r. week_of r ≡ w in
            let P : R → Type 0 = λ r. Inside w r ⊎ (Enters w r × T r) in
            let one : AreCounted is_regular P (plus_where (not b && (not week.through || e)) week.entering
            week.inside) =
            case_where R is_regular (Inside w) (Enters w) T (not b && (not week.through || e)) week.entering
            week.inside is.entering (enters_alone w)
            (λ r h i. let x : first r < w = h.1 in let y : first r ≡ w = i.1 in absurd (omega arith))
            (λ r h. entering_test b week.through e (week_of r) w (last r) (came_at r h) (through_at r h)
            (λ l. let x : first r < w = h.1 in goes_at r (h.0, omega arith, l)) (choice r h.0).1)
            is.inside in
            let two : AreCounted is_regular (λ r. P r ⊎ (Starts w r × T r)) (counted_of week b e) =
            case_where R is_regular P (Starts w) T e week.starting (plus_where (not b && (not week.through || e))
            week.entering week.inside) is.starting (starts_alone w)
            (λ r h i. let y : first r ≡ w = h.1 in let z : w < last r = h.2 in elim i [
              | inl inside ↦ absurd (let x : last r ≡ w = inside.2 in omega arith)
              | inr enters ↦ absurd (let x : first r < w = enters.0.1 in omega arith)
            ])
            (λ r h. let y : first r ≡ w = h.1 in let c : first r ≤ week_of r = (choice r h.0).0 in
            let g = goes_at r (h.0, omega arith, h.2) in
            (λ x. let z : week_of r ≤ w = g.0 x in omega arith, λ x. let z : week_of r ≡ w = x in g.1 (omega arith)))
            one in
            case_agree R is_regular (λ r. P r ⊎ (Starts w r × T r)) (CountedIn week_of w) (counted_of week b e)
            (λ r. (
              λ x. elim x [
                | inl p ↦ elim p [
                  | inl inside ↦ let i : first r ≡ w = inside.1 in let j : last r ≡ w = inside.2 in
                      let c : first r ≤ week_of r = (choice r inside.0).0 in let d : week_of r ≤ last r =
                      (choice r inside.0).1 in (inside.0, omega arith)
                  | inr enters ↦ (enters.0.0, enters.1)
                ]
                | inr starts ↦ (starts.0.0, starts.1)
              ],
              λ x. let at : week_of r ≡ w = x.1 in
                  let c : first r ≤ week_of r = (choice r x.0).0 in let d : week_of r ≤ last r = (choice r x.0).1 in
                  elim (cases_lt (first r) w) [
                    | inl earlier ↦ inl (inr ((x.0, earlier, omega arith), at))
                    | inr here ↦ elim (cases_lt w (last r)) [
                      | inl later ↦ inr ((x.0, omega arith, later), at)
                      | inr ends ↦ inl (inl (x.0, omega arith, omega arith))
                    ]
                  ],
            )) two

        pub may_is : may week b e ≡ true
        may_is = and_from (not e || (week.through || is_some week.starting)) (not (week.through && b) || e)
            (elim (cases_Bool e) [
              | inl yes' ↦
                  let x = after.0 yes' in
                  let f : first x.0 ≤ w = x.1.0.1 in let l : w < last x.0 = x.1.0.2 in
                  or_right (not e) (week.through || is_some week.starting) (elim (cases_lt (first x.0) w) [
                    | inl earlier ↦ or_left week.through (is_some week.starting)
                        ((through_at x.0 (x.1.0.0, earlier, omega arith)).1 l)
                    | inr here ↦ or_right week.through (is_some week.starting) (edge_some (Starts w) week.starting x.0
                        is.starting (x.1.0.0, omega arith, l))
                  ])
              | inr no' ↦ or_left (not e) (week.through || is_some week.starting) (rw no' refl)
            ])
            (elim (cases_Bool (week.through && b)) [
              | inl both ↦ or_right (not (week.through && b)) e
                  (let parts = and_parts week.through b both in
                  let x = is.through.0 parts.0 in
                  let c : week_of x.0 < w = (came_at x.0 x.1.0).0 parts.1 in
                  let f : first x.0 < w = x.1.0.1 in
                  after.1 (x.0, ((x.1.0.0, omega arith, x.1.1), omega arith)))
              | inr no' ↦ or_left (not (week.through && b)) e (rw no' refl)
            ])

      -- the same choice, changed for a rest that crosses the week's end and isn't counted before this week
      abbrev now_at : Bool → R → ℕ
      now_at e r = cond (leb (first r) w && (ltb w (last r) && leb w (week_of r))) (cond e w (w + 1)) (week_of r)

      -- the rest's week is changed, or it stays
      now_cases : (e : Bool) (r : R)
          → ((first r ≤ w) × (w < last r) × (w ≤ week_of r) × (now_at e r ≡ cond e w (w + 1)))
          ⊎ ((first r ≤ w → w < last r → w ≤ week_of r → ⊥) × (now_at e r ≡ week_of r))
      now_cases e r = elim (cases_Bool (leb (first r) w && (ltb w (last r) && leb w (week_of r)))) [
        | inl h ↦
            let x = and_parts (leb (first r) w) (ltb w (last r) && leb w (week_of r)) h in
            let y = and_parts (ltb w (last r)) (leb w (week_of r)) x.1 in
            inl (
              leb-true (first r) w x.0,
              ltb-true w (last r) y.0,
              leb-true w (week_of r) y.1,
              cond-true (leb (first r) w && (ltb w (last r) && leb w (week_of r))) (cond e w (w + 1)) (week_of r) h,
            )
        | inr h ↦
            inr (
              λ a b c. both_ways (leb (first r) w && (ltb w (last r) && leb w (week_of r))) h
                  (and_from (leb (first r) w) (ltb w (last r) && leb w (week_of r)) (le-leb (first r) w a)
                  (and_from (ltb w (last r)) (leb w (week_of r)) (lt-ltb w (last r) b) (le-leb w (week_of r) c))),
              cond-false (leb (first r) w && (ltb w (last r) && leb w (week_of r))) (cond e w (w + 1)) (week_of r) h,
            )
      ]

      anew : (e : Bool) → (w ≤ cond e w (w + 1)) × (cond e w (w + 1) ≤ w + 1)
      anew true = (omega arith, omega arith)
      anew false = (omega arith, omega arith)

      now_choice : (e : Bool) → IsChoice (now_at e)
      now_choice e r rest = elim (now_cases e r) [
        | inl h ↦ let a : first r ≤ w = h.0 in let b : w < last r = h.1 in let c : now_at e r ≡ cond e w (w + 1) = h.3
            in let d = anew e in
            let d0 : w ≤ cond e w (w + 1) = d.0 in let d1 : cond e w (w + 1) ≤ w + 1 = d.1 in (omega arith, omega arith)
        | inr h ↦ let c : now_at e r ≡ week_of r = h.1 in let x : first r ≤ week_of r = (choice r rest).0 in let y :
            week_of r ≤ last r = (choice r rest).1 in (omega arith, omega arith)
      ]

      -- earlier weeks have the same rests as before
      now_before : (e : Bool) (v : ℕ) → v < w → (r : R) → (now_at e r ≡ v) ↔ (week_of r ≡ v)
      now_before e v below r = elim (now_cases e r) [
        | inl h ↦ let b : w ≤ week_of r = h.2 in let c : now_at e r ≡ cond e w (w + 1) = h.3 in let d0 : w ≤ cond e w
            (w + 1) = (anew e).0 in
            (λ x. absurd (omega arith), λ x. absurd (omega arith))
        | inr h ↦ let c : now_at e r ≡ week_of r = h.1 in (λ x. omega arith, λ x. omega arith)
      ]

      now_came : (b e : Bool) → CameCounted week_of w b → CameCounted (now_at e) w b
      now_came b e before = (
        λ x. let y = before.0 x in (
          y.0,
          (
            y.1.0,
            (let f : week_of y.0 < w = y.1.1 in let m : now_at e y.0 ≡ week_of
                y.0 = (now_before e (week_of y.0) f y.0).1 refl in omega arith),
          ),
        ),
        λ y. before.1 (
          y.0,
          (
            y.1.0,
            (let f : now_at e y.0 < w = y.1.1 in let m : week_of y.0 ≡ now_at e y.0 =
                (now_before e (now_at e y.0) f y.0).0 refl in omega arith),
          ),
        ),
      )

      now_goes : (b e : Bool) → CameCounted week_of w b → may week b e ≡ true → GoesCounted (now_at e) w e
      now_goes b true before allowed =
          let parts = and_parts (week.through || is_some week.starting) (not (week.through && b) || true) allowed in
          let at : (r : R) → Leaves w r → now_at true r ≤ w = λ r l. elim (now_cases true r) [
            | inl h ↦ let c : now_at true r ≡ w = h.3 in omega arith
            | inr h ↦ elim (cases_lt w (week_of r)) [
              | inl late ↦ absurd (h.0 l.1 l.2 (omega arith))
              | inr early ↦ let c : now_at true r ≡ week_of r = h.1 in omega arith
            ]
          ] in (
            λ x. elim (or_cases week.through (is_some week.starting) parts.0) [
              | inl t ↦ let y = is.through.0 t in let f : first y.0 < w = y.1.0.1 in
                  let l : Leaves w y.0 = (y.1.0.0, omega arith, y.1.1) in (y.0, (l, at y.0 l))
              | inr s ↦ let y = some_edge (Starts w) week.starting is.starting s in let f : first y.0 ≡ w = y.1.1 in
                  let l : Leaves w y.0 = (y.1.0, omega arith, y.1.2) in (y.0, (l, at y.0 l))
            ],
            λ x. refl,
          )
      now_goes b false before allowed = (
        λ x. absurd (let y : false ≡ true = x in cc),
        λ y. absurd (
            let l : w < last y.0 = y.1.0.2 in
            let f : first y.0 ≤ w = y.1.0.1 in
            let g : now_at false y.0 ≤ w = y.1.1 in
            elim (now_cases false y.0) [
              | inl h ↦ let c : now_at false y.0 ≡ w + 1 = h.3 in omega arith
              | inr h ↦ elim (cases_lt (week_of y.0) w) [
                | inr late ↦ h.0 f l late
                | inl early ↦
                    let c : first y.0 ≤ week_of y.0 = (choice y.0 y.1.0.0).0 in
                    let enters : Enters w y.0 = (y.1.0.0, omega arith, omega arith) in
                    let t : week.through ≡ true = is.through.1 (y.0, (enters, l)) in
                    let b' : b ≡ true = before.1 (y.0, (enters, early)) in
                    let n : (not (week.through && b) || false) ≡ true = allowed in
                    both_ways (week.through && b) (not-true (week.through && b) (or_false (not (week.through && b))
                    n)) (and_from week.through b t b')
              ]
            ]),
      )

    -- the rest that crosses the start of the first week can be counted before it, or not
    first_came : (w : ℕ) (week : WeeklyRests) → IsWeek w week → (b : Bool) → (b ≡ true → is_some week.entering ≡ true)
        → (week_of : R → ℕ) × (IsChoice week_of × CameCounted week_of w b)
    first_came w week is true comes =
        let x = some_edge (Enters w) week.entering is.entering (comes refl) in
        (first, ((λ r rest. (omega arith, order r rest)), (λ e. (x.0, (x.1, x.1.1)), λ y. refl)))
    first_came w week is false comes = (
      last,
      (
        (λ r rest. (order r rest, omega arith)),
        (
          λ e. absurd (let h : false ≡ true = e in cc),
          λ y. absurd (let a : w ≤ last y.0 = y.1.0.2 in let b : last y.0 < w = y.1.1 in omega arith),
        ),
      ),
    )

    -- the rest that crosses a week's end crosses the next week's start
    goes_comes : (week_of : R → ℕ) (w : ℕ) (b : Bool) → GoesCounted week_of w b → CameCounted week_of (w + 1) b
    goes_comes week_of w b goes = (
      λ e. let x = goes.0 e in let f : first x.0 ≤ w = x.1.0.1 in let l : w < last x.0 = x.1.0.2 in let g : week_of
          x.0 ≤ w = x.1.1 in (x.0, ((x.1.0.0, omega arith, omega arith), omega arith)),
      λ x. let f : first x.0 < w + 1 = x.1.0.1 in let l : w + 1 ≤ last x.0 = x.1.0.2 in let g : week_of x.0 < w + 1 =
          x.1.1 in goes.1 (x.0, ((x.1.0.0, omega arith, omega arith), omega arith)),
    )

    same_tests_of : (P : Type 0) (a b : Bool) → (a ≡ true) ↔ P → (b ≡ true) ↔ P → a ≡ b
    same_tests_of P a b f g = same_tests a b (λ e. g.1 (f.0 e)) (λ e. f.1 (g.0 e))

    -- a choice that counts the same rests in two weeks is valid for them too
    serves_agree : (f g : R → ℕ) (v : ℕ) → ((r : R) → (f r ≡ v) ↔ (g r ≡ v))
        → ((r : R) → (f r ≡ v + 1) ↔ (g r ≡ v + 1)) → Serves f v → Serves g v
    serves_agree f g v here next (inl whole) = inl whole
    serves_agree f g v here next (inr (inl whole)) = inr (inl whole)
    serves_agree f g v here next (inr (inr h)) =
        let move : (r : R) → CountedIn f v r ⊎ CountedIn f (v + 1) r → CountedIn g v r ⊎ CountedIn g (v + 1) r = λ r
        x. elim x [ inl a ↦ inl (a.0, (here r).0 a.1) | inr b ↦ inr (b.0, (next r).0 b.1) ] in
        inr (inr (h.0, (h.1.0, (move h.0 h.1.1.0, move h.1.0 h.1.1.1, h.1.1.2, h.1.1.3))))

    apart : (f : R → ℕ) (v : ℕ) (r : R) → CountedIn f v r → CountedIn f (v + 1) r → ⊥
    apart f v r a b = let x : f r ≡ v = a.1 in let y : f r ≡ v + 1 = b.1 in absurd (omega arith)

    -- true if something is required of a week and the next
    abbrev pub Asks : ℕ → Bool → Type 0
    Asks v asks = (asks ≡ true → (Whole v → ⊥) × (Whole (v + 1) → ⊥)) × (asks ≡ false → Whole v ⊎ Whole (v + 1))

    module _ (same_or_not : (r s : R) → (r ≡ s) ⊎ (r ≢ s)) where
      served_is : (f : R → ℕ) (v : ℕ) (asks : Bool) (a b : Counted) → Asks v asks
          → AreCounted is_regular (CountedIn f v) a → AreCounted is_regular (CountedIn f (v + 1)) b
          → Serves f v ↔ (asks ≡ true → serves a b ≡ true)
      served_is f v true a b is x y =
          let law = serves_is R is_regular (CountedIn f v) (CountedIn f (v + 1)) a b (apart f v) same_or_not x y in (
            λ h e. elim h [
              | inl whole ↦ absurd ((is.0 refl).0 whole)
              | inr h ↦ elim h [ inl whole ↦ absurd ((is.0 refl).1 whole) | inr two ↦ law.1 two ]
            ],
            λ h. inr (inr (law.0 (h refl))),
          )
      served_is f v false a b is x y = (
        λ h e. absurd (let k : false ≡ true = e in cc),
        λ h. elim (is.1 refl) [ inl whole ↦ inl whole | inr whole ↦ inr (inl whole) ],
      )

      -- one week's step is exact
      module _ (a u : ℕ) (from : a ≤ u) (old new : WeeklyRests) (was : IsWeek u old) (is : IsWeek (u + 1) new)
          (asks : Bool) (pair : Asks u asks) (t : Outcome) where
        pub step_reaches : (s : Outcome) → CanReach a u s → IsNext new asks s t → CanReach a (u + 1) t
        step_reaches s r next =
            let f : R → ℕ = r.week_of in
            let came : CameCounted f (u + 1) s.crossing = goes_comes f u s.crossing r.outcome.crossing in
            let g : R → ℕ = now_at f r.choice (u + 1) new is t.crossing in
            let choice : IsChoice g = now_choice f r.choice (u + 1) new is t.crossing in
            let came' : CameCounted g (u + 1) s.crossing = now_came f r.choice (u + 1) new is s.crossing t.crossing
            came in
            let goes : GoesCounted g (u + 1) t.crossing = now_goes f r.choice (u + 1) new is s.crossing t.crossing
            came next.allowed in
            let same : (v : ℕ) → v < u + 1 → (r : R) → (g r ≡ v) ↔ (f r ≡ v) = now_before f r.choice (u + 1) new is
            t.crossing in
            let back : (v : ℕ) → v < u + 1 → (r : R) → (f r ≡ v) ↔ (g r ≡ v) = λ v b r.
            ((same v b r).1, (same v b r).0) in
            let mine : AreCounted is_regular (CountedIn g (u + 1)) t.counted =
            subst (AreCounted is_regular (CountedIn g (u + 1))) (sym next.counted) (counted_is g choice (u + 1) new is
            s.crossing t.crossing came' goes) in
            let theirs : AreCounted is_regular (CountedIn g u) s.counted =
            case_agree R is_regular (CountedIn f u) (CountedIn g u) s.counted
            (λ r. (λ x. (x.0, (back u (omega arith) r).0 x.1), λ x. (x.0, (back u (omega arith) r).1 x.1)))
            r.outcome.counted in
            record {
              week_of = g;
              choice = choice;
              each = λ v above below. elim (cases_lt v u) [
                | inl earlier ↦ serves_agree f g v (back v (omega arith)) (back (v + 1) (omega arith))
                    (r.each v above (omega arith))
                | inr here ↦ let e : u ≡ v = omega arith in subst (Serves g) e
                    ((served_is g u asks s.counted t.counted pair theirs mine).1 next.served)
              ];
              outcome = record { counted = mine; crossing = goes };
            }

        pub reached_steps : CanReach a (u + 1) t → (s : Outcome) × (CanReach a u s × IsNext new asks s t)
        reached_steps r =
            let f : R → ℕ = r.week_of in
            let before = came f r.choice u old was in
            let at = goes f r.choice u old was in
            let s : Outcome = record { counted = counted_of old before.0 at.0; crossing = at.0 } in
            let theirs : AreCounted is_regular (CountedIn f u) s.counted = counted_is f r.choice u old was before.0
            at.0 before.1.0 at.1 in
            let came' : CameCounted f (u + 1) at.0 = goes_comes f u at.0 at.1 in (
              s,
              (
                record {
                  week_of = f;
                  choice = r.choice;
                  each = λ v above below. r.each v above (omega arith);
                  outcome = record { counted = theirs; crossing = at.1 };
                },
                record {
                  allowed = may_is f r.choice (u + 1) new is at.0 t.crossing came' r.outcome.crossing;
                  counted = case_same R is_regular (CountedIn f (u + 1)) t.counted (counted_of new at.0 t.crossing)
                      r.outcome.counted (counted_is f r.choice (u + 1) new is at.0 t.crossing came' r.outcome.crossing);
                  served = (served_is f u asks s.counted t.counted pair theirs r.outcome.counted).0
                      (r.each u from (omega arith));
                },
              ),
            )

      -- the first week: nothing is required before it
      module _ (a : ℕ) (week : WeeklyRests) (is : IsWeek a week) (t : Outcome) where
        pub first_reaches : IsFirst week t → CanReach a a t
        first_reaches h =
            let x = first_came a week is h.before h.comes in
            let f : R → ℕ = x.0 in
            let g : R → ℕ = now_at f x.1.0 a week is t.crossing in
            let choice : IsChoice g = now_choice f x.1.0 a week is t.crossing in
            let came' : CameCounted g a h.before = now_came f x.1.0 a week is h.before t.crossing x.1.1 in
            let goes : GoesCounted g a t.crossing = now_goes f x.1.0 a week is h.before t.crossing x.1.1 h.allowed in
            record {
              week_of = g;
              choice = choice;
              each = λ v above below. absurd (omega arith);
              outcome = record {
                counted = subst (AreCounted is_regular (CountedIn g a)) (sym h.counted) (counted_is g choice a week is
                    h.before t.crossing came' goes);
                crossing = goes;
              };
            }

        pub reached_first : CanReach a a t → IsFirst week t
        reached_first r =
            let f : R → ℕ = r.week_of in
            let before = came f r.choice a week is in
            record {
              before = before.0;
              comes = before.1.1;
              allowed = may_is f r.choice a week is before.0 t.crossing before.1.0 r.outcome.crossing;
              counted = case_same R is_regular (CountedIn f a) t.counted (counted_of week before.0 t.crossing)
                  r.outcome.counted (counted_is f r.choice a week is before.0 t.crossing before.1.0 r.outcome.crossing);
            }

      -- some choice is valid iff it leaves some outcome
      pub serve_reaches : (a u : ℕ) (week : WeeklyRests) → IsWeek u week → CanServe a u → (s : Outcome) × CanReach a u s
      serve_reaches a u week is h =
          let before = came h.week_of h.choice u week is in
          let at = goes h.week_of h.choice u week is in (
            record { counted = counted_of week before.0 at.0; crossing = at.0 },
            record {
              week_of = h.week_of;
              choice = h.choice;
              each = h.each;
              outcome = record {
                counted = counted_is h.week_of h.choice u week is before.0 at.0 before.1.0 at.1;
                crossing = at.1;
              };
            },
          )

    pub reach_serves : (a u : ℕ) (s : Outcome) → CanReach a u s → CanServe a u
    reach_serves a u s r = record { week_of = r.week_of; choice = r.choice; each = r.each }

    pub serves_before : (a u v : ℕ) → v ≤ u → CanServe a u → CanServe a v
    serves_before a u v le h = record {
      week_of = h.week_of;
      choice = h.choice;
      each = λ w above below. h.each w above
          (omega arith);
    }

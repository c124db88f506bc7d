-- Ten booleans as a set of outcomes (specs/Step, Holds), and one week's step on them.
use Rattle.std.proofs.Common.{◌≡◌, ◌≢◌, ℕ, zero, suc, ◌+◌, ◌<◌, ◌≤◌, ◌⊎◌, inl, inr, refl, sym, ap, subst, ◌∙◌, arith}
use Rattle.std.proofs.Common.{Bool, true, false, List, [], ◌∷◌, length, get_or, set, get_or-set_other, get_or-set_same}
use Rattle.std.specs.Prelude.{◌↔◌}
use Rattle.std.proofs.lemmas.Bool.{cases_eq, cases_Bool}
use Rattle.tacho_choice.specs.declared.counted.Counted.{Counted}
use Rattle.tacho_choice.specs.declared.counted.Counted.TheVariants.{Nothing, One, More}
use Rattle.tacho_choice.specs.declared.outcome.Outcome.{Outcome}
use Rattle.tacho_choice.specs.declared.weekly_rests.WeeklyRests.{WeeklyRests}
use Rattle.tacho_choice.specs.Step.{counted_of, first_place, may, serves, place_of_counted, place_of, HasOutcome, IsNext}
use Rattle.tacho_choice.specs.Step.{IsLedTo}

-- the case with this number, of the five
abbrev counted_at : ℕ → Counted
counted_at zero = Nothing
counted_at (suc zero) = One false
counted_at (suc (suc zero)) = One true
counted_at (suc (suc (suc zero))) = More false
counted_at (suc (suc (suc (suc n)))) = More true

counted_back : (g : Counted) → counted_at (place_of_counted g) ≡ g
counted_back Nothing = refl
counted_back (One false) = refl
counted_back (One true) = refl
counted_back (More false) = refl
counted_back (More true) = refl

counted_below : (g : Counted) → place_of_counted g < 5
counted_below Nothing = omega arith
counted_below (One false) = omega arith
counted_below (One true) = omega arith
counted_below (More false) = omega arith
counted_below (More true) = omega arith

pub place_below : (s : Outcome) → place_of s < 10
place_below s = elim (cases_Bool s.crossing) [
  | inl e ↦ rw e (let b : place_of_counted s.counted < 5 = counted_below s.counted in omega arith)
  | inr e ↦ rw e (let b : place_of_counted s.counted < 5 = counted_below s.counted in omega arith)
]

same_outcome : (a b : Outcome) → a.counted ≡ b.counted → a.crossing ≡ b.crossing → a ≡ b
same_outcome a b e f =
    let one : Counted → Outcome = λ x. record { counted = x; crossing = a.crossing } in
    let two : Bool → Outcome = λ x. record { counted = b.counted; crossing = x } in
    ap one e ∙ ap two f

place_apart : (g h : Counted) (x y : Bool) → place_of (record { counted = g; crossing = x }) ≡ place_of
    (record { counted = h; crossing = y }) → (place_of_counted g ≡ place_of_counted h) × (x ≡ y)
place_apart g h true true e = (omega arith, refl)
place_apart g h false false e = (omega arith, refl)
place_apart g h true false e = absurd (let b : place_of_counted h < 5 = counted_below h in omega arith)
place_apart g h false true e = absurd (let b : place_of_counted g < 5 = counted_below g in omega arith)

pub place_only : (a b : Outcome) → place_of a ≡ place_of b → a ≡ b
place_only a b e =
    let x = place_apart a.counted b.counted a.crossing b.crossing e in
    same_outcome a b (sym (counted_back a.counted) ∙ (ap counted_at x.0 ∙ counted_back b.counted)) x.1

holds_set : (outcomes : List Bool) (s new : Outcome) → length outcomes ≡ 10 → HasOutcome (set outcomes (place_of s) true)
    new ↔ (HasOutcome outcomes new ⊎ (new ≡ s))
holds_set outcomes s new size =
    let within : place_of s < length outcomes = let b : place_of s < 10 = place_below s in omega arith in
    elim (cases_eq (place_of s) (place_of new)) [
      | inl e ↦ (
        λ h. inr (place_only new s (sym e)),
        λ h. subst (λ (k : ℕ). get_or (set outcomes (place_of s) true) k
            false ≡ true) e (get_or-set_same outcomes (place_of s) true false within),
      )
      | inr ne ↦ (
        λ h. let back : place_of new ≢ place_of s = λ e. ne (sym e) in inl
            (sym (get_or-set_other outcomes (place_of s) (place_of new) true false back) ∙ h),
        λ h. elim h [
          | inl before ↦ let back : place_of new ≢ place_of s = λ e. ne (sym e) in get_or-set_other outcomes
              (place_of s) (place_of new) true false back ∙ before
          | inr same ↦ absurd (ne (sym (ap place_of same)))
        ],
      )
    ]

-- each of the ten places is that of an outcome
pub at_place : (k : ℕ) → k < 10 → (s : Outcome) × (place_of s ≡ k)
at_place zero b = (record { counted = Nothing; crossing = false }, refl)
at_place (suc zero) b = (record { counted = One false; crossing = false }, refl)
at_place (suc (suc zero)) b = (record { counted = One true; crossing = false }, refl)
at_place (suc (suc (suc zero))) b = (record { counted = More false; crossing = false }, refl)
at_place (suc (suc (suc (suc zero)))) b = (record { counted = More true; crossing = false }, refl)
at_place (suc (suc (suc (suc (suc zero))))) b = (record { counted = Nothing; crossing = true }, refl)
at_place (suc (suc (suc (suc (suc (suc zero)))))) b = (record { counted = One false; crossing = true }, refl)
at_place (suc (suc (suc (suc (suc (suc (suc zero))))))) b = (record { counted = One true; crossing = true }, refl)
at_place (suc (suc (suc (suc (suc (suc (suc (suc zero)))))))) b =
    (record { counted = More false; crossing = true }, refl)
at_place (suc (suc (suc (suc (suc (suc (suc (suc (suc zero))))))))) b =
    (record { counted = More true; crossing = true }, refl)
at_place (suc (suc (suc (suc (suc (suc (suc (suc (suc (suc n)))))))))) b = absurd (omega arith)

pub some_holds : (outcomes : List Bool) (k : ℕ) → k < 10 → get_or outcomes k false ≡ true
    → (s : Outcome) × HasOutcome outcomes s
some_holds outcomes k b h =
    let x = at_place k b in
    (x.0, subst (λ (j : ℕ). get_or outcomes j false ≡ true) (sym x.1) h)

pub first_few : (b : Bool) → first_place b ≤ 5
first_few true = omega arith
first_few false = omega arith

crossing_by : (c : Bool) (n : ℕ) (b : Bool) → n < 5 → first_place b ≤ n + first_place c
    → n + first_place c < first_place b + 5
    → c ≡ b
crossing_by true n true few above below = refl
crossing_by true n false few above below = absurd (omega arith)
crossing_by false n true few above below = absurd (omega arith)
crossing_by false n false few above below = refl

-- an outcome in the set, with this `crossing`, that is valid together with what the next week counts
abbrev pub Leads : Bool → List Bool → Bool → Counted → Outcome → Type 0
Leads asks outcomes crossing counted old =
    HasOutcome outcomes old × (old.crossing ≡ crossing) × (asks ≡ true → serves old.counted counted ≡ true)

module _ (asks : Bool) (outcomes : List Bool) (crossing : Bool) (counted : Counted) where
  -- no outcome at one of the first n places does that
  abbrev pub NoneLeads : ℕ → Type 0
  NoneLeads n = (old : Outcome) → Leads asks outcomes crossing counted old → place_of old < n → ⊥

  pub leads_at : (old : Outcome) (n : ℕ) → place_of old ≡ n → first_place crossing ≤ n → n < first_place crossing + 5
      → get_or outcomes n false ≡ true → (asks ≡ true → serves old.counted counted ≡ true)
      → (o : Outcome) × Leads asks outcomes crossing counted o
  leads_at old n at above below held served = (
    old,
    (
      subst (λ (k : ℕ). get_or outcomes k false ≡ true) (sym at) held,
      crossing_by old.crossing (place_of_counted old.counted) crossing (counted_below old.counted) (omega arith)
          (omega arith),
      served,
    ),
  )

module _ (outcomes old : List Bool) (week : WeeklyRests) (asks before after allows : Bool) (counted : Counted)
    (is : counted ≡ counted_of week before after) (may_is : allows ≡ may week before after) where
  led_counted : (new : Outcome) → IsLedTo week asks old before after new → new.counted ≡ counted
  led_counted new (at, (o, (held, from, next))) =
      let one : new.counted ≡ counted_of week before new.crossing =
      subst (λ (b : Bool). new.counted ≡ counted_of week b new.crossing) from next.counted in
      subst (λ (b : Bool). new.counted ≡ counted_of week before b) at one ∙ sym is

  -- or one outcome is added
  pub reach_put : (place : ℕ) → length outcomes ≡ 10 → allows ≡ true → ((o : Outcome) × Leads asks old before counted o)
      → place ≡ place_of (record { counted = counted; crossing = after }) → (new : Outcome)
      → HasOutcome (set outcomes place true) new ↔ (HasOutcome outcomes new ⊎ IsLedTo week asks old before after new)
  reach_put place size allowed (o, (held, from, served)) at new =
      let s : Outcome = record { counted = counted; crossing = after } in
      let two : HasOutcome (set outcomes place true) new ↔ (HasOutcome outcomes new ⊎ (new ≡ s)) =
      subst (λ (k : ℕ). HasOutcome (set outcomes k true) new ↔ (HasOutcome outcomes new ⊎ (new ≡ s))) (sym at)
      (holds_set outcomes s new size) in
      let led : IsLedTo week asks old before after s = (
        refl,
        (
          o,
          (
            held,
            from,
            record {
              allowed = subst (λ (b : Bool). may week b after ≡ true) (sym from) (sym may_is ∙ allowed);
              counted = subst (λ (b : Bool). counted ≡ counted_of week b after) (sym from) is;
              served = served;
            },
          ),
        ),
      ) in (
        λ h. elim (two.0 h) [
          | inl earlier ↦ inl earlier
          | inr same ↦ inr (subst (IsLedTo week asks old before after) (sym same) led)
        ],
        λ h. two.1 (elim h [
          | inl earlier ↦ inl earlier
          | inr next ↦ inr (same_outcome new s (led_counted new next) next.0)
        ]),
      )

-- the empty set of outcomes
abbrev pub no_outcomes : List Bool
no_outcomes = false ∷ false ∷ false ∷ false ∷ false ∷ false ∷ false ∷ false ∷ false ∷ false ∷ []

none_held : (counted : Counted) (crossing : Bool)
    → HasOutcome no_outcomes (record { counted = counted; crossing = crossing })
    → ⊥
none_held Nothing true h = let e : false ≡ true = h in cc
none_held Nothing false h = let e : false ≡ true = h in cc
none_held (One true) true h = let e : false ≡ true = h in cc
none_held (One true) false h = let e : false ≡ true = h in cc
none_held (One false) true h = let e : false ≡ true = h in cc
none_held (One false) false h = let e : false ≡ true = h in cc
none_held (More true) true h = let e : false ≡ true = h in cc
none_held (More true) false h = let e : false ≡ true = h in cc
none_held (More false) true h = let e : false ≡ true = h in cc
none_held (More false) false h = let e : false ≡ true = h in cc

pub holds_none : (new : Outcome) → HasOutcome no_outcomes new → ⊥
holds_none new h = none_held new.counted new.crossing h

-- the step adds what is reached in each of the four ways
pub step_four : (week : WeeklyRests) (asks : Bool) (old none one two three four : List Bool)
    → ((new : Outcome) → HasOutcome none new → ⊥)
    → ((new : Outcome) → HasOutcome one new ↔ (HasOutcome none new ⊎ IsLedTo week asks old false false new))
    → ((new : Outcome) → HasOutcome two new ↔ (HasOutcome one new ⊎ IsLedTo week asks old false true new))
    → ((new : Outcome) → HasOutcome three new ↔ (HasOutcome two new ⊎ IsLedTo week asks old true false new))
    → ((new : Outcome) → HasOutcome four new ↔ (HasOutcome three new ⊎ IsLedTo week asks old true true new))
    → (new : Outcome) → HasOutcome four new ↔ ((o : Outcome) × (HasOutcome old o × IsNext week asks o new))
step_four week asks old none one two three four empty a b c d new =
    let back : (x y : Bool) → IsLedTo week asks old x y new → (o : Outcome) × (HasOutcome old o × IsNext week asks o new) =
    λ x y led. let (at, (o, (held, from, next))) = led in (o, (held, next)) in (
      λ h4. elim ((d new).0 h4) [
        | inr led ↦ back true true led
        | inl h3 ↦ elim ((c new).0 h3) [
          | inr led ↦ back true false led
          | inl h2 ↦ elim ((b new).0 h2) [
            | inr led ↦ back false true led
            | inl h1 ↦ elim ((a new).0 h1) [ inr led ↦ back false false led | inl h0 ↦ absurd (empty new h0) ]
          ]
        ]
      ],
      λ x. elim (cases_Bool x.0.crossing) [
        | inl from ↦ elim (cases_Bool new.crossing) [
          | inl at ↦ (d new).1 (inr (at, (x.0, (x.1.0, from, x.1.1))))
          | inr at ↦ (d new).1 (inl ((c new).1 (inr (at, (x.0, (x.1.0, from, x.1.1))))))
        ]
        | inr from ↦ elim (cases_Bool new.crossing) [
          | inl at ↦ (d new).1 (inl ((c new).1 (inl ((b new).1 (inr (at, (x.0, (x.1.0, from, x.1.1))))))))
          | inr at ↦ (d new).1 (inl
              ((c new).1 (inl ((b new).1 (inl ((a new).1 (inr (at, (x.0, (x.1.0, from, x.1.1))))))))))
        ]
      ],
    )

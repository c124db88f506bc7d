-- The pass over weeks finds the breaches of driving in a week and in two (`weeks`).
use Rattle.std.proofs.Common.{◌≡◌, ℕ, ◌+◌, ◌<◌, ◌≤◌, ◌⊎◌, ◌↔◌, inl, inr, List}
use Rattle.std.proofs.Common.{[], ◌∷◌, ◌++◌, refl, sym, subst, ◌∙◌, arith}
use Rattle.std.specs.List.{AllPairs, Contains}
use Rattle.std.proofs.lemmas.Bool.{cases_lt}
use Rattle.tacho_time.specs.declared.span.Activity.{Activity}
use Rattle.tacho_time.specs.declared.span.Activity.TheVariants.{Rest, Drive}
use Rattle.tacho_time.specs.declared.span.Span.{Span}
use Rattle.tacho_law.specs.declared.breach.Breach.{Breach}
use Rattle.tacho_law.specs.declared.breach.Kind.{Kind}
use Rattle.tacho_law.specs.declared.breach.Kind.TheVariants.{B1, B2, B3, B4, B5, B6, B7, B8, B9, B10}
use Rattle.tacho_law.specs.Line.{IsExamined, line_of}
use Rattle.tacho_law.specs.Driving.{driving, IsDrivingMinute}
use Rattle.tacho_law.specs.Weeks.{week_start}
use Rattle.tacho_law.specs.Order.{Apart, Earlier}
use Rattle.tacho_law.specs.SoFar.{AreCollected}
use Rattle.tacho_law.proofs.ExactlyLemmas.{exactly_none, exactly_as, exactly_skip, exactly_add}
use Rattle.tacho_law.specs.Breaches.{IsB6, IsB7, IsWeekBreach, AreWeekBreaches}
use Rattle.tacho_law.proofs.DrivingLemmas.{line_from_past}
use Rattle.tacho_law.proofs.RunsLemmas.{line_before}
use Rattle.tacho_law.proofs.LongDrivingLemmas.{too_much_only, too_little}
use Rattle.tacho_plain.specs.WeekBreaches.{IsLongWeek, IsLongPair, IsOfWeeks, AreOfWeeks}

-- the breaches of the earlier weeks, and the week's own breach
abbrev pub WithWeek : (ℕ → Activity) → ℕ → ℕ → List Breach → Type 0
WithWeek line first n found = AreCollected (λ breach. IsOfWeeks line first n breach ⊎ IsLongWeek line n breach) found

-- before the first week
pub weeks_none : (line : ℕ → Activity) (first : ℕ) → AreOfWeeks line first first []
weeks_none line first = exactly_none (λ breach. IsOfWeeks line first first breach) Apart (λ breach h.
    let a : first ≤ h.week = h.from in let b : h.week < first = h.before in omega arith)

module _ (line : ℕ → Activity) (first n : ℕ) (found : List Breach) where
  -- the breach of an earlier week has an earlier since
  earlier_since : (breach : Breach) → IsOfWeeks line first n breach → breach.since < week_start n
  earlier_since breach h = let b : h.week < n = h.before in elim h.is [
    | inl one ↦ let e : breach.since ≡ week_start h.week = one.since in omega arith
    | inr two ↦ let e : breach.since ≡ week_start h.week = two.since in omega arith
  ]

  -- the week has no breach of its own
  pub week_skip : AreOfWeeks line first n found
      → driving line (week_start n) (week_start (n + 1)) ≤ 3360 → WithWeek line first n found
  week_skip r few =
      exactly_skip (λ breach. IsOfWeeks line first n breach) (λ breach. IsLongWeek line n breach) Apart
      found r (λ breach h. too_little line B6 3360 (week_start n) (week_start (n + 1)) breach few h)

  -- the week has a breach of its own
  pub week_add : (new : Breach) → AreOfWeeks line first n found
      → IsLongWeek line n new → WithWeek line first n (found ++ new ∷ [])
  week_add new r is =
      exactly_add (λ breach. IsOfWeeks line first n breach) (λ breach. IsLongWeek line n breach) Apart found new r is
      (λ breach h. too_much_only line B6 3360 (week_start n) (week_start (n + 1)) new breach is h)
      (λ breach h agree.
      let a : breach.since < week_start n = earlier_since breach h in
      let b : breach.since ≡ new.since = agree.since in
      let c : new.since ≡ week_start n = is.since in
      omega arith)

  -- a breach of the earlier weeks, of this week, or of this week and the next
  Both : Breach → Type 0
  Both breach = (IsOfWeeks line first n breach ⊎ IsLongWeek line n breach) ⊎ IsLongPair line n breach

  -- these are the breaches of the weeks before the next one
  both_next : first ≤ n → (breach : Breach) → Both breach ↔ IsOfWeeks line first (n + 1) breach
  unfolding Both
  both_next some breach = (
    λ h. elim h [
      | inl old ↦ elim old [
        | inl before ↦ record {
          week = before.week;
          from = before.from;
          before = let b : before.week < n = before.before in omega arith;
          is = before.is;
        }
        | inr one ↦ record { week = n; from = some; before = omega arith; is = inl one }
      ]
      | inr two ↦ record { week = n; from = some; before = omega arith; is = inr two }
    ],
    λ h. elim (cases_lt h.week n) [
      | inl lt ↦ inl (inl (record { week = h.week; from = h.from; before = lt; is = h.is }))
      | inr ge ↦
          let b : h.week < n + 1 = h.before in
          let e : h.week ≡ n = omega arith in
          elim (subst (λ (w : ℕ). IsLongWeek line w breach ⊎ IsLongPair line w breach) e h.is) [
            | inl one ↦ inl (inr one)
            | inr two ↦ inr two
          ]
    ],
  )

  -- this week and the next have no breach
  pub pair_skip : first ≤ n → WithWeek line first n found
      → driving line (week_start n) (week_start (n + 2)) ≤ 5400 → AreOfWeeks line first (n + 1) found
  unfolding Both
  pair_skip some r few = exactly_as Both (λ breach. IsOfWeeks line first (n + 1) breach) Apart found (both_next some)
      (exactly_skip (λ breach. IsOfWeeks line first n breach ⊎ IsLongWeek line n breach)
      (λ breach. IsLongPair line n breach) Apart found r
      (λ breach h. too_little line B7 5400 (week_start n) (week_start (n + 2)) breach few h))

  -- this week and the next have a breach
  pub pair_add : (new : Breach) → first ≤ n → WithWeek line first n found
      → IsLongPair line n new → AreOfWeeks line first (n + 1) (found ++ new ∷ [])
  unfolding Both
  pair_add new some r is =
      exactly_as Both (λ breach. IsOfWeeks line first (n + 1) breach) Apart (found ++ new ∷ []) (both_next some)
      (exactly_add (λ breach. IsOfWeeks line first n breach ⊎ IsLongWeek line n breach)
      (λ breach. IsLongPair line n breach) Apart found new r is
      (λ breach h. too_much_only line B7 5400 (week_start n) (week_start (n + 2)) new breach is h)
      (λ breach h agree. elim h [
        | inl old ↦
            let a : breach.since < week_start n = earlier_since breach old in
            let b : breach.since ≡ new.since = agree.since in
            let c : new.since ≡ week_start n = is.since in
            omega arith
        | inr one ↦ let e : B6 ≡ B7 = sym one.kind_is ∙ (agree.kind ∙ is.kind_is) in cc
      ]))

-- a driving minute is within the examined spans
pub drives_between : (spans : List Span) (base past m from to k : ℕ) → IsExamined spans base past
    → IsDrivingMinute (line_of spans) from to k m → (base ≤ m) × (m < past)
drives_between spans base past m from to k x h = (
  elim (cases_lt m base) [
    | inl lt ↦ absurd (
        let e : line_of spans m ≡ Rest = line_before spans base past m x.joined lt in
        let f : Rest ≡ Drive = sym e ∙ h.drives in
        cc)
    | inr ge ↦ ge
  ],
  elim (cases_lt m past) [
    | inl lt ↦ lt
    | inr ge ↦ absurd (
        let e : line_of spans m ≡ Rest = line_from_past spans base past m x.joined ge in
        let f : Rest ≡ Drive = sym e ∙ h.drives in
        cc)
  ],
)

module _ (spans : List Span) (base past first end : ℕ) (x : IsExamined spans base past)
    (from : week_start (first + 1) ≡ base) (past_end : past ≤ week_start end) where
  -- a breach of the rules on weeks is one of these weeks
  in_weeks : (kind : Kind) (breach : Breach) → breach.kind ≡ kind
      → IsWeekBreach (line_of spans) kind breach → IsOfWeeks (line_of spans) first end breach
  in_weeks B6 breach e h =
      let m =
      drives_between spans base past breach.moment (week_start h.week)
      (week_start (h.week + 1)) 3361 x h.over.moment in
      let a : base ≤ breach.moment = m.0 in
      let b : breach.moment < past = m.1 in
      let c : week_start h.week ≤ breach.moment = h.over.moment.above in
      let d : breach.moment < week_start (h.week + 1) = h.over.moment.below in
      record {
        week = h.week;
        from = omega arith;
        before = omega arith;
        is = inl (record { kind_is = e; over = h.over; since = h.since });
      }
  in_weeks B7 breach e h =
      let m =
      drives_between spans base past breach.moment (week_start h.week)
      (week_start (h.week + 2)) 5401 x h.over.moment in
      let a : base ≤ breach.moment = m.0 in
      let b : breach.moment < past = m.1 in
      let c : week_start h.week ≤ breach.moment = h.over.moment.above in
      let d : breach.moment < week_start (h.week + 2) = h.over.moment.below in
      record {
        week = h.week;
        from = omega arith;
        before = omega arith;
        is = inr (record { kind_is = e; over = h.over; since = h.since });
      }
  in_weeks B1 breach e h = absurd h
  in_weeks B2 breach e h = absurd h
  in_weeks B3 breach e h = absurd h
  in_weeks B4 breach e h = absurd h
  in_weeks B5 breach e h = absurd h
  in_weeks B8 breach e h = absurd h
  in_weeks B9 breach e h = absurd h
  in_weeks B10 breach e h = absurd h

  -- a breach of one of these weeks is a breach of the rules on weeks
  of_rules : (breach : Breach) → IsOfWeeks (line_of spans) first end breach
      → IsWeekBreach (line_of spans) breach.kind breach
  of_rules breach h = elim h.is [
    | inl one ↦
        let is : IsB6 (line_of spans) breach = record { week = h.week; over = one.over; since = one.since } in
        subst (λ (kind : Kind). IsWeekBreach (line_of spans) kind breach) (sym one.kind_is) is
    | inr two ↦
        let is : IsB7 (line_of spans) breach = record { week = h.week; over = two.over; since = two.since } in
        subst (λ (kind : Kind). IsWeekBreach (line_of spans) kind breach) (sym two.kind_is) is
  ]

  -- the breaches of these weeks, put in order, are all
  pub weeks_all : (found others : List Breach) → AreOfWeeks (line_of spans) first end found
      → ((breach : Breach) → Contains others breach ↔ Contains found breach)
      → AllPairs Earlier others → AreWeekBreaches (line_of spans) others
  weeks_all found others r same order = record {
    each = λ breach. (
      λ h. of_rules breach ((r.each breach).0 ((same breach).0 h)),
      λ h. (same breach).1 ((r.each breach).1 (in_weeks breach.kind breach refl h)),
    );
    in_order = order;
  }

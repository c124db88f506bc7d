-- The breaches of a day's driving (specs/DailyDriving), when a rest run ends.
use Rattle.std.proofs.Common.{◌≡◌, ℕ, ◌<◌, ◌≤◌, ◌⊎◌, ◌↔◌, inl, inr, Bool, true, false, List, [], ◌∷◌, ◌++◌}
use Rattle.std.proofs.Common.{refl, sym, subst, ◌∙◌, arith, nat_lt, if◌then◌else◌}
use Rattle.std.specs.List.{Contains}
use Rattle.std.proofs.lemmas.Bool.Decides.{nat_tests}
use Rattle.std.proofs.lemmas.List.{append-nil, append_assoc}
use Rattle.std.proofs.lemmas.List.Elements.{Contains-push, Contains-append_left, Contains-push_cases}
use Rattle.tacho_law.specs.declared.run.Run.{Run}
use Rattle.tacho_law.specs.declared.days.DutyDay.{DutyDay}
use Rattle.tacho_law.specs.declared.breach.Breach.{Breach}
use Rattle.tacho_law.specs.declared.breach.Kind.TheVariants.{B4, B5}
use Rattle.tacho_law.specs.Line.{Line}
use Rattle.tacho_law.specs.Driving.{driving}
use Rattle.tacho_law.specs.Runs.{minutes_of, IsRestRun}
use Rattle.tacho_law.specs.SoFar.{Reached, AreCollected}
use Rattle.tacho_law.specs.Days.{IsDuty, EarlierDay}
use Rattle.tacho_law.specs.Exactly.{HasCount}
use Rattle.tacho_law.specs.Weeks.{IsInWeek}
use Rattle.tacho_law.specs.Order.{Apart}
use Rattle.tacho_law.specs.Breaches.{HasDrivingAbove, IsDrivingBreach, IsExtended}
use Rattle.tacho_law.proofs.ExactlyLemmas.{exactly_as, exactly_skip, how_many_only}
use Rattle.tacho_law.proofs.LongDrivingLemmas.{too_much_reaches}
use Rattle.tacho_pass.specs.declared.count.Count.{Count}
use Rattle.tacho_pass.specs.Found.{as_list}
use Rattle.tacho_pass.specs.Counts.{over_of, IsCounted}
use Rattle.tacho_pass.proofs.CountLemmas.{collected_over}
use Rattle.tacho_days.specs.DutyDays.{day_to, IsLastOf}
use Rattle.tacho_days.specs.DailyDriving.{IsB4Seen, IsB5Seen, IsDrivingSeen}
use Rattle.tacho_days.proofs.DutyDaysLemmas.{day_lasts, never_both, duty_new, duty_only, day_before}

-- before the first run, there is no breach
pub none_seen : (line : Line) (b : Breach) → IsDrivingSeen line [] b → ⊥
none_seen line b h = elim h [
  | inl four ↦ (let k : four.seen.0 < 0 = four.seen.1 in omega arith)
  | inr five ↦ (let k : five.seen.0 < 0 = five.seen.1 in omega arith)
]

-- one more run
module _ (line : Line) (runs : List Run) (r : Run) where
  wider : (b : Breach) → IsDrivingSeen line runs b → IsDrivingSeen line (runs ++ r ∷ []) b
  wider b h = elim h [
    | inl four ↦ inl (record {
      kind = four.kind;
      is = four.is;
      seen = Contains-append_left runs (r ∷ []) four.is.day.rest four.seen;
    })
    | inr five ↦ inr (record {
      kind = five.kind;
      is = five.is;
      seen = Contains-append_left runs (r ∷ []) five.is.day.rest five.seen;
    })
  ]

  -- a run that isn't a day's rest
  pub seen_keep : ((day : DutyDay) → IsDuty line day → r ≡ day.rest → ⊥)
      → (b : Breach) → IsDrivingSeen line runs b ↔ IsDrivingSeen line (runs ++ r ∷ []) b
  seen_keep none b = (
    λ h. wider b h,
    λ h. elim h [
      | inl four ↦ elim (Contains-push_cases runs r four.is.day.rest four.seen) [
        | inl was ↦ inl (record { kind = four.kind; is = four.is; seen = was })
        | inr same ↦ absurd (none four.is.day four.is.duty same)
      ]
      | inr five ↦ elim (Contains-push_cases runs r five.is.day.rest five.seen) [
        | inl was ↦ inr (record { kind = five.kind; is = five.is; seen = was })
        | inr same ↦ absurd (none five.is.day five.is.extended.duty same)
      ]
    ],
  )

-- a long rest after another one, which ends a day of a week; if the day is extended, it is the n-th extended day of the week
module _ (line : Line) (runs : List Run) (start place : ℕ) (reached : Reached line runs start place)
    (r : Run) (is : IsRestRun line r) (at : r.start ≡ start)
    (enough : 540 ≤ minutes_of r) (from : ℕ) (l : IsLastOf 540 runs from) (u n : ℕ) (week : IsInWeek u from)
    (so : 540 < driving line from r.start
    → HasCount (λ day. IsExtended line u day × (day.start ≤ from)) EarlierDay n) where
  -- more than ten hours of driving in this day
  IsLong : Breach → Type 0
  IsLong b = IsDrivingBreach line B4 600 from r.start b

  -- a third or later extended day
  IsOften : Breach → Type 0
  IsOften b = (2 < n) × IsDrivingBreach line B5 540 from r.start b

  long_new : (b : Breach) → IsLong b → IsB4Seen line (runs ++ r ∷ []) b
  unfolding IsLong
  long_new b h = record {
    kind = h.kind_is;
    is = record {
      day = day_to from r;
      duty = duty_new line runs start place reached r is at enough from l;
      over = h.over;
      since = h.since;
    };
    seen = Contains-push runs r;
  }

  often_new : (b : Breach) → IsOften b → IsB5Seen line (runs ++ r ∷ []) b
  unfolding IsOften
  often_new b (many, h) =
      let more : 540 < driving line from r.start = too_much_reaches line B5 540 from r.start b h in
      record {
        kind = h.kind_is;
        is = record {
          day = day_to from r;
          week = u;
          ordinal = n;
          extended = record {
            duty = duty_new line runs start place reached r is at enough from l;
            week = week;
            over = more;
          };
          how_many = so more;
          many = many;
          over = h.over;
          since = h.since;
        };
        seen = Contains-push runs r;
      }

  long_back : (b : Breach) → IsB4Seen line (runs ++ r ∷ []) b → IsB4Seen line runs b ⊎ IsLong b
  unfolding IsLong
  long_back b h = elim (Contains-push_cases runs r h.is.day.rest h.seen) [
    | inl was ↦ inl (record { kind = h.kind; is = h.is; seen = was })
    | inr same ↦
        let only = duty_only line runs start place reached r is at enough from l h.is.day h.is.duty same in
        inr (record {
          kind_is = h.kind;
          over =
              subst (λ (m : ℕ). HasDrivingAbove line 600 from m b) only.1
              (subst (λ (m : ℕ). HasDrivingAbove line 600 m h.is.day.past b) only.0 h.is.over);
          since = h.is.since ∙ only.0;
        })
  ]

  -- the number of extended days up to this one is n
  ordinal_is : (w other : ℕ) → IsInWeek w from → 540 < driving line from r.start
      → HasCount (λ day. IsExtended line w day × (day.start ≤ from)) EarlierDay other → other ≡ n
  ordinal_is w other (low, high) more many =
      let (low', high') = week in
      let e : w ≡ u = omega arith in
      how_many_only (λ day. IsExtended line u day × (day.start ≤ from)) EarlierDay
      (λ x y p q. never_both line x y p.0.duty q.0.duty) other n
      (subst (λ (v : ℕ). HasCount (λ day. IsExtended line v day × (day.start ≤ from)) EarlierDay other) e many)
      (so more)

  often_back : (b : Breach) → IsB5Seen line (runs ++ r ∷ []) b → IsB5Seen line runs b ⊎ IsOften b
  unfolding IsOften
  often_back b h = elim (Contains-push_cases runs r h.is.day.rest h.seen) [
    | inl was ↦ inl (record { kind = h.kind; is = h.is; seen = was })
    | inr same ↦
        let only = duty_only line runs start place reached r is at enough from l h.is.day h.is.extended.duty same in
        let w : ℕ = h.is.week in
        let over : HasDrivingAbove line 540 from r.start b =
        subst (λ (m : ℕ). HasDrivingAbove line 540 from m b) only.1
        (subst (λ (m : ℕ). HasDrivingAbove line 540 m h.is.day.past b) only.0 h.is.over) in
        let long : IsDrivingBreach line B5 540 from r.start b =
        record { kind_is = h.kind; over = over; since = h.is.since ∙ only.0 } in
        let many : HasCount (λ day. IsExtended line w day × (day.start ≤ from)) EarlierDay h.is.ordinal =
        subst (λ (m : ℕ). HasCount (λ day. IsExtended line w day × (day.start ≤ m)) EarlierDay h.is.ordinal)
        only.0 h.is.how_many in
        let e : h.is.ordinal ≡ n =
        ordinal_is w h.is.ordinal (subst (λ (m : ℕ). IsInWeek w m) only.0 h.is.extended.week)
        (too_much_reaches line B5 540 from r.start b long) many in
        let third : 2 < h.is.ordinal = h.is.many in
        inr (omega arith, long)
  ]

  -- the breaches seen are those before and those of this day
  all_seen : (b : Breach) → ((IsDrivingSeen line runs b ⊎ IsLong b) ⊎ IsOften b) ↔ IsDrivingSeen line (runs ++ r ∷ []) b
  all_seen b = (
    λ h. elim h [
      | inl one ↦ elim one [ inl old ↦ wider line runs r b old | inr long ↦ inl (long_new b long) ]
      | inr often ↦ inr (often_new b often)
    ],
    λ h. elim h [
      | inl four ↦ elim (long_back b four) [ inl old ↦ inl (inl (inl old)) | inr long ↦ inl (inr long) ]
      | inr five ↦ elim (often_back b five) [ inl old ↦ inl (inl (inr old)) | inr often ↦ inr often ]
    ],
  )

  -- no earlier day starts at the same minute
  not_before : (day : DutyDay) → IsDuty line day → Contains runs day.rest → day.start ≡ from → ⊥
  not_before day d in' e =
      let (s, t) = day_lasts line day d in
      let f : day.rest.past ≤ from = day_before line runs start place reached r is at enough from l day d in' in
      omega arith

  seen_apart : (b : Breach) → IsDrivingSeen line runs b → b.since ≡ from → ⊥
  seen_apart b h since = elim h [
    | inl four ↦ not_before four.is.day four.is.duty four.seen (sym four.is.since ∙ since)
    | inr five ↦ not_before five.is.day five.is.extended.duty five.seen (sym five.is.since ∙ since)
  ]

  five_apart : (b : Breach) → (IsDrivingSeen line runs b ⊎ IsLong b) → b.kind ≡ B5 → b.since ≡ from → ⊥
  unfolding IsLong
  five_apart b h kind since = elim h [
    | inl old ↦ seen_apart b old since
    | inr long ↦ (let e : B4 ≡ B5 = sym long.kind_is ∙ kind in cc)
  ]

  module _ (nine ten : Count) (own : List Breach)
      (c : IsCounted line 540 from r.start nine) (d : IsCounted line 600 from r.start ten)
      (t : AreCollected (λ b. IsDrivingSeen line runs b) own) where
    first_one : AreCollected (λ b. IsDrivingSeen line runs b ⊎ IsLong b) (own ++ as_list (over_of B4 600 from ten))
    unfolding IsLong
    first_one =
        collected_over (λ b. IsDrivingSeen line runs b) line B4 600 from r.start ten own t d
        (λ b h kind since. seen_apart b h since)

    both_if : (g : Bool) → nat_lt 2 n ≡ g
        → AreCollected (λ b. (IsDrivingSeen line runs b ⊎ IsLong b) ⊎ IsOften b)
        (own ++ (as_list (over_of B4 600 from ten) ++ (if g then as_list (over_of B5 540 from nine) else [])))
    unfolding IsOften
    both_if true e =
        let xs : List Breach = as_list (over_of B4 600 from ten) in
        let ys : List Breach = as_list (over_of B5 540 from nine) in
        let many : 2 < n = grind (arith, nat_tests) in
        let two : AreCollected (λ b. (IsDrivingSeen line runs b ⊎ IsLong b) ⊎ IsDrivingBreach line B5 540 from r.start b)
        ((own ++ xs) ++ ys) =
        collected_over (λ b. IsDrivingSeen line runs b ⊎ IsLong b) line B5 540 from r.start nine (own ++ xs) first_one c
        five_apart in
        subst (λ (zs : List Breach). AreCollected (λ b. (IsDrivingSeen line runs b ⊎ IsLong b) ⊎ IsOften b) zs)
        (append_assoc own xs ys)
        (exactly_as (λ b. (IsDrivingSeen line runs b ⊎ IsLong b) ⊎ IsDrivingBreach line B5 540 from r.start b)
        (λ b. (IsDrivingSeen line runs b ⊎ IsLong b) ⊎ IsOften b) Apart ((own ++ xs) ++ ys)
        (λ b. (
          λ h. elim h [ inl old ↦ inl old | inr long ↦ inr (many, long) ],
          λ h. elim h [ inl old ↦ inl old | inr often ↦ inr often.1 ],
        ))
        two)
    both_if false e =
        let xs : List Breach = as_list (over_of B4 600 from ten) in
        let few : n ≤ 2 = grind (arith, nat_tests) in
        subst (λ (zs : List Breach). AreCollected (λ b. (IsDrivingSeen line runs b ⊎ IsLong b) ⊎ IsOften b) (own ++ zs))
        (sym (append-nil xs))
        (exactly_skip (λ b. IsDrivingSeen line runs b ⊎ IsLong b) IsOften Apart (own ++ xs) first_one (λ b h.
        let many : 2 < n = h.0 in omega arith))

    -- all these breaches are found
    pub day_collected : AreCollected (λ b. IsDrivingSeen line (runs ++ r ∷ []) b)
        (own ++ (as_list (over_of B4 600 from ten) ++ (if nat_lt 2 n then as_list (over_of B5 540 from nine) else [])))
    day_collected =
        exactly_as (λ b. (IsDrivingSeen line runs b ⊎ IsLong b) ⊎ IsOften b)
        (λ b. IsDrivingSeen line (runs ++ r ∷ []) b) Apart
        (own ++ (as_list (over_of B4 600 from ten) ++ (if nat_lt 2 n then as_list (over_of B5 540 from nine) else [])))
        all_seen (both_if (nat_lt 2 n) refl)

-- The number of extended days of a week so far (specs/DailyDriving), when a rest run ends.
use Rattle.std.proofs.Common.{◌≡◌, ◌≢◌, ℕ, ◌+◌, ◌<◌, ◌≤◌, ◌⊎◌, ◌↔◌, inl, inr, Bool, true, false, List, [], ◌∷◌, ◌++◌}
use Rattle.std.proofs.Common.{length, length-append, refl, subst, arith, nat_eq, if◌then◌else◌}
use Rattle.std.specs.List.{Contains}
use Rattle.std.proofs.lemmas.Bool.{cases_lt}
use Rattle.std.proofs.lemmas.Bool.Decides.{nat_tests}
use Rattle.std.proofs.lemmas.List.Elements.{Contains-push, Contains-append_left, Contains-push_cases}
use Rattle.tacho_law.specs.declared.run.Run.{Run}
use Rattle.tacho_law.specs.declared.days.DutyDay.{DutyDay}
use Rattle.tacho_law.specs.Line.{Line}
use Rattle.tacho_law.specs.Runs.{minutes_of, IsRestRun}
use Rattle.tacho_law.specs.SoFar.{Reached}
use Rattle.tacho_law.specs.Days.{IsDuty, EarlierDay}
use Rattle.tacho_law.specs.Exactly.{HasCount}
use Rattle.tacho_law.specs.Weeks.{IsInWeek}
use Rattle.tacho_law.specs.Breaches.{IsExtended}
use Rattle.tacho_law.proofs.DebtsLemmas.{separate}
use Rattle.tacho_law.proofs.ExactlyLemmas.{exactly_none, exactly_as, exactly_add, how_many_as}
use Rattle.tacho_days.specs.DutyDays.{day_to, IsLastOf}
use Rattle.tacho_days.specs.DailyDriving.{week_at, IsExtendedSeen, IsTally}
use Rattle.tacho_days.proofs.DutyDaysLemmas.{day_lasts, later, duty_only, day_only, day_before}

-- a minute is in its week
pub week_in : (m : ℕ) → 5760 ≤ m → IsInWeek (week_at m) m
week_in m late = (omega arith, omega arith)

-- before the first day
pub tally_none : (line : Line) → IsTally line [] 0 0
tally_none line = record {
  how_many = record {
    all = [];
    exactly = exactly_none (λ day. IsExtendedSeen line [] 0 day) EarlierDay (λ day h.
        let (k, within, e) = h.seen in omega arith);
    count = refl;
  };
  latest = λ day other h. absurd (let (k, within, e) = h.seen in omega arith);
  known = inl refl;
}

-- one more run
module _ (line : Line) (runs : List Run) (r : Run) where
  wider : (w : ℕ) (day : DutyDay) → IsExtendedSeen line runs w day → IsExtendedSeen line (runs ++ r ∷ []) w day
  wider w day h = record { extended = h.extended; seen = Contains-append_left runs (r ∷ []) day.rest h.seen }

  -- a run that isn't the rest of an extended day
  module _ (none : (w : ℕ) (day : DutyDay) → IsExtended line w day → r ≡ day.rest → ⊥) where
    narrower : (w : ℕ) (day : DutyDay) → IsExtendedSeen line (runs ++ r ∷ []) w day → IsExtendedSeen line runs w day
    narrower w day h = elim (Contains-push_cases runs r day.rest h.seen) [
      | inl was ↦ record { extended = h.extended; seen = was }
      | inr same ↦ absurd (none w day h.extended same)
    ]

    pub tally_keep : (week count : ℕ) → IsTally line runs week count → IsTally line (runs ++ r ∷ []) week count
    tally_keep week count t = record {
      how_many = how_many_as (λ day. IsExtendedSeen line runs week day)
          (λ day. IsExtendedSeen line (runs ++ r ∷ []) week day) EarlierDay count
          (λ day. (λ h. wider week day h, λ h. narrower week day h)) t.how_many;
      latest = λ day other h. t.latest day other (narrower other day h);
      known = elim t.known [ inl e ↦ inl e | inr (day, h) ↦ inr (day, wider week day h) ];
    }

-- a long rest after another one
module _ (line : Line) (runs : List Run) (start place : ℕ) (reached : Reached line runs start place)
    (r : Run) (is : IsRestRun line r) (at : r.start ≡ start)
    (enough : 540 ≤ minutes_of r) (from : ℕ) (l : IsLastOf 540 runs from) where
  -- no duty day up to this one starts later than this one
  starts_by : (day : DutyDay) → IsDuty line day → Contains (runs ++ r ∷ []) day.rest → day.start ≤ from
  starts_by day d in' = elim (Contains-push_cases runs r day.rest in') [
    | inl was ↦
        let (s, t) = day_lasts line day d in
        let e : day.rest.past ≤ from =
        day_before line runs start place reached r is at enough from l day d was in
        omega arith
    | inr same ↦ (
        let only = duty_only line runs start place reached r is at enough from l day d same in
        let e : day.start ≡ from = only.0 in omega arith)
  ]

  -- a day that starts at or before this one ends with a rest at or before this rest
  rest_by : (day : DutyDay) → IsDuty line day → day.start ≤ from → day.rest.start ≤ r.start
  rest_by day d le = elim (cases_lt r.start day.rest.start) [
    | inl after ↦
        let e : day.start ≡ d.last.past = d.start in
        let ends : l.run.past ≡ from = l.ends in
        let f : l.run.past < r.start = later line runs start place reached r is at l.run l.among in
        absurd (d.neighbours.between r (record { rests = is; enough = enough }) (omega arith)
        (separate line r day.rest is d.neighbours.second.rests after))
    | inr by ↦ by
  ]

  -- the rest ends an extended day of a week
  module _ (u : ℕ) (x : IsExtended line u (day_to from r)) where
    one_more : (day : DutyDay)
        → (IsExtendedSeen line runs u day ⊎ (day_to from r ≡ day))
        ↔ IsExtendedSeen line (runs ++ r ∷ []) u day
    one_more day = (
      λ h. elim h [
        | inl old ↦ wider line runs r u day old
        | inr same ↦
            subst (λ (d : DutyDay). IsExtendedSeen line (runs ++ r ∷ []) u d) same
            (record { extended = x; seen = Contains-push runs r })
      ],
      λ h. elim (Contains-push_cases runs r day.rest h.seen) [
        | inl was ↦ inl (record { extended = h.extended; seen = was })
        | inr same ↦ inr (day_only line runs start place reached r is at enough from l day h.extended.duty same)
      ],
    )

    no_later : (day : DutyDay) (other : ℕ) → IsExtendedSeen line (runs ++ r ∷ []) other day → other ≤ u
    no_later day other h =
        let by : day.start ≤ from = starts_by day h.extended.duty h.seen in
        let (low, high) = h.extended.week in
        let (low', high') = x.week in
        omega arith

    here : IsExtendedSeen line (runs ++ r ∷ []) u (day_to from r)
    here = record { extended = x; seen = Contains-push runs r }

    earlier : (day : DutyDay) → IsExtendedSeen line runs u day
        → EarlierDay day (day_to from r)
    earlier day h = day_before line runs start place reached r is at enough from l day h.extended.duty h.seen

    -- one more extended day of the same week
    tally_same : (count : ℕ) → IsTally line runs u count → IsTally line (runs ++ r ∷ []) u (count + 1)
    tally_same count t = record {
      how_many = record {
        all = t.how_many.all ++ day_to from r ∷ [];
        exactly =
            exactly_as
            (λ day. IsExtendedSeen line runs u day ⊎ (day_to from r ≡ day))
            (λ day. IsExtendedSeen line (runs ++ r ∷ []) u day) EarlierDay
            (t.how_many.all ++ day_to from r ∷ []) one_more
            (exactly_add (λ day. IsExtendedSeen line runs u day)
            (λ day. day_to from r ≡ day) EarlierDay t.how_many.all
            (day_to from r) t.how_many.exactly refl (λ day e. e) earlier);
        count =
            let m : length t.how_many.all ≡ count = t.how_many.count in
            let new : List DutyDay = day_to from r ∷ [] in
            omega (arith, m, length-append t.how_many.all new);
      };
      latest = no_later;
      known = inr (day_to from r, here);
    }

    -- the first extended day of a week
    tally_other : (week count : ℕ) → IsTally line runs week count → week ≢ u → IsTally line (runs ++ r ∷ []) u 1
    tally_other week count t ne =
        let none : (day : DutyDay) → IsExtendedSeen line runs u day → ⊥ = λ day h.
        (let low : u ≤ week = t.latest day u h in
        let high : week ≤ u = elim t.known [
          | inl zero' ↦ omega arith
          | inr (other, h') ↦ no_later other week (wider line runs r week other h')
        ] in
        omega arith) in
        record {
          how_many = record {
            all = day_to from r ∷ [];
            exactly =
                exactly_as
                (λ day. IsExtendedSeen line runs u day ⊎ (day_to from r ≡ day))
                (λ day. IsExtendedSeen line (runs ++ r ∷ []) u day) EarlierDay
                (day_to from r ∷ []) one_more
                (exactly_add (λ day. IsExtendedSeen line runs u day)
                (λ day. day_to from r ≡ day) EarlierDay []
                (day_to from r)
                (exactly_none (λ day. IsExtendedSeen line runs u day) EarlierDay none) refl (λ day e. e) earlier);
            count = refl;
          };
          latest = no_later;
          known = inr (day_to from r, here);
        }

    tally_if : (week count : ℕ) (b : Bool) → nat_eq week u ≡ b → IsTally line runs week count
        → IsTally line (runs ++ r ∷ []) u ((if b then count else 0) + 1)
    tally_if week count true e t =
        let same : week ≡ u = grind (arith, nat_tests) in
        tally_same count (subst (λ (w : ℕ). IsTally line runs w count) same t)
    tally_if week count false e t = tally_other week count t (grind (arith, nat_tests))

    pub tally_next : (week count : ℕ) → IsTally line runs week count
        → IsTally line (runs ++ r ∷ []) u ((if nat_eq week u then count else 0) + 1)
    tally_next week count t = tally_if week count (nat_eq week u) refl t

    -- these are the extended days of the week up to this one
    pub so_many_upto : ((run : Run) → IsRestRun line run → run.start ≤ r.start → Contains (runs ++ r ∷ []) run)
        → (n : ℕ) → IsTally line (runs ++ r ∷ []) u n
        → HasCount (λ day. IsExtended line u day × (day.start ≤ from)) EarlierDay n
    so_many_upto all n t =
        how_many_as (λ day. IsExtendedSeen line (runs ++ r ∷ []) u day)
        (λ day. IsExtended line u day × (day.start ≤ from)) EarlierDay n
        (λ day. (
          λ h. (h.extended, starts_by day h.extended.duty h.seen),
          λ (h, by). record {
            extended = h;
            seen = all day.rest h.duty.neighbours.second.rests (rest_by day h.duty by);
          },
        ))
        t.how_many

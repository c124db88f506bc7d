-- Breaches of the rules on days stay when a line continues after its horizon (`laws::breaches_stay`).
use Rattle.std.proofs.Common.{◌≡◌, ℕ, ◌+◌, ◌-◌, ◌<◌, ◌≤◌, inl, inr, List, map, length, get_or, min}
use Rattle.std.proofs.Common.{refl, sym, ap, subst, ◌∙◌, arith, nat_eq, if◌then◌else◌}
use Rattle.std.specs.List.{Contains}
use Rattle.std.proofs.lemmas.Bool.{cases_lt}
use Rattle.std.proofs.lemmas.Bool.Decides.{nat_tests}
use Rattle.std.proofs.lemmas.List.Elements.{Contains-get_or}
use Rattle.std.proofs.lemmas.List.{get_or-map, get_or_default, length-map}
use Rattle.tacho_law.specs.declared.run.Run.{Run}
use Rattle.tacho_law.specs.declared.days.DutyDay.{DutyDay}
use Rattle.tacho_law.specs.declared.breach.Breach.{Breach}
use Rattle.tacho_law.specs.declared.breach.Kind.TheVariants.{B2, B3, B4, B5}
use Rattle.tacho_law.specs.Exactly.{HasCount}
use Rattle.tacho_law.specs.Line.{Line}
use Rattle.tacho_law.specs.Limits.{latest, daily_rest, weekly_rest, first_part_of_daily_rest, driving_in_day}
use Rattle.tacho_law.specs.Limits.{driving_in_extended_day}
use Rattle.tacho_law.specs.Runs.{IsRestOf, AreRestRuns, Before, minutes_of}
use Rattle.tacho_law.specs.Driving.{driving, IsDrivingAbove}
use Rattle.tacho_law.specs.Days.{IsDuty, EarlierDay, HasPortion, IsRegular, IsReduced}
use Rattle.tacho_law.specs.Breaches.{IsB2, IsB3, IsB4, IsB5, IsExtended}
use Rattle.tacho_law.proofs.ExactlyLemmas.{how_many_as}
use Rattle.tacho_law.proofs.DrivingLemmas.{driving_mono}
use Rattle.tacho_law.proofs.DebtsLemmas.{separate}
use Rattle.tacho_law.proofs.ByRunsLemmas.{one_run}
use Rattle.tacho_rules.proofs.StayingLemmas.{GoesOn, ending}
use Rattle.tacho_rules.proofs.StayingHoursLemmas.{HasSame, driving_same, starts_by, over_stays, ends_too}
use Rattle.tacho_rules.proofs.StayingHoursLemmas.{neighbours_stay, neighbours_were, rest_stays, rest_was}

-- a duty day with this rest is the same day
same_day : (day : DutyDay) (next : Run) → next ≡ day.rest → day.past ≡ day.rest.start
    → record { start = day.start; past = next.start; rest = next } ≡ day
same_day day next e f =
    let with_rest : Run → DutyDay = λ r. record { start = day.start; past = r.start; rest = r } in
    let with_past : ℕ → DutyDay = λ p. record { start = day.start; past = p; rest = day.rest } in
    ap with_rest e ∙ ap with_past (sym f)

-- days with the same start and the same rest are equal
day_is : (a b : DutyDay) → a.start ≡ b.start → a.rest ≡ b.rest → a.past ≡ a.rest.start → b.past ≡ b.rest.start → a ≡ b
day_is a b e r f f' =
    let with_start : ℕ → DutyDay = λ s. record { start = s; past = a.past; rest = a.rest } in
    let with_past : ℕ → DutyDay = λ p. record { start = b.start; past = p; rest = a.rest } in
    ap with_start e ∙ (ap with_past f ∙ same_day b a.rest r f')

-- a list in which each element is replaced by another
module _ {A : Type 0} (f : A → A) where
  contains_map : (xs : List A) (x : A) → Contains xs x → Contains (map f xs) (f x)
  contains_map xs x (i, within, e) =
      let n : length (map f xs) ≡ length xs = length-map xs f in
      (i, omega arith, get_or-map f xs i (f x) (f x) within ∙ ap f (get_or_default xs i (f x) x within ∙ e))

  contained_map : (xs : List A) (y : A) → Contains (map f xs) y → (x : A) × Contains xs x × (f x ≡ y)
  contained_map xs y (i, within, e) =
      let n : length (map f xs) ≡ length xs = length-map xs f in
      let x : A = get_or xs i y in
      (x, (i, omega arith, get_or_default xs i x y (omega arith)), sym (get_or-map f xs i y y (omega arith)) ∙ e)

  -- how many elements there are stays the same
  so_many_map : (P Q : A → Type 0) (R : A → A → Type 0) (n : ℕ) → ((x : A) → P x → Q (f x))
      → ((y : A) → Q y → (x : A) × P x × (f x ≡ y)) → ((x y : A) → P x → P y → R x y → R (f x) (f y))
      → HasCount P R n → HasCount Q R n
  so_many_map P Q R n to back keeps s = record {
    all = map f s.all;
    exactly = record {
      each = λ y. (
        λ h. let (x, in', e) = contained_map s.all y h in subst Q e (to x ((s.exactly.each x).0 in')),
        λ q. let (x, p, e) = back y q in
            subst (λ (z : A). Contains (map f s.all) z) e (contains_map s.all x ((s.exactly.each x).1 p)),
      );
      in_order = λ i j d below within.
          let n' : length (map f s.all) ≡ length s.all = length-map s.all f in
          let p : P (get_or s.all i d) =
          (s.exactly.each (get_or s.all i d)).0 (Contains-get_or s.all i d (omega arith)) in
          let q : P (get_or s.all j d) =
          (s.exactly.each (get_or s.all j d)).0 (Contains-get_or s.all j d (omega arith)) in
          let r : R (get_or s.all i d) (get_or s.all j d) = s.exactly.in_order i j d below (omega arith) in
          subst (λ (z : A). R z (get_or (map f s.all) j d)) (sym (get_or-map f s.all i d d (omega arith)))
          (subst (λ (z : A). R (f (get_or s.all i d)) z) (sym (get_or-map f s.all j d d (omega arith)))
          (keeps (get_or s.all i d) (get_or s.all j d) p q r));
    };
    count = length-map s.all f ∙ s.count;
  }

module _ (line other : Line) (h k : ℕ) (g : GoesOn line other h k)
    (mine theirs : List Run) (are_mine : AreRestRuns line mine) (are : AreRestRuns other theirs) where
  -- a duty day stays, with a rest that starts no earlier
  duty_stays : (day : DutyDay) → IsDuty line day
      → (next : DutyDay) × IsDuty other next × (next.start ≡ day.start) × (day.past ≤ next.past)
      × (day.rest.past < h → next ≡ day)
  duty_stays day duty =
      let (next, n, later, same) = neighbours_stay line other h k g theirs are daily_rest
      (omega arith) duty.last day.rest duty.neighbours in
      let at : day.past ≡ day.rest.start = duty.past in (
        record { start = day.start; past = next.start; rest = next },
        record { last = duty.last; neighbours = n; start = duty.start; past = refl },
        refl,
        omega arith,
        λ ended. same_day day next (same ended) duty.past,
      )

  duty_was : (day : DutyDay) → IsDuty other day → day.rest.past < h → IsDuty line day
  duty_was day duty ended = record {
    last = duty.last;
    neighbours = neighbours_were line other h k g theirs are daily_rest (omega arith) duty.last day.rest duty.neighbours
        ended;
    start = duty.start;
    past = duty.past;
  }

  -- a duty day whose rest ends before the horizon stays as it is
  same_duty : (day : DutyDay) → IsDuty line day → day.rest.past < h → IsDuty other day
  same_duty day duty ended =
      let (next, is, s, l, same) = duty_stays day duty in subst (λ (d : DutyDay). IsDuty other d) (same ended) is

  -- a daily rest that is too short stays too short
  pub b2_stays : (breach : Breach) → IsB2 line breach
      → HasSame (λ b. (b.kind ≡ B2) × IsB2 other b) (record breach { kind = B2 })
  b2_stays breach is =
      let day : DutyDay = is.day in
      let early : k ≤ latest = g.early in
      let later' : h ≤ k = g.later in
      let (next, duty, start, later, same) = duty_stays day is.duty in
      let at : day.past ≡ day.rest.start = is.duty.past in
      let short : ¬ (HasPortion next daily_rest) =
      λ p. elim (ending line other h k g day.rest is.duty.neighbours.second.rests) [
        | inr ended ↦ is.short (subst (λ (d : DutyDay). HasPortion d daily_rest) (same ended) p)
        | inl far ↦
            let by : day.rest.start ≤ h = starts_by line h g.rest day.rest is.duty.neighbours.second.rests in
            let from : day.start ≡ is.duty.last.past = is.duty.start in
            let before : is.duty.last.past < day.rest.start = is.duty.neighbours.before in
            is.short (let p' : next.past + 540 ≤ min next.rest.past (next.start + 1440) = p in omega arith)
      ] in (
        record {
          kind = B2;
          moment = breach.moment;
          since = breach.since;
          amount = (540 + next.past) - min next.rest.past (next.start + 1440);
        },
        (
          refl,
          record {
            day = next;
            duty = duty;
            short = short;
            moment = (let m : breach.moment ≡ day.start + 900 = is.moment in omega arith);
            since = is.since ∙ sym start;
            amount = elim (cases_lt (min next.rest.past (next.start + 1440)) (next.past + 540)) [
              | inl lt ↦ omega arith
              | inr ge ↦ absurd (short ge)
            ];
          },
        ),
        record { moment = refl; kind = refl; since = refl },
      )

  -- a day with more than ten hours of driving stays one
  pub b4_stays : (breach : Breach) → IsB4 line breach
      → HasSame (λ b. (b.kind ≡ B4) × IsB4 other b) (record breach { kind = B4 })
  b4_stays breach is =
      let (next, duty, start, later, same) = duty_stays is.day is.duty in
      let (amount, excess) =
      over_stays line other h k g driving_in_extended_day is.day.start is.day.past next.past breach later is.over in (
        record { kind = B4; moment = breach.moment; since = breach.since; amount = amount },
        (
          refl,
          record {
            day = next;
            duty = duty;
            over = subst (λ (from : ℕ). IsDrivingAbove other driving_in_extended_day from next.past breach.moment amount)
                (sym start) excess;
            since = is.since ∙ sym start;
          },
        ),
        record { moment = refl; kind = refl; since = refl },
      )

  -- a regular daily rest stays regular
  regular_stays : (day : DutyDay) → day.past ≤ h → IsRegular line day → IsRegular other day
  regular_stays day early r = elim r [
    | inl eleven ↦ inl eleven
    | inr (nine, (part, is, from, to)) ↦
        inr (
          nine,
          (
            part,
            rest_stays line other h k g theirs are first_part_of_daily_rest (omega arith) part is
                (ended part is from to),
            from,
            to,
          ),
        )
  ] where
    ended : (part : Run) → IsRestOf line first_part_of_daily_rest part → day.start ≤ part.start → part.past ≤ day.past
        → part.past < h
    ended part is from to = elim (ending line other h k g part is.rests) [
      | inl far ↦ absurd (let a : h ≤ k = g.later in let b : k ≤ latest = g.early in omega arith)
      | inr below ↦ below
    ]

  regular_was : (day : DutyDay) → day.past < h → IsRegular other day → IsRegular line day
  regular_was day early r = elim r [
    | inl eleven ↦ inl eleven
    | inr (nine, (part, is, from, to)) ↦
        inr (
          nine,
          (
            part,
            rest_was line other h k g theirs are first_part_of_daily_rest (omega arith) part is
                (omega arith),
            from,
            to,
          ),
        )
  ]

  -- a reduced daily rest ends before the horizon
  reduced_ended : (day : DutyDay) → IsReduced line day → day.rest.past < h
  reduced_ended day r = elim (ending line other h k g day.rest r.duty.neighbours.second.rests) [
    | inl far ↦ absurd (
        let a : h ≤ k = g.later in
        let b : k ≤ latest = g.early in
        let by : day.rest.start ≤ h = starts_by line h g.rest day.rest r.duty.neighbours.second.rests in
        let short : minutes_of day.rest < weekly_rest = r.short in
        omega arith)
    | inr ended ↦ ended
  ]

  rest_is_later : (l : Line) (day : DutyDay) → IsDuty l day → day.past < day.rest.past
  rest_is_later l day duty =
      let at : day.past ≡ day.rest.start = duty.past in
      let some : day.rest.start < day.rest.past = duty.neighbours.second.rests.some in
      omega arith

  reduced_stays : (day : DutyDay) → IsReduced line day → IsReduced other day
  reduced_stays day r =
      let ended : day.rest.past < h = reduced_ended day r in
      let within : day.past < day.rest.past = rest_is_later line day r.duty in
      record {
        duty = same_duty day r.duty ended;
        portion = r.portion;
        irregular = λ p. r.irregular (regular_was day (omega arith) p);
        short = r.short;
      }

  reduced_was : (day : DutyDay) → day.rest.past < h → IsReduced other day → IsReduced line day
  reduced_was day ended r =
      let within : day.past < day.rest.past = rest_is_later other day r.duty in
      record {
        duty = duty_was day r.duty ended;
        portion = r.portion;
        irregular = λ p. r.irregular (regular_stays day (omega arith) p);
        short = r.short;
      }

  -- the fourth reduced daily rest stays
  pub b3_stays : (breach : Breach) → IsB3 line breach
      → HasSame (λ b. (b.kind ≡ B3) × IsB3 other b) (record breach { kind = B3 })
  b3_stays breach is =
      let day : DutyDay = is.day in
      let ended : day.rest.past < h = reduced_ended day is.reduced in
      let before : is.weekly.past < day.rest.start = is.before in
      let some : day.rest.start < day.rest.past = is.reduced.duty.neighbours.second.rests.some in
      let too : (d : DutyDay) → IsReduced other d → d.rest.start ≤ day.rest.start → d.rest.past < h =
      λ d r le. ends_too line other h k g theirs are day.rest d.rest is.reduced.duty.neighbours.second.rests ended
      r.duty.neighbours.second.rests le in (
        record { kind = B3; moment = breach.moment; since = breach.since; amount = breach.amount },
        (
          refl,
          record {
            day = day;
            weekly = is.weekly;
            ordinal = is.ordinal;
            reduced = reduced_stays day is.reduced;
            rest = rest_stays line other h k g theirs are weekly_rest (omega arith) is.weekly is.rest (omega arith);
            before = is.before;
            last = λ run r after sooner.
                is.last run (rest_was line other h k g theirs are weekly_rest (omega arith) run r (omega arith)) after
                sooner;
            how_many = how_many_as
                (λ d. IsReduced line d × Before is.weekly d.rest × (d.rest.start ≤ day.rest.start))
                (λ d. IsReduced other d × Before is.weekly d.rest × (d.rest.start ≤ day.rest.start))
                EarlierDay is.ordinal
                (λ d. (λ (r, b, le). (reduced_stays d r, b, le), λ (r, b, le). (reduced_was d (too d r le) r, b, le)))
                is.how_many;
            many = is.many;
            moment = is.moment;
            since = is.since;
            amount = is.amount;
          },
        ),
        record { moment = refl; kind = refl; since = refl },
      )

  -- duty days with the same start are equal
  one_day : (l : Line) (runs : List Run) → AreRestRuns l runs → (a b : DutyDay)
      → IsDuty l a → IsDuty l b → a.start ≡ b.start → a.rest ≡ b.rest
  one_day l runs all a b is_a is_b e = elim (cases_lt a.rest.start b.rest.start) [
    | inl sooner ↦ absurd (is_b.neighbours.between a.rest is_a.neighbours.second
        (let f : a.start ≡ is_a.last.past = is_a.start in
        let f' : b.start ≡ is_b.last.past = is_b.start in
        let before : is_a.last.past < a.rest.start = is_a.neighbours.before in omega arith)
        (separate l a.rest b.rest is_a.neighbours.second.rests is_b.neighbours.second.rests sooner))
    | inr not ↦ elim (cases_lt b.rest.start a.rest.start) [
      | inl later ↦ absurd (is_a.neighbours.between b.rest is_b.neighbours.second
          (let f : a.start ≡ is_a.last.past = is_a.start in
          let f' : b.start ≡ is_b.last.past = is_b.start in
          let before : is_b.last.past < b.rest.start = is_b.neighbours.before in omega arith)
          (separate l b.rest a.rest is_b.neighbours.second.rests is_a.neighbours.second.rests later))
      | inr same ↦ one_run l h runs all a.rest b.rest is_a.neighbours.second.rests is_b.neighbours.second.rests
          (omega arith)
    ]
  ]

  -- the rest of an earlier day has ended by the start of a later one
  rest_by : (l : Line) (runs : List Run) → AreRestRuns l runs → (a b : DutyDay)
      → IsDuty l a → IsDuty l b → a.start < b.start → a.rest.past ≤ b.start
  rest_by l runs all a b is_a is_b sooner =
      let f : a.start ≡ is_a.last.past = is_a.start in
      let f' : b.start ≡ is_b.last.past = is_b.start in
      let some : is_b.last.start < is_b.last.past = is_b.neighbours.first.rests.some in
      let some' : is_a.last.start < is_a.last.past = is_a.neighbours.first.rests.some in
      elim (cases_lt a.rest.start is_b.last.start) [
        | inl lt ↦
            let before : a.rest.past < is_b.last.start =
            separate l a.rest is_b.last is_a.neighbours.second.rests is_b.neighbours.first.rests lt in
            omega arith
        | inr ge ↦ elim (cases_lt is_b.last.start a.rest.start) [
          | inl lt ↦ absurd (is_a.neighbours.between is_b.last is_b.neighbours.first
              (elim (cases_lt is_a.last.start is_b.last.start) [
                | inl ahead ↦
                    separate l is_a.last is_b.last is_a.neighbours.first.rests is_b.neighbours.first.rests ahead
                | inr behind ↦ absurd (elim (cases_lt is_b.last.start is_a.last.start) [
                  | inl lt' ↦
                      let apart : is_b.last.past < is_a.last.start =
                      separate l is_b.last is_a.last is_b.neighbours.first.rests is_a.neighbours.first.rests lt' in
                      omega arith
                  | inr le' ↦
                      let same : is_a.last ≡ is_b.last =
                      one_run l h runs all is_a.last is_b.last
                      is_a.neighbours.first.rests is_b.neighbours.first.rests (omega arith) in
                      let e : is_a.last.past ≡ is_b.last.past = ap (λ (r : Run). r.past) same in
                      omega arith
                ])
              ])
              (separate l is_b.last a.rest is_b.neighbours.first.rests is_a.neighbours.second.rests lt))
          | inr le ↦
              let same : a.rest ≡ is_b.last =
              one_run l h runs all a.rest is_b.last is_a.neighbours.second.rests is_b.neighbours.first.rests
              (omega arith) in
              let e : a.rest.past ≡ is_b.last.past = ap (λ (r : Run). r.past) same in
              omega arith
        ]
      ]

  -- a day with more than nine hours of driving stays one
  extended_at : (w : ℕ) (day next : DutyDay) → IsExtended line w day → IsDuty other next → next.start ≡ day.start
      → day.past ≤ next.past → IsExtended other w next
  extended_at w day next x duty start later =
      let by : day.past ≤ h =
      (let at : day.past ≡ day.rest.start = x.duty.past in
      let b : day.rest.start ≤ h = starts_by line h g.rest day.rest x.duty.neighbours.second.rests in omega arith) in
      let same : driving line day.start day.past ≡ driving other day.start day.past =
      driving_same line other h g.agree day.start day.past by in
      let more : driving other day.start day.past ≤ driving other day.start (day.past + (next.past - day.past)) =
      driving_mono other day.start day.past (next.past - day.past) in
      let to : day.past + (next.past - day.past) ≡ next.past = omega arith in
      let more' : driving other day.start day.past ≤ driving other day.start next.past = rw to at more in
      let over : driving_in_day < driving line day.start day.past = x.over in
      record {
        duty = duty;
        week = (let e : next.start ≡ day.start = start in let a = x.week in (omega (arith, a), omega (arith, a)));
        over = rw start (let r : driving_in_day < driving other day.start next.past =
            omega (arith, same, more', over) in r);
      }

  extended_was : (w : ℕ) (day : DutyDay) → IsExtended other w day → day.rest.past < h → IsExtended line w day
  extended_was w day x ended =
      let within : day.past < day.rest.past = rest_is_later other day x.duty in
      let same : driving line day.start day.past ≡ driving other day.start day.past =
      driving_same line other h g.agree day.start day.past (omega arith) in
      let over : driving_in_day < driving other day.start day.past = x.over in
      record { duty = duty_was day x.duty ended; week = x.week; over = omega (arith, same, over) }

  -- the third extended day of a week stays
  pub b5_stays : (breach : Breach) → IsB5 line breach
      → HasSame (λ b. (b.kind ≡ B5) × IsB5 other b) (record breach { kind = B5 })
  b5_stays breach is =
      let day : DutyDay = is.day in
      let (next, duty, start, later, same) = duty_stays day is.extended.duty in
      let (amount, excess) = over_stays line other h k g driving_in_day day.start day.past next.past breach later
      is.over in
      let here : IsExtended other is.week next = extended_at is.week day next is.extended duty start later in
      let P : DutyDay → Type 0 = λ d. IsExtended line is.week d × (d.start ≤ day.start) in
      let Q : DutyDay → Type 0 = λ d. IsExtended other is.week d × (d.start ≤ next.start) in
      let f : DutyDay → DutyDay = λ d. if nat_eq d.start day.start then next else d in
      let at_day : (d : DutyDay) → d.start ≡ day.start → f d ≡ next = λ d e. grind (arith, nat_tests) in
      let before : (d : DutyDay) → d.start < day.start → f d ≡ d = λ d lt. grind (arith, nat_tests) in
      let early : day.start < h =
      (let e : day.start ≡ is.extended.duty.last.past = is.extended.duty.start in
      let b : is.extended.duty.last.past < day.rest.start = is.extended.duty.neighbours.before in
      let c : day.rest.start ≤ h = starts_by line h g.rest day.rest is.extended.duty.neighbours.second.rests in
      omega arith) in
      let to : (d : DutyDay) → P d → Q (f d) = λ d (x, le). elim (cases_lt d.start day.start) [
        | inl lt ↦
            let by : d.rest.past ≤ day.start = rest_by line mine are_mine d day x.duty is.extended.duty lt in
            subst Q (sym (before d lt))
            (extended_at is.week d d x (same_duty d x.duty (omega arith)) refl (omega arith), omega arith)
        | inr ge ↦ subst Q (sym (at_day d (omega arith))) (here, omega arith)
      ] in
      let back : (d : DutyDay) → Q d
      → (x : DutyDay) × P x × (f x ≡ d) = λ d (x, le). elim (cases_lt d.start day.start) [
        | inl lt ↦
            let by : d.rest.past ≤ next.start =
            rest_by other theirs are d next x.duty duty (let e : next.start ≡ day.start = start in omega arith) in
            (d, (extended_was is.week d x (omega arith), omega arith), before d lt)
        | inr ge ↦
            let e : d.start ≡ next.start = omega arith in
            let r : next.rest ≡ d.rest = one_day other theirs are next d duty x.duty (sym e) in
            (day, (is.extended, omega arith), at_day day refl ∙ day_is next d (sym e) r duty.past x.duty.past)
      ] in
      let keeps : (x y : DutyDay) → P x → P y → EarlierDay x y → EarlierDay (f x) (f y) = λ x y p q earlier.
      (let long : x.past < x.rest.past = rest_is_later line x p.0.duty in
      let one : x.start ≡ p.0.duty.last.past = p.0.duty.start in
      let two : p.0.duty.last.past < x.rest.start = p.0.duty.neighbours.before in
      let three : x.past ≡ x.rest.start = p.0.duty.past in
      let by : x.rest.past ≤ y.start = earlier in
      let le : y.start ≤ day.start = q.1 in
      let sooner : x.start < day.start = omega arith in
      subst (λ (d : DutyDay). EarlierDay d (f y)) (sym (before x sooner)) (elim (cases_lt y.start day.start) [
        | inl lt ↦ subst (λ (d : DutyDay). EarlierDay x d) (sym (before y lt)) earlier
        | inr ge ↦ subst (λ (d : DutyDay). EarlierDay x d) (sym (at_day y (omega arith))) (omega arith)
      ])) in (
        record { kind = B5; moment = breach.moment; since = breach.since; amount = amount },
        (
          refl,
          record {
            day = next;
            week = is.week;
            ordinal = is.ordinal;
            extended = here;
            how_many = so_many_map f P Q EarlierDay is.ordinal to back keeps is.how_many;
            many = is.many;
            over = subst (λ (from : ℕ). IsDrivingAbove other driving_in_day from next.past breach.moment amount)
                (sym start) excess;
            since = is.since ∙ sym start;
          },
        ),
        record { moment = refl; kind = refl; since = refl },
      )

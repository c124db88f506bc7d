-- The pass over daily rests represents the spans that it was fed (specs/DailyRests).
use Rattle.std.proofs.Common.{◌≡◌, ◌≢◌, ℕ, ◌+◌, ◌-◌, ◌<◌, ◌≤◌, ◌⊎◌, ◌&&◌, inl, inr, Bool, true, false, not}
use Rattle.std.proofs.Common.{Option, None, Some, List, [], ◌∷◌, ◌++◌, min, refl, sym, subst, ◌∙◌, arith, nat_le}
use Rattle.std.proofs.Common.{nat_lt, if◌then◌else◌}
use Rattle.std.specs.Prelude.{◌↔◌, IsTrue}
use Rattle.std.specs.List.{All, Contains}
use Rattle.std.proofs.lemmas.Bool.Decides.{nat_tests}
use Rattle.std.proofs.lemmas.List.{append-nil, append_assoc}
use Rattle.std.proofs.lemmas.List.Elements.{Contains-push, Contains-append_left, Contains-push_cases, All-nil, All-cons}
use Rattle.std.proofs.lemmas.List.Elements.{All-append}
use Rattle.tacho_time.specs.declared.span.Activity.TheVariants.{Rest}
use Rattle.tacho_time.specs.declared.span.Span.{Span}
use Rattle.tacho_law.specs.declared.run.Run.{Run}
use Rattle.tacho_law.specs.declared.run.TheConstants.{FAR}
use Rattle.tacho_law.specs.declared.days.DutyDay.{DutyDay}
use Rattle.tacho_law.specs.declared.breach.Breach.{Breach}
use Rattle.tacho_law.specs.declared.breach.Kind.TheVariants.{B2, B3}
use Rattle.tacho_law.specs.declared.debt.Debt.{Debt}
use Rattle.tacho_law.specs.Exactly.{HasCount}
use Rattle.tacho_law.specs.Line.{Line, line_of, IsExamined}
use Rattle.tacho_law.specs.Runs.{IsRestRun, AreRestRuns, minutes_of}
use Rattle.tacho_law.specs.SoFar.{Reached, AreCollected}
use Rattle.tacho_law.specs.Days.{IsDuty, IsReduced, EarlierDay}
use Rattle.tacho_law.specs.Order.{Apart}
use Rattle.tacho_law.proofs.ExactlyLemmas.{exactly_none, exactly_as}
use Rattle.tacho_law.proofs.RunsLemmas.{run_of, reached_none, reached_rest, reached_busy, reached_gap, reached_end}
use Rattle.tacho_pass.specs.Found.{as_list}
use Rattle.tacho_pass.specs.Heard.{is_rest, start_after, run_before, Continues}
use Rattle.tacho_pass.specs.Kinds.{is_b2_or_b3}
use Rattle.tacho_pass.proofs.HearingLemmas.{line_append, line_at_end, joined_append, line_after, rests_yes, rests_no}
use Rattle.tacho_days.specs.declared.daily_rest.RestingDay.{RestingDay}
use Rattle.tacho_days.specs.DutyDays.{day_to, IsBeforeFirst}
use Rattle.tacho_days.specs.RestingDays.{resting_none, portion_of, regular_of, reduced_of}
use Rattle.tacho_days.specs.RestingDays.{short_breach, short_of, often_breach, often_of, rest_found}
use Rattle.tacho_days.specs.RestingDays.{after_daily, after_weekly, after_part, after_rest, after_optional_rest, found_at_optional_rest}
use Rattle.tacho_days.specs.DailyRests.{IsAfterRests, HasPart, IsReducedSince, IsB2Seen, IsB3Seen}
use Rattle.tacho_days.specs.DailyRests.{IsRestSeen, IsResting, DailyRestsStand, IsDailyRestBreach, DailyRestsDefined}
use Rattle.tacho_days.proofs.DutyDaysLemmas.{last_next, last_keep, day_only, none_short, none_first}
use Rattle.tacho_days.proofs.DutyDaysLemmas.{first_on, first_long}
use Rattle.tacho_days.proofs.DailyRestsReducedLemmas.{part_none, part_more, reduced_none, reduced_after}
use Rattle.tacho_days.proofs.DailyRestsReducedLemmas.{reduced_keep, reduced_more, reduced_is}
use Rattle.tacho_days.proofs.DailyRestsShortLemmas.{IsShortTo, b2_both, b2_apart, collected_short}
use Rattle.tacho_days.proofs.DailyRestsOftenLemmas.{IsOftenTo, b3_both, b3_apart, collected_often}

-- these breaches have the pass's kinds
abbrev AreOwn : List Breach → Type 0
AreOwn found = All (λ (b : Breach). IsTrue (is_b2_or_b3 b.kind)) found

-- no breaches
own_none : AreOwn []
own_none = All-nil (λ (b : Breach). IsTrue (is_b2_or_b3 b.kind))

-- one breach
own_one : (x : Breach) → is_b2_or_b3 x.kind ≡ true → AreOwn (x ∷ [])
own_one x e = All-cons (λ (b : Breach). IsTrue (is_b2_or_b3 b.kind)) x [] e own_none

-- one breach if a test passes
own_if : (g : Bool) (x : Breach) → is_b2_or_b3 x.kind ≡ true → AreOwn (as_list (if g then Some x else None))
own_if true x e = own_one x e
own_if false x e = own_none

-- one breach if a test fails
own_unless : (g : Bool) (x : Breach) → is_b2_or_b3 x.kind ≡ true → AreOwn (as_list (if g then None else Some x))
own_unless true x e = own_none
own_unless false x e = own_one x e

-- some breaches if a test passes
own_all_if : (g : Bool) (found : List Breach) → AreOwn found → AreOwn (if g then found else [])
own_all_if true found own = own
own_all_if false found own = own_none

-- the breaches that are put for a rest have the pass's kinds
pub rest_kinds : (r : Run) (d : RestingDay) → All (λ (b : Breach). IsTrue (is_b2_or_b3 b.kind)) (rest_found r d)
rest_kinds r d =
    let day : DutyDay = day_to d.from r in
    own_all_if (nat_le 540 (minutes_of r)) (as_list (short_of day) ++ as_list (often_of r d))
    (All-append (λ (b : Breach). IsTrue (is_b2_or_b3 b.kind)) (as_list (short_of day)) (as_list (often_of r d))
    (own_unless (portion_of day 540) (short_breach day) refl)
    (own_if (reduced_of d.part day && nat_lt 3 (d.number + 1)) (often_breach r d) refl))

-- likewise for an optional rest
pub any_kinds : (r : Option Run) (d : RestingDay) → All (λ (b : Breach). IsTrue (is_b2_or_b3 b.kind)) (found_at_optional_rest r d)
any_kinds None d = own_none
any_kinds (Some r) d = rest_kinds r d

-- before the first run, there is no breach
none_seen : (line : Line) (b : Breach) → IsRestSeen line [] b → ⊥
none_seen line b h = elim h [
  | inl short ↦ (let k : short.seen.0 < 0 = short.seen.1 in omega arith)
  | inr often ↦ (let k : often.seen.0 < 0 = often.seen.1 in omega arith)
]

-- a rest that has its portion and isn't reduced gives no breach
nothing_by : (g k m : Bool) (x y : Breach) → g ≡ true → k ≡ false
    → as_list (if g then None else Some x) ++ as_list (if k && m then Some y else None) ≡ []
nothing_by true false m x y e f = refl
nothing_by true true m x y e f = absurd (let h : true ≡ false = f in cc)
nothing_by false k m x y e f = absurd (let h : false ≡ true = e in cc)

-- a weekly rest isn't reduced
weekly_by : (a b c : Bool) → c ≡ false → (a && (b && c)) ≡ false
weekly_by true true c e = e
weekly_by true false c e = refl
weekly_by false b c e = refl

-- so the first rest gives no breach
nothing_found : (r : Run) (d : RestingDay) → r.start ≡ 0 → d.from ≤ 0 → 1440 ≤ minutes_of r
    → as_list (short_of (day_to d.from r)) ++ as_list (often_of r d) ≡ []
nothing_found r d first from long =
    let day : DutyDay = day_to d.from r in
    let k : r.start + 540 ≤ min r.past (d.from + 1440) = omega arith in
    let e : portion_of day 540 ≡ true = grind (arith, nat_tests) in
    let f : nat_lt (minutes_of r) 1440 ≡ false = grind (arith, nat_tests) in
    let g : reduced_of d.part day ≡ false =
    weekly_by (not (regular_of d.part day)) (portion_of day 540) (nat_lt (minutes_of r) 1440) f in
    nothing_by (portion_of day 540) (reduced_of d.part day) (nat_lt 3 (d.number + 1))
    (short_breach day) (often_breach r d) e g

-- a run that ends at a minute
module _ (line : Line) (start place : ℕ) (d : RestingDay) (own : List Breach) (h : IsResting line start place d own)
    (past : ℕ) (is : IsRestRun line (run_of start past)) where
  -- a run that isn't a day's rest
  module _ (none : (day : DutyDay) → IsDuty line day → run_of start past ≡ day.rest → ⊥) where
    -- the breaches up to this run are those before it
    kept : (b : Breach) → IsRestSeen line h.runs b ↔ IsRestSeen line (h.runs ++ run_of start past ∷ []) b
    kept b = (
      λ k. elim k [
        | inl two ↦ inl (record {
          kind = two.kind;
          is = two.is;
          seen = Contains-append_left h.runs (run_of start past ∷ []) two.is.day.rest two.seen;
        })
        | inr three ↦ inr (record {
          kind = three.kind;
          is = three.is;
          seen = Contains-append_left h.runs (run_of start past ∷ []) three.is.day.rest three.seen;
        })
      ],
      λ k. elim k [
        | inl two ↦ elim (Contains-push_cases h.runs (run_of start past) two.is.day.rest two.seen) [
          | inl was ↦ inl (record { kind = two.kind; is = two.is; seen = was })
          | inr same ↦ absurd (none two.is.day two.is.duty same)
        ]
        | inr three ↦ elim (Contains-push_cases h.runs (run_of start past) three.is.day.rest three.seen) [
          | inl was ↦ inr (record { kind = three.kind; is = three.is; seen = was })
          | inr same ↦ absurd (none three.is.day three.is.reduced.duty same)
        ]
      ],
    )

    -- so all of them are found
    found_kept : AreCollected (IsRestSeen line (h.runs ++ run_of start past ∷ [])) own
    found_kept =
        exactly_as (IsRestSeen line h.runs) (IsRestSeen line (h.runs ++ run_of start past ∷ [])) Apart own kept h.found

    -- the number of reduced rests stays the same
    number_kept : HasCount (IsReducedSince line (h.runs ++ run_of start past ∷ []) d.weekly) EarlierDay d.number
    number_kept =
        reduced_keep line h.runs start place h.reached (run_of start past) is refl d.weekly d.number
        (λ day same reduced. none day reduced.duty same) h.how_many

  module _ (upto : place ≤ past) (long : 540 ≤ past - start)
      (all : (x : Run) → IsRestRun line x → x.start ≤ start → Contains (h.runs ++ run_of start past ∷ []) x) where
    -- the first rest run ends no day
    first_found : IsBeforeFirst 1440 h.runs start place
        → AreCollected (IsRestSeen line (h.runs ++ run_of start past ∷ []))
        (own ++ (as_list (short_of (day_to d.from (run_of start past))) ++ as_list (often_of (run_of start past) d)))
    first_found first =
        let within : d.from ≤ start = h.within in
        let zero' : start ≡ 0 = first.first in
        let late : 1440 ≤ place = first.long in
        let e : as_list (short_of (day_to d.from (run_of start past))) ++ as_list (often_of (run_of start past) d) ≡ [] =
        nothing_found (run_of start past) d zero' (omega arith) (omega arith) in
        subst (λ (xs : List Breach). AreCollected (IsRestSeen line (h.runs ++ run_of start past ∷ [])) (own ++ xs))
        (sym e)
        (subst (λ (xs : List Breach). AreCollected (IsRestSeen line (h.runs ++ run_of start past ∷ [])) xs)
        (sym (append-nil own))
        (found_kept (none_first line h.runs start place h.reached (run_of start past) is refl first.none)))

    module _ (behind : IsAfterRests h.runs d) where
      -- the test of a reduced rest is right
      test_is : IsTrue (reduced_of d.part (day_to d.from (run_of start past)))
          ↔ IsReduced line (day_to d.from (run_of start past))
      test_is =
          reduced_is line h.runs start place h.reached (run_of start past) is refl
          long d.from behind.daily d.part h.part

      -- by cases: the number of reduced rests
      number_by : (g : Bool) → reduced_of d.part (day_to d.from (run_of start past)) ≡ g
          → HasCount (IsReducedSince line (h.runs ++ run_of start past ∷ []) d.weekly) EarlierDay
          (if g then d.number + 1 else d.number)
      number_by true e =
          reduced_more line h.runs start place h.reached (run_of start past) is refl long d.from behind.daily
          d.weekly d.number behind.weekly h.how_many (test_is.0 e)
      number_by false e =
          reduced_keep line h.runs start place h.reached (run_of start past) is refl d.weekly d.number
          (λ day same reduced.
          (let f : day_to d.from (run_of start past) ≡ day =
          day_only line h.runs start place h.reached (run_of start past) is refl long d.from behind.daily
          day reduced.duty same in
          let g : reduced_of d.part (day_to d.from (run_of start past)) ≡ true =
          test_is.1 (subst (λ (x : DutyDay). IsReduced line x) (sym f) reduced) in
          let k : false ≡ true = sym e ∙ g in
          cc))
          h.how_many

      -- the number of reduced rests after this one
      number_next : HasCount (IsReducedSince line (h.runs ++ run_of start past ∷ []) d.weekly) EarlierDay
          (if reduced_of d.part (day_to d.from (run_of start past)) then d.number + 1 else d.number)
      number_next = number_by (reduced_of d.part (day_to d.from (run_of start past))) refl

      -- the breaches of earlier days, and of this one
      Wide : Breach → Type 0
      Wide b = (IsRestSeen line h.runs b ⊎ IsShortTo d.from (run_of start past) b)
          ⊎ IsOftenTo line d.from (run_of start past) d.weekly d.number b

      -- these are the breaches of the days up to this one
      both : (b : Breach) → Wide b ↔ IsRestSeen line (h.runs ++ run_of start past ∷ []) b
      unfolding Wide
      both b =
          let two : (IsB2Seen line h.runs b ⊎ IsShortTo d.from (run_of start past) b)
          ↔ IsB2Seen line (h.runs ++ run_of start past ∷ []) b =
          b2_both line h.runs start place h.reached (run_of start past) is refl long d.from behind.daily b in
          let three : (IsB3Seen line h.runs b ⊎ IsOftenTo line d.from (run_of start past) d.weekly d.number b)
          ↔ IsB3Seen line (h.runs ++ run_of start past ∷ []) b =
          b3_both line h.runs start place h.reached (run_of start past) is refl all long d.from behind.daily
          d.weekly d.number behind.weekly h.how_many b in (
            λ k. elim k [
              | inl old ↦ elim old [
                | inl seen ↦ elim seen [ inl x ↦ inl (two.0 (inl x)) | inr x ↦ inr (three.0 (inl x)) ]
                | inr x ↦ inl (two.0 (inr x))
              ]
              | inr x ↦ inr (three.0 (inr x))
            ],
            λ k. elim k [
              | inl x ↦ elim (two.1 x) [ inl old ↦ inl (inl (inl old)) | inr new ↦ inl (inr new) ]
              | inr x ↦ elim (three.1 x) [ inl old ↦ inl (inl (inr old)) | inr new ↦ inr new ]
            ],
          )

      -- all of them are found
      after_found : AreCollected (IsRestSeen line (h.runs ++ run_of start past ∷ []))
          (own ++ (as_list (short_of (day_to d.from (run_of start past))) ++ as_list (often_of (run_of start past) d)))
      unfolding Wide
      after_found =
          let one : AreCollected (λ b. IsRestSeen line h.runs b ⊎ IsShortTo d.from (run_of start past) b)
          (own ++ as_list (short_of (day_to d.from (run_of start past)))) =
          collected_short (IsRestSeen line h.runs) own d.from (run_of start past) h.found
          (λ b k kind since. elim k [
            | inl two ↦
                b2_apart line h.runs start place h.reached (run_of start past) is refl long d.from behind.daily
                b two since
            | inr three ↦ (let g : B2 ≡ B3 = sym kind ∙ three.kind in cc)
          ]) in
          let all' : AreCollected Wide
          ((own ++ as_list (short_of (day_to d.from (run_of start past)))) ++ as_list (often_of (run_of start past) d)) =
          collected_often (λ b. IsRestSeen line h.runs b ⊎ IsShortTo d.from (run_of start past) b)
          (own ++ as_list (short_of (day_to d.from (run_of start past)))) line (run_of start past) d test_is one
          (λ b k kind moment. elim k [
            | inl seen ↦ elim seen [
              | inl two ↦ (let g : B2 ≡ B3 = sym two.kind ∙ kind in cc)
              | inr three ↦
                  b3_apart line h.runs start place h.reached (run_of start past) is refl all long d.from behind.daily
                  d.weekly d.number behind.weekly h.how_many b three moment
            ]
            | inr short ↦ (let g : B2 ≡ B3 = sym short.kind ∙ kind in cc)
          ]) in
          subst (λ (xs : List Breach). AreCollected (IsRestSeen line (h.runs ++ run_of start past ∷ [])) xs)
          (append_assoc own (as_list (short_of (day_to d.from (run_of start past))))
          (as_list (often_of (run_of start past) d)))
          (exactly_as Wide (IsRestSeen line (h.runs ++ run_of start past ∷ [])) Apart
          ((own ++ as_list (short_of (day_to d.from (run_of start past)))) ++ as_list (often_of (run_of start past) d))
          both all')

    -- so the breaches are found, whatever the run is
    pub found_next : AreCollected (IsRestSeen line (h.runs ++ run_of start past ∷ []))
        (own ++ (as_list (short_of (day_to d.from (run_of start past))) ++ as_list (often_of (run_of start past) d)))
    found_next = elim h.last [
      | inl first ↦ first_found first
      | inr behind ↦ after_found behind
    ]

-- the steps over a span from `place` to q
module _ (line : Line) (start place q : ℕ) (d : RestingDay) (own : List Breach) (h : IsResting line start place d own)
    (more : place < q) where
  -- a span of rest
  pub rest_step : ((m : ℕ) → place ≤ m → m < q → line m ≡ Rest) → IsResting line start q d own
  rest_step at = record {
    runs = h.runs;
    reached = reached_rest line h.runs start place q h.reached more at;
    last = elim h.last [
      | inl first ↦ inl (first_on 1440 h.runs start place q more first)
      | inr behind ↦ inr behind
    ];
    within = h.within;
    part = h.part;
    how_many = h.how_many;
    found = h.found;
  }

  -- a span that isn't rest
  module _ (busy : (m : ℕ) → place ≤ m → m < q → line m ≢ Rest) where
    -- no rest run ends at the span
    pub busy_step : place ≤ start → IsResting line q q d own
    busy_step none =
        let below : start ≤ place = h.reached.below in
        let within : d.from ≤ start = h.within in
        record {
          runs = h.runs;
          reached = reached_busy line h.runs start place q h.reached (omega arith) more busy;
          last = elim h.last [
            | inl first ↦ absurd (first_long 1440 h.runs start place (omega arith) first)
            | inr behind ↦ inr behind
          ];
          within = omega arith;
          part = h.part;
          how_many = h.how_many;
          found = h.found;
        }

    -- a rest run ends at the span
    module _ (gap : start < place) (far : place < FAR) where
      -- the runs, with this one
      reached_on : Reached line (h.runs ++ run_of start place ∷ []) q q
      reached_on = reached_gap line h.runs start place q h.reached gap more far busy

      -- this run is a rest run
      run_is : IsRestRun line (run_of start place)
      run_is = record {
        some = gap;
        rest = h.reached.resting;
        from = h.reached.from;
        until = inr (busy place (omega arith) more);
      }

      -- the breaches, with those of its day
      found_on : 540 ≤ place - start → AreCollected (IsRestSeen line (h.runs ++ run_of start place ∷ []))
          (own ++ (as_list (short_of (day_to d.from (run_of start place))) ++ as_list (often_of (run_of start place) d)))
      found_on long =
          found_next line start place d own h place run_is (omega arith) long
          (λ x is le. reached_on.all x is (omega arith))

      -- after a long rest, there is no first part yet
      none_on : IsTrue false ↔ HasPart (h.runs ++ run_of start place ∷ []) place
      none_on = (
        λ k. absurd (let g : false ≡ true = k in cc),
        λ k. absurd (part_none line h.runs start place h.reached (run_of start place) run_is refl k),
      )

      -- by cases: a weekly rest, a daily rest, or a shorter one
      gap_if : (a b : Bool) → nat_le 1440 (place - start) ≡ a → nat_le 540 (place - start) ≡ b
          → IsResting line q q
          (if a then after_weekly (run_of start place) else
          (if b then after_daily (run_of start place) d else after_part (run_of start place) d))
          (own ++ (if b then as_list (short_of (day_to d.from (run_of start place)))
          ++ as_list (often_of (run_of start place) d) else []))
      gap_if true true e f =
          let weekly : 1440 ≤ place - start = grind (arith, nat_tests) in
          let long : 540 ≤ place - start = omega arith in
          record {
            runs = h.runs ++ run_of start place ∷ [];
            reached = reached_on;
            last = inr (record {
              daily = last_next line h.runs start place h.reached (run_of start place) run_is refl 540 long;
              weekly = last_next line h.runs start place h.reached (run_of start place) run_is refl 1440 weekly;
            });
            within = omega arith;
            part = none_on;
            how_many = reduced_after line h.runs start place h.reached (run_of start place) run_is refl;
            found = found_on long;
          }
      gap_if true false e f =
          let weekly : 1440 ≤ place - start = grind (arith, nat_tests) in
          let short : place - start < 540 = grind (arith, nat_tests) in
          absurd (omega (arith, weekly, short))
      gap_if false true e f =
          let short : place - start < 1440 = grind (arith, nat_tests) in
          let long : 540 ≤ place - start = grind (arith, nat_tests) in
          elim h.last [
            | inl first ↦ absurd (first_long 1440 h.runs start place short first)
            | inr behind ↦ record {
              runs = h.runs ++ run_of start place ∷ [];
              reached = reached_on;
              last = inr (record {
                daily = last_next line h.runs start place h.reached (run_of start place) run_is refl 540 long;
                weekly =
                    last_keep line h.runs start place h.reached (run_of start place) run_is refl
                    1440 d.weekly short behind.weekly;
              });
              within = omega arith;
              part = none_on;
              how_many =
                  number_next line start place d own h place run_is (omega arith) long
                  (λ x is le. reached_on.all x is (omega arith)) behind;
              found = found_on long;
            }
          ]
      gap_if false false e f =
          let short : place - start < 540 = grind (arith, nat_tests) in
          let within : d.from ≤ start = h.within in
          let none : (day : DutyDay) → IsDuty line day → run_of start place ≡ day.rest → ⊥ =
          none_short line (run_of start place) short in
          elim h.last [
            | inl first ↦ absurd (first_long 1440 h.runs start place (omega (arith, short)) first)
            | inr behind ↦ record {
              runs = h.runs ++ run_of start place ∷ [];
              reached = reached_on;
              last = inr (record {
                daily =
                    last_keep line h.runs start place h.reached (run_of start place) run_is refl
                    540 d.from short behind.daily;
                weekly =
                    last_keep line h.runs start place h.reached (run_of start place) run_is refl
                    1440 d.weekly (omega (arith, short)) behind.weekly;
              });
              within = omega arith;
              part =
                  part_more line h.runs start place h.reached (run_of start place) run_is refl
                  d.from d.part within h.part;
              how_many = number_kept line start place d own h place run_is none;
              found = subst
                  (λ (xs : List Breach). AreCollected (IsRestSeen line (h.runs ++ run_of start place ∷ [])) xs)
                  (sym (append-nil own)) (found_kept line start place d own h place run_is none);
            }
          ]

      -- as the code computes it
      pub gap_step : IsResting line q q (after_rest (run_of start place) d)
          (own ++ rest_found (run_of start place) d)
      gap_step = gap_if (nat_le 1440 (place - start)) (nat_le 540 (place - start)) refl refl

-- one more span
module _ (spans : List Span) (s : Span) (base start : ℕ) (d : RestingDay) (own : List Breach) (owed : List Debt)
    (r : DailyRestsStand start s.start d own owed base spans) (some : s.start < s.past) (far : s.past < FAR) where
  module _ (line : Line) (c : Continues line (spans ++ s ∷ []) s.past) where
    -- in the span, the line has the span's activity
    at : (m : ℕ) → s.start ≤ m → m < s.past → line m ≡ s.mark.activity
    at m above below = c m below ∙ line_at_end spans s base m r.joined above below

    -- the state before the span
    before : IsResting line start s.start d own
    before = r.kept line (λ m below. c m (omega arith) ∙ line_append spans s m below)

    -- a span that isn't rest
    busy : is_rest s.mark.activity ≡ false → (m : ℕ) → s.start ≤ m → m < s.past → line m ≢ Rest
    busy e m above below f = rests_no s.mark.activity e (sym (at m above below) ∙ f)

    -- a span of rest
    quiet : s.mark.activity ≡ Rest → IsResting line start s.past d (own ++ [])
    quiet e =
        let rest : IsResting line start s.past d own =
        rest_step line start s.start s.past d own before some (λ m above below. at m above below ∙ e) in
        rw (append-nil own) rest

  -- by cases: whether the span is rest, and whether a run ends before it
  by : (b g : Bool) → is_rest s.mark.activity ≡ b → nat_lt start s.start ≡ g
      → DailyRestsStand (if b then start else s.past) s.past
      (after_optional_rest (if b then None else (if g then Some (run_of start s.start) else None)) d)
      (own ++ found_at_optional_rest (if b then None else (if g then Some (run_of start s.start) else None)) d)
      owed base (spans ++ s ∷ [])
  by true g e f = record {
    none = r.none;
    joined = joined_append spans s base r.joined some;
    kept = λ line c. quiet line c (rests_yes s.mark.activity e);
  }
  by false true e f = record {
    none = r.none;
    joined = joined_append spans s base r.joined some;
    kept = λ line c.
        gap_step line start s.start s.past d own (before line c) some (busy line c e)
        (let k : start < s.start = grind (arith, nat_tests) in k) (omega arith);
  }
  by false false e f = record {
    none = r.none;
    joined = joined_append spans s base r.joined some;
    kept = λ line c.
        subst (λ (xs : List Breach). IsResting line s.past s.past d xs) (sym (append-nil own))
        (busy_step line start s.start s.past d own (before line c) some (busy line c e)
        (let k : s.start ≤ start = grind (arith, nat_tests) in k));
  }

  -- as the code computes it
  pub rests_fed : DailyRestsStand (start_after start s) s.past (after_optional_rest (run_before start s) d)
      (own ++ found_at_optional_rest (run_before start s) d) owed base (spans ++ s ∷ [])
  rests_fed = by (is_rest s.mark.activity) (nat_lt start s.start) refl refl

-- before the first span
pub rests_none : (base : ℕ) → 1440 ≤ base → DailyRestsStand 0 base resting_none [] [] base []
rests_none base late = record {
  none = refl;
  joined = refl;
  kept = λ line c. record {
    runs = [];
    reached = reached_none line base (λ m below. c m below);
    last = inl (record { none = refl; first = refl; long = late });
    within = omega arith;
    part = (
      λ k. absurd (let g : false ≡ true = k in cc),
      λ k. absurd (let n : k.among.0 < 0 = k.among.1 in omega arith),
    );
    how_many = reduced_none line 0;
    found = exactly_none (IsRestSeen line []) Apart (none_seen line);
  };
}

-- the end of the line
pub rests_end : (spans : List Span) (base past start : ℕ) (d : RestingDay) (own : List Breach) (owed : List Debt)
    → DailyRestsStand start past d own owed base spans → IsExamined spans base past
    → DailyRestsDefined (own ++ rest_found (run_of start FAR) d) owed base past spans
rests_end spans base past start d own owed r x =
    let line : Line = line_of spans in
    let h : IsResting line start past d own = r.kept line (λ m below. refl) in
    let below : start ≤ past = h.reached.below in
    let early : past ≤ 68374080 = x.within in
    let long : 540 ≤ FAR - start = omega arith in
    let all : AreRestRuns line (h.runs ++ run_of start FAR ∷ []) =
    reached_end line h.runs start past h.reached (omega arith)
    (λ m above. line_after spans base past m r.joined above) in
    let is : IsRestRun line (run_of start FAR) =
    (all.each (run_of start FAR)).0 (Contains-push h.runs (run_of start FAR)) in
    let yes' : nat_le 540 (FAR - start) ≡ true = grind (arith, nat_tests) in
    let found : AreCollected (IsRestSeen line (h.runs ++ run_of start FAR ∷ []))
    (own ++ (as_list (short_of (day_to d.from (run_of start FAR))) ++ as_list (often_of (run_of start FAR) d))) =
    found_next line start past d own h FAR is (omega arith) long (λ y is' le. (all.each y).1 is') in
    record {
      none = r.none;
      breaches = rw yes'
          (exactly_as (IsRestSeen line (h.runs ++ run_of start FAR ∷ [])) (IsDailyRestBreach line) Apart
          (own ++ (as_list (short_of (day_to d.from (run_of start FAR))) ++ as_list (often_of (run_of start FAR) d)))
          (λ b. (
            λ g. elim g [ inl two ↦ inl (two.kind, two.is) | inr three ↦ inr (three.kind, three.is) ],
            λ g. elim g [
              | inl two ↦ inl (record {
                kind = two.0;
                is = two.1;
                seen = (all.each two.1.day.rest).1 two.1.duty.neighbours.second.rests;
              })
              | inr three ↦ inr (record {
                kind = three.0;
                is = three.1;
                seen = (all.each three.1.day.rest).1 three.1.reduced.duty.neighbours.second.rests;
              })
            ],
          ))
          found);
    }

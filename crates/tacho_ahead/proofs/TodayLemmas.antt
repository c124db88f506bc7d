-- The last duty day of a line whose last minute is driven, and what is used by its days (`used_of`).
use Rattle.std.proofs.Common.{◌≡◌, ◌≢◌, ℕ, zero, suc, ◌+◌, ◌*◌, ◌-◌, ◌<◌, ◌≤◌, ◌⊎◌, inl, inr, List, [], ◌∷◌, ◌++◌, length, get_or, take}
use Rattle.std.proofs.Common.{refl, sym, ap, subst, ◌∙◌, arith, false}
use Rattle.std.specs.List.{AllPairs, Contains}
use Rattle.std.proofs.lemmas.Bool.{cases_lt}
use Rattle.std.proofs.lemmas.List.{get_or_default, take_all}
use Rattle.std.proofs.lemmas.List.Elements.{All-push, Contains-get_or}
use Rattle.tacho_time.specs.declared.span.Activity.{Activity}
use Rattle.tacho_time.specs.declared.span.Activity.TheVariants.{Rest, Available, Work, Drive}
use Rattle.tacho_time.specs.declared.span.Span.{Span}
use Rattle.tacho_law.specs.declared.run.Run.{Run}
use Rattle.tacho_law.specs.declared.run.TheConstants.{FAR}
use Rattle.tacho_law.specs.declared.days.DutyDay.{DutyDay}
use Rattle.tacho_law.specs.Breaches.{IsExtended}
use Rattle.tacho_law.specs.Days.{EarlierDay, IsDuty, IsReduced}
use Rattle.tacho_law.specs.Driving.{driving}
use Rattle.tacho_law.specs.Exactly.{HasCount}
use Rattle.tacho_law.specs.Line.{line_of, IsExamined, Line}
use Rattle.tacho_law.specs.Runs.{AreRestRuns, AreRestsOf, Before, IsRestRun, minutes_of}
use Rattle.tacho_law.specs.Weeks.{IsInWeek, week_start}
use Rattle.tacho_law.proofs.DrivingLemmas.{line_from_past}
use Rattle.tacho_law.proofs.ExactlyLemmas.{how_many_as}
use Rattle.tacho_law.proofs.RunsLemmas.{run_of, line_before, joined_le}
use Rattle.tacho_pass.proofs.HearingLemmas.{line_at_end, joined_append}
use Rattle.tacho_periods.specs.DutyDays.{AreDutyDays}
use Rattle.tacho_periods.proofs.DaysLemmas.{no_day, day_of, next_are_neighbours, rests_of}
use Rattle.tacho_periods.proofs.KeptLemmas.{AreKept, kept_none, kept_add_at, kept_skip_at}
use Rattle.tacho_periods.proofs.RunsLemmas.{no_run}
use Rattle.tacho_ahead.specs.DaysInTime.{AreInTime, IsInTime}
use Rattle.tacho_ahead.specs.Plans.{single}
use Rattle.tacho_ahead.specs.Used.{IsExtendedBefore, IsReducedLately}

-- ---- lists of rests

-- the runs of at least `least` minutes among the first i
kept_upto : (runs : List Run) (least : ℕ) → AllPairs Before runs → (i : ℕ) → i ≤ length runs
    → (rests : List Run) × AreKept Run Before (λ run. least ≤ minutes_of run) (take i runs) rests
kept_upto runs least order zero within = ([], kept_none Run Before (λ run. least ≤ minutes_of run))
kept_upto runs least order (suc i) within =
    let (rests, kept) = kept_upto runs least order i (omega arith) in
    let next : i + 1 ≡ suc i = omega arith in
    elim (cases_lt (minutes_of (get_or runs i no_run)) least) [
      | inl short ↦ (
        rests,
        subst (λ (k : ℕ). AreKept Run Before (λ run. least ≤ minutes_of run) (take k runs) rests) next
            (kept_skip_at Run Before (λ run. least ≤ minutes_of run) runs i no_run (omega arith) order rests kept
            (λ long. omega (arith, short, long))),
      )
      | inr long ↦ (
        rests ++ get_or runs i no_run ∷ [],
        subst (λ (k : ℕ). AreKept Run Before (λ run. least ≤ minutes_of run) (take k runs) (rests ++ get_or runs i no_run ∷ [])) next
            (kept_add_at Run Before (λ run. least ≤ minutes_of run) runs i no_run (omega arith) order rests kept long),
      )
    ]

-- a line's runs have a list of those of at least `least` minutes
rests_exist : (line : Line) (runs : List Run) (least : ℕ) → AreRestRuns line runs → (rests : List Run) × AreRestsOf line least rests
rests_exist line runs least are =
    let (rests, kept) = kept_upto runs least are.in_order (length runs) (omega arith) in (
      rests,
      rests_of line runs rests least are
          (subst (λ (seen : List Run). AreKept Run Before (λ run. least ≤ minutes_of run) seen rests)
          (take_all (length runs) runs (omega arith)) kept),
    )

-- ---- the first minute that isn't rest

-- whether an activity is rest
rests : (a : Activity) → (a ≡ Rest) ⊎ (a ≢ Rest)
rests Rest = inl refl
rests Available = inr (λ e. let wrong = e in cc)
rests Work = inr (λ e. let wrong = e in cc)
rests Drive = inr (λ e. let wrong = e in cc)

-- up to n all is rest, or there is a first minute that isn't
first_busy : (line : Line) (n : ℕ)
    → ((m : ℕ) → m < n → line m ≡ Rest) ⊎ ((m : ℕ) × (m < n) × (line m ≢ Rest) × ((k : ℕ) → k < m → line k ≡ Rest))
first_busy line zero = inl (λ m below. absurd (omega arith))
first_busy line (suc n) = elim (first_busy line n) [
  | inr (m, below, busy, before) ↦ inr (m, omega arith, busy, before)
  | inl all ↦ elim (rests (line n)) [
    | inr busy ↦ inr (n, omega arith, busy, all)
    | inl rest ↦ inl (λ m below. elim (cases_lt m n) [
      | inl lt ↦ all m lt
      | inr ge ↦ let e : n ≡ m = omega arith in subst (λ (k : ℕ). line k ≡ Rest) e rest
    ])
  ]
]

-- ---- duty days of an examined line

module _ (spans : List Span) (base past : ℕ) (x : IsExamined spans base past) where
  -- minutes that aren't at rest are in the range
  busy_within : (m : ℕ) → line_of spans m ≢ Rest → (15780960 ≤ m) × (m < past)
  busy_within m busy = (
    elim (cases_lt m base) [
      | inl lt ↦ absurd (busy (line_before spans base past m x.joined lt))
      | inr ge ↦ let from : 15780960 ≤ base = x.base_is.from in omega arith
    ],
    elim (cases_lt m past) [
      | inl lt ↦ lt
      | inr ge ↦ absurd (busy (line_from_past spans base past m x.joined ge))
    ],
  )

  -- a rest doesn't begin after the range
  begins_by : (run : Run) → IsRestRun (line_of spans) run → run.start ≤ past
  begins_by run is = elim is.from [
    | inl none ↦ omega arith
    | inr busy ↦ elim (cases_lt 0 run.start) [
      | inr none ↦ omega arith
      | inl some ↦
          let l : run.start - 1 < past = (busy_within (run.start - 1) (busy (run.start - 1) (omega arith))).1 in
          omega arith
    ]
  ]

  -- a duty day is in time
  pub day_in_time : (day : DutyDay) → IsDuty (line_of spans) day → IsInTime day
  day_in_time day d =
      let before : d.last.past < day.rest.start = d.neighbours.before in
      let s : day.start ≡ d.last.past = d.start in
      let p : day.past ≡ day.rest.start = d.past in
      let b : past ≤ 68374080 = x.within in
      let ended : day.rest.start ≤ past = begins_by day.rest d.neighbours.second.rests in
      record { some = omega arith; ended = omega arith; rests = p; rested = d.neighbours.second.rests.some }

  -- and begins in the range
  pub day_from : (day : DutyDay) → IsDuty (line_of spans) day → 15780960 ≤ day.start
  day_from day d =
      let before : d.last.past < day.rest.start = d.neighbours.before in
      let s : day.start ≡ d.last.past = d.start in
      let b : past ≤ 68374080 = x.within in
      let ended : day.rest.start ≤ past = begins_by day.rest d.neighbours.second.rests in
      elim d.neighbours.first.rests.until [
        | inl far ↦ absurd (let f : d.last.past ≡ 4294967295 = far in omega arith)
        | inr busy ↦ let l : 15780960 ≤ d.last.past = (busy_within d.last.past busy).0 in omega arith
      ]

  -- so are all
  pub days_in_time : (days : List DutyDay) → AreDutyDays (line_of spans) days → AreInTime days
  days_in_time days are = record {
    each = λ k d within.
        day_in_time (get_or days k d) ((are.each (get_or days k d)).0 (Contains-get_or days k d within));
    in_order = are.in_order;
  }

-- ---- the line with one more minute of driving

-- spans of an examined line whose last minute is driven
pub record IsDriven (spans : List Span) (base start past : ℕ) : Type 0 where
  pub examined : IsExamined spans base past
  pub next : past ≡ start + 1
  pub driven : line_of spans start ≡ Drive

module _ (spans : List Span) (base start : ℕ) (x : IsExamined spans base start) where
  -- the start isn't before the Monday
  pub start_from : 15780960 ≤ start
  start_from =
      let from : 15780960 ≤ base = x.base_is.from in
      let le : base ≤ start = joined_le spans base start x.joined in
      omega arith

  -- one more minute of driving
  drive_next : start + 1 ≤ 68374080 → IsDriven (spans ++ single start (start + 1) Drive ∷ []) base start (start + 1)
  drive_next within = record {
    examined = record {
      base_is = x.base_is;
      joined = joined_append spans (single start (start + 1) Drive) base x.joined (omega arith);
      single = All-push (λ (s : Span). s.mark.crew ≡ false) spans (single start (start + 1) Drive) x.single refl;
      within = within;
    };
    next = refl;
    driven = line_at_end spans (single start (start + 1) Drive) base start x.joined (omega arith) (omega arith);
  }

  -- as the code pushes it
  pub drive_pushed : start + 1 ≤ 68374080 → (seen pushed : List Span) (number past : ℕ) → seen ≡ pushed
      → pushed ≡ spans ++ single start past Drive ∷ [] → past ≡ number + 1 → number ≡ start
      → IsDriven seen base start past × (seen ≡ spans ++ single start (start + 1) Drive ∷ [])
  drive_pushed within seen pushed number past e f g h =
      let same : past ≡ start + 1 = omega arith in
      let are : seen ≡ spans ++ single start (start + 1) Drive ∷ [] =
      e ∙ f ∙ ap (λ (p : ℕ). spans ++ single start p Drive ∷ []) same in
      (rw (are, same) (drive_next within), are)

module _ (spans : List Span) (base start past : ℕ) (d : IsDriven spans base start past) where
  -- the minute isn't rest
  busy : line_of spans start ≢ Rest
  busy e = let f : line_of spans start ≡ Drive = d.driven in let wrong : Drive ≡ Rest = sym f ∙ e in cc

  next : past ≡ start + 1
  next = d.next

  early : past ≤ 68374080
  early = d.examined.within

  -- the last rest begins after it
  last_is : IsRestRun (line_of spans) (run_of (start + 1) FAR)
  last_is = record {
    some = (let w : past ≤ 68374080 = early in let n : past ≡ start + 1 = next in omega arith);
    rest = λ m above below.
        (let n : past ≡ start + 1 = next in line_from_past spans base past m d.examined.joined (omega arith));
    from = inr (λ m e r.
        let same : m ≡ start = omega arith in
        busy (subst (λ (k : ℕ). line_of spans k ≡ Rest) same r));
    until = inl refl;
  }

  -- the first one ends by it, after the Monday
  pub record First : Type 0 where
    pub end : ℕ
    pub from : 15780960 ≤ end
    pub by : end ≤ start
    pub is : IsRestRun (line_of spans) (run_of 0 end)

  pub first_is : First
  first_is = elim (first_busy (line_of spans) (start + 1)) [
    | inl all ↦ absurd (busy (all start (omega arith)))
    | inr (m, below, stops, before) ↦
        let from : 15780960 ≤ m = (busy_within spans base past d.examined m stops).0 in
        record {
          end = m;
          from = from;
          by = omega arith;
          is = record { some = omega arith; rest = λ k above under. before k under; from = inl refl; until = inr stops };
        }
  ]

  -- a duty day ends where the last rest begins
  pub record Today : Type 0 where
    pub day : DutyDay
    pub duty : IsDuty (line_of spans) day
    pub rest : day.rest ≡ run_of (start + 1) FAR

  pub today_is : (runs : List Run) → AreRestRuns (line_of spans) runs → Today
  today_is runs are =
      let line : Line = line_of spans in
      let last : Run = run_of (start + 1) FAR in
      let f : First = first_is in
      let (long, exactly) = rests_exist line runs 540 are in
      let w : past ≤ 68374080 = early in
      let n : past ≡ start + 1 = next in
      let from : 15780960 ≤ f.end = f.from in
      let (i, in', is) = (exactly.each (run_of 0 f.end)).1 (record { rests = f.is; enough = omega arith }) in
      let (k, in'', is') = (exactly.each last).1 (record { rests = last_is; enough = omega arith }) in
      let some : 0 < k = elim (cases_lt 0 k) [
        | inl lt ↦ lt
        | inr ge ↦ absurd (
            let e : k ≡ 0 = omega arith in
            let at : get_or long 0 last ≡ last = subst (λ (n : ℕ). get_or long n last ≡ last) e is' in
            elim (cases_lt 0 i) [
              | inl lt ↦
                  let b : (get_or long 0 last).past < (get_or long i last).start = exactly.in_order 0 i last lt in' in
                  let b' : 4294967295 < (get_or long i last).start = rw at at b in
                  let g : get_or long i last ≡ run_of 0 f.end = get_or_default long i last (run_of 0 f.end) in' ∙ is in
                  let h : (get_or long i last).start ≡ 0 = ap (λ (r : Run). r.start) g in
                  omega arith
              | inr le ↦
                  let e' : i ≡ 0 = omega arith in
                  let g : get_or long 0 (run_of 0 f.end) ≡ run_of 0 f.end =
                  subst (λ (n : ℕ). get_or long n (run_of 0 f.end) ≡ run_of 0 f.end) e' is in
                  let h : last ≡ run_of 0 f.end = sym at ∙ get_or_default long 0 last (run_of 0 f.end) (omega arith) ∙ g in
                  let s : start + 1 ≡ 0 = ap (λ (r : Run). r.start) h in
                  omega arith
            ])
      ] in
      let back : k - 1 + 1 ≡ k = omega arith in
      let at : get_or long (k - 1 + 1) no_run ≡ last =
      ap (λ (n : ℕ). get_or long n no_run) back ∙ (get_or_default long k no_run last in'' ∙ is') in
      record {
        day = day_of (get_or long (k - 1) no_run) last;
        duty = record {
          last = get_or long (k - 1) no_run;
          neighbours = rw at at (next_are_neighbours line 540 long exactly (k - 1) (omega arith));
          start = refl;
          past = refl;
        };
        rest = refl;
      }

  -- it is the last one
  pub record IsToday (day : DutyDay) : Type 0 where
    pub duty : IsDuty (line_of spans) day
    pub last : day.past ≡ start + 1

  pub last_day : (runs : List Run) (days : List DutyDay) → AreRestRuns (line_of spans) runs
      → AreDutyDays (line_of spans) days
      → (0 < length days) × IsToday (get_or days (length days - 1) no_day)
  last_day runs days are exactly =
      let t : Today = today_is runs are in
      let (k, in', is) = (exactly.each t.day).1 t.duty in
      let at : get_or days k no_day ≡ t.day = get_or_default days k no_day t.day in' ∙ is in
      let rest : (get_or days k no_day).rest ≡ run_of (start + 1) FAR = ap (λ (d : DutyDay). d.rest) at ∙ t.rest in
      let w : past ≤ 68374080 = early in
      let n : past ≡ start + 1 = next in
      let final : k ≡ length days - 1 = elim (cases_lt k (length days - 1)) [
        | inr ge ↦ omega arith
        | inl lt ↦ absurd (
            let other : DutyDay = get_or days (length days - 1) no_day in
            let duty : IsDuty (line_of spans) other =
            (exactly.each other).0 (Contains-get_or days (length days - 1) no_day (omega arith)) in
            let o : (get_or days k no_day).rest.past ≤ other.start =
            exactly.in_order k (length days - 1) no_day lt (omega arith) in
            let far : (get_or days k no_day).rest.past ≡ 4294967295 = ap (λ (r : Run). r.past) rest in
            let in_time : IsInTime other = day_in_time spans base past d.examined other duty in
            let a : other.start < other.past = in_time.some in
            let b : other.past ≤ 68374080 = in_time.ended in
            omega arith)
      ] in (
        omega arith,
        subst (λ (n : ℕ). IsToday (get_or days n no_day)) final (record {
          duty = (exactly.each (get_or days k no_day)).0 (Contains-get_or days k no_day in');
          last = (
              let duty = (exactly.each (get_or days k no_day)).0 (Contains-get_or days k no_day in') in
              duty.past ∙ ap (λ (r : Run). r.start) rest);
        }),
      )

  -- a weekly rest has ended by its end
  pub first_weekly : (runs : List Run) → AreRestRuns (line_of spans) runs
      → (run : Run) × Contains runs run × (1440 ≤ minutes_of run) × (run.past ≤ start)
  first_weekly runs are =
      let f : First = first_is in
      let from : 15780960 ≤ f.end = f.from in
      (run_of 0 f.end, (are.each (run_of 0 f.end)).1 f.is, omega arith, f.by)

-- ---- what is used

-- one of the runs that has 24 hours and has ended is a weekly rest that has
pub weekly_ended : (line : Line) (runs weekly : List Run) (minute : ℕ) → AreRestRuns line runs → AreRestsOf line 1440 weekly
    → (run : Run) × Contains runs run × (1440 ≤ minutes_of run) × (run.past ≤ minute)
    → (run : Run) × Contains weekly run × (run.past ≤ minute)
weekly_ended line runs weekly minute are exactly (run, among, long, by) =
    (run, (exactly.each run).1 (record { rests = (are.each run).0 among; enough = long }), by)

-- the reduced daily rests since the last weekly rest that has ended
pub reduced_lately : (line : Line) (weekly : List Run) (start : ℕ) (last : Run) (n : ℕ) → AreRestsOf line 1440 weekly
    → Contains weekly last → last.past ≤ start
    → ((run : Run) → Contains weekly run → run.past ≤ start → run.start ≤ last.start)
    → HasCount (λ day. IsReduced line day × (Before day.rest last → ⊥)) EarlierDay n
    → HasCount (IsReducedLately line start) EarlierDay n
reduced_lately line weekly start last n are among ended is_last c =
    how_many_as (λ day. IsReduced line day × (Before day.rest last → ⊥)) (IsReducedLately line start) EarlierDay n
    (λ day. (
      λ h. record {
        reduced = h.0;
        none = λ rest is before by.
            (let l : rest.start ≤ last.start = is_last rest ((are.each rest).1 is) by in
            let b : day.rest.past < rest.start = before in
            h.1 (omega arith));
      },
      λ h. (h.reduced, λ before. h.none last ((are.each last).0 among) before ended),
    ))
    c

-- a minute is in one week
one_week : (a b m : ℕ) → IsInWeek a m → IsInWeek b m → a ≡ b
one_week a b m p q =
    let from : 5760 + 10080 * a ≤ m = p.0 in
    let to : m < 5760 + 10080 * (a + 1) = p.1 in
    let from' : 5760 + 10080 * b ≤ m = q.0 in
    let to' : m < 5760 + 10080 * (b + 1) = q.1 in
    omega arith

-- the extended days before today
pub extended_today : (line : Line) (today : DutyDay) (week n : ℕ) → IsInWeek week today.start
    → HasCount (λ day. IsExtended line week day × (day.start < today.start)) EarlierDay n
    → HasCount (IsExtendedBefore line today) EarlierDay n
extended_today line today week n here c =
    how_many_as (λ day. IsExtended line week day × (day.start < today.start)) (IsExtendedBefore line today) EarlierDay n
    (λ day. (
      λ h. record { week = week; here = here; extended = h.0; before = h.1 },
      λ h. (
        subst (λ (w : ℕ). IsExtended line w day) (one_week h.week week today.start h.here here) h.extended,
        h.before,
      ),
    ))
    c

-- the extended days of a week up to a minute of it
pub extended_counted : (line : Line) (days : List DutyDay) (week today n : ℕ) → AreDutyDays line days → IsInWeek week today
    → HasCount (λ day. Contains days day × ((week_start week ≤ day.start) × (day.start < today)
    × (540 < driving line day.start day.past))) EarlierDay n
    → HasCount (λ day. IsExtended line week day × (day.start < today)) EarlierDay n
extended_counted line days week today n are here c =
    how_many_as (λ day. Contains days day × ((week_start week ≤ day.start) × (day.start < today)
    × (540 < driving line day.start day.past))) (λ day. IsExtended line week day × (day.start < today)) EarlierDay n
    (λ day. (
      λ h. (
        record {
          duty = (are.each day).0 h.0;
          week = (
            h.1.0,
            (
                let b : day.start < today = h.1.1 in
                let l : today < week_start (week + 1) = here.1 in
                omega arith),
          );
          over = h.1.2;
        },
        h.1.1,
      ),
      λ h. ((are.each day).1 h.0.duty, (h.0.week.0, h.1, h.0.over)),
    ))
    c

-- ---- what the code finds

-- the duty days of the spans with the driven minute, of which the last is today
pub record Found (spans : List Span) (base start : ℕ) (seen : List Span) (past : ℕ) (days : List DutyDay) : Type 0 where
  pub driven : IsDriven seen base start past
  pub seen_is : seen ≡ spans ++ single start (start + 1) Drive ∷ []
  pub are : AreDutyDays (line_of seen) days
  pub some : 0 < length days
  pub today : IsDuty (line_of seen) (get_or days (length days - 1) no_day)
  pub ends : (get_or days (length days - 1) no_day).past ≡ start + 1
  pub from : 15780960 ≤ (get_or days (length days - 1) no_day).start
  pub by : (get_or days (length days - 1) no_day).start ≤ 68374080

pub found : (spans : List Span) (base start : ℕ) → IsExamined spans base start → start + 1 ≤ 68374080
    → (seen pushed : List Span) (number past : ℕ) → seen ≡ pushed → pushed ≡ spans ++ single start past Drive ∷ [] → past ≡ number + 1
    → number ≡ start → (runs given : List Run) → AreRestRuns (line_of seen) runs → given ≡ runs → (days : List DutyDay)
    → ((line : Line) → AreRestRuns line given → AreDutyDays line days) → Found spans base start seen past days
found spans base start x within seen pushed number past e f g h runs given are same days of =
    let (d, is) = drive_pushed spans base start x within seen pushed number past e f g h in
    let exactly : AreDutyDays (line_of seen) days = of (line_of seen) (rw same are) in
    let (some, today) = last_day seen base start past d runs days are exactly in
    let in_time : IsInTime (get_or days (length days - 1) no_day) =
    day_in_time seen base past d.examined (get_or days (length days - 1) no_day) today.duty in
    let a : (get_or days (length days - 1) no_day).start < (get_or days (length days - 1) no_day).past = in_time.some in
    let b : (get_or days (length days - 1) no_day).past ≤ 68374080 = in_time.ended in
    record {
      driven = d;
      seen_is = is;
      are = exactly;
      some = some;
      today = today.duty;
      ends = today.last;
      from = day_from seen base past d.examined (get_or days (length days - 1) no_day) today.duty;
      by = omega arith;
    }

-- the last day, as the code takes it
pub last_taken : (days : List DutyDay) (many place : ℕ) (day : DutyDay) → many ≡ length days → 0 < length days → place ≡ many - 1
    → day ≡ get_or days place day → day ≡ get_or days (length days - 1) no_day
last_taken days many place day e some f is =
    let same : place ≡ length days - 1 = omega arith in
    is ∙ get_or_default days place day no_day (omega arith) ∙ ap (λ (k : ℕ). get_or days k no_day) same

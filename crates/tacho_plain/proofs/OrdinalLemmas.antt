-- The ordinals of breaches: the extended days of a week, and the reduced rests since a weekly rest, that come too often (`days`).
use Rattle.std.proofs.Common.{◌≡◌, ℕ, ◌+◌, ◌-◌, ◌<◌, ◌≤◌, ◌⊎◌, inl, inr, List}
use Rattle.std.proofs.Common.{length, get_or, take, refl, sym, ap, subst, ◌∙◌, arith}
use Rattle.std.specs.List.{All, AllPairs, Contains}
use Rattle.std.proofs.lemmas.Bool.{cases_lt, leb-true, leb-false}
use Rattle.std.proofs.lemmas.List.{get_or_default}
use Rattle.std.proofs.lemmas.List.Elements.{All-contains, Contains-get_or}
use Rattle.tacho_law.specs.declared.run.Run.{Run}
use Rattle.tacho_law.specs.declared.days.DutyDay.{DutyDay}
use Rattle.tacho_law.specs.declared.breach.Breach.{Breach}
use Rattle.tacho_law.specs.declared.breach.Kind.TheVariants.{B3, B5}
use Rattle.tacho_law.specs.Runs.{IsRestRun, AreRestRuns, Before, minutes_of, IsRestOf, AreRestsOf}
use Rattle.tacho_law.specs.Line.{Line}
use Rattle.tacho_law.specs.Days.{EarlierDay, IsDuty, IsReduced}
use Rattle.tacho_law.specs.Exactly.{HasCount}
use Rattle.tacho_law.specs.Weeks.{IsInWeek, IsWeeklyRest}
use Rattle.tacho_law.specs.Breaches.{IsExtended, IsB3, IsB5}
use Rattle.tacho_periods.proofs.DaysLemmas.{HaveEnded, pasts_rise}
use Rattle.tacho_periods.proofs.RunsLemmas.{no_run}
use Rattle.tacho_plain.specs.DayBreaches.{IsInTime, AreTheDays}
use Rattle.tacho_plain.specs.DailyDriving.{IsLongDay, IsLongDuty}
use Rattle.tacho_plain.specs.DailyRests.{IsLastEnd}
use Rattle.tacho_law.proofs.OrderLemmas.{same_breach}
use Rattle.tacho_plain.proofs.DayFoundLemmas.{no_day, IsOfDays, long_before}
use Rattle.tacho_law.proofs.LongDrivingLemmas.{too_much_only}
use Rattle.tacho_law.proofs.ExactlyLemmas.{how_many_only, how_many_as}
use Rattle.tacho_plain.proofs.TallyLemmas.{Tallied, IsTallied, AreKeys, tally_counts}

-- a duty day has a minute, and so has its rest
duty_lasts : (line : Line) (day : DutyDay) → IsDuty line day
    → (day.start < day.rest.start) × (day.rest.start < day.rest.past)
duty_lasts line day d =
    let b : d.last.past < day.rest.start = d.neighbours.before in
    let e : day.start ≡ d.last.past = d.start in
    let s : day.rest.start < day.rest.past = d.neighbours.second.rests.some in
    (omega arith, s)

-- no two duty days are before each other
one_way : (line : Line) (x y : DutyDay) → IsDuty line x → IsDuty line y → EarlierDay x y → EarlierDay y x → ⊥
one_way line x y d e before after = let (s, t) = duty_lasts line x d in let (u, v) = duty_lasts line y e in omega arith

-- the week in which the day starts
abbrev pub InWeek : DutyDay → ℕ → Type 0
InWeek day w = IsInWeek w day.start

-- later days have later weeks, or the same
pub week_keys : (line : Line) → AreKeys (IsLongDuty line) InWeek
week_keys line = record {
  rise = λ x y a b m n early (from, before) (from', before').
      (let (s, t) = duty_lasts line x m.duty in let e : x.rest.past ≤ y.start = early in omega arith);
  one = λ x a b m (from, before) (from', before'). omega arith;
}

-- the extended days of a week, up to this day
abbrev pub ExtendedUpTo : Line → ℕ → DutyDay → DutyDay → Type 0
ExtendedUpTo line week day other = IsExtended line week other × (other.start ≤ day.start)

-- the breach of a third or later extended day of its week
pub record B5Of (line : Line) (day : DutyDay) (breach : Breach) : Type 0 where
  pub time : IsInTime day
  pub week : ℕ
  pub ordinal : ℕ
  pub extended : IsExtended line week day
  pub how_many : HasCount (ExtendedUpTo line week day) EarlierDay ordinal
  pub many : 2 < ordinal
  pub long : IsLongDay line B5 540 day breach

-- a day has at most one such breach
pub b5_is : (line : Line) → IsOfDays (B5Of line)
b5_is line = record {
  only = λ day a b p q. too_much_only line B5 540 day.start day.past a b p.long q.long;
  from = λ day b p. p.long.over.moment.above;
  until = λ day b p. long_before line B5 540 day b p.time p.long;
}

-- it is a breach of B5
pub b5_to : (line : Line) (day : DutyDay) (b : Breach) → B5Of line day b → (b.kind ≡ B5) × IsB5 line b
b5_to line day b p = (
  p.long.kind_is,
  record {
    day = day;
    week = p.week;
    ordinal = p.ordinal;
    extended = p.extended;
    how_many = p.how_many;
    many = p.many;
    over = p.long.over;
    since = p.long.since;
  },
)

-- each breach of B5 is that of some day
pub b5_back : (line : Line) (days : List DutyDay) → AreTheDays (IsLongDuty line) days
    → ((x : DutyDay) → Contains days x → IsInTime x) → (b : Breach)
    → (b.kind ≡ B5) × IsB5 line b → (day : DutyDay) × Contains days day × B5Of line day b
b5_back line days are times b (k, h) =
    let in' : Contains days h.day = (are.each h.day).1 (record { duty = h.extended.duty; over = h.extended.over }) in (
      h.day,
      in',
      record {
        time = times h.day in';
        week = h.week;
        ordinal = h.ordinal;
        extended = h.extended;
        how_many = h.how_many;
        many = h.many;
        long = record { kind_is = k; over = h.over; since = h.since };
      },
    )

-- what the tally counts in a week
module _ (line : Line) (xs : List DutyDay) (are : AreTheDays (IsLongDuty line) xs)
    (times : All (λ (x : DutyDay). IsInTime x) xs) (i : ℕ) (within : i < length xs)
    (key count : ℕ) (r : Tallied InWeek (take (i + 1) xs) key count) where
  -- it counts the extended days of the week up to this day
  extended_counts : HasCount (ExtendedUpTo line key (get_or xs i no_day)) EarlierDay count
  extended_counts =
      how_many_as (IsTallied (IsLongDuty line) InWeek key (get_or xs i no_day))
      (ExtendedUpTo line key (get_or xs i no_day)) EarlierDay count
      (λ other. (
        λ h. (record { duty = h.holds.duty; week = h.has; over = h.holds.over }, h.upto),
        λ (x, upto). record { holds = record { duty = x.duty; over = x.over }; has = x.week; upto = upto },
      ))
      (tally_counts (IsLongDuty line) InWeek (week_keys line) xs are times i within key count r)

  -- the day is the third extended one, or a later one
  pub b5_add : InWeek (get_or xs i no_day) key → 2 < count → (b : Breach)
      → IsLongDay line B5 540 (get_or xs i no_day) b → B5Of line (get_or xs i no_day) b
  b5_add in' many b long =
      let m : IsLongDuty line (get_or xs i no_day) =
      (are.each (get_or xs i no_day)).0 (Contains-get_or xs i no_day within) in
      record {
        time = times i no_day within;
        week = key;
        ordinal = count;
        extended = record { duty = m.duty; week = in'; over = m.over };
        how_many = extended_counts;
        many = many;
        long = long;
      }

  -- the day isn't the third
  pub b5_few : InWeek (get_or xs i no_day) key → count ≤ 2 → (b : Breach) → B5Of line (get_or xs i no_day) b → ⊥
  b5_few in' few b p =
      let m : IsLongDuty line (get_or xs i no_day) =
      (are.each (get_or xs i no_day)).0 (Contains-get_or xs i no_day within) in
      let e : p.week ≡ key = (week_keys line).one (get_or xs i no_day) p.week key m p.extended.week in' in
      let s : HasCount (ExtendedUpTo line key (get_or xs i no_day)) EarlierDay p.ordinal =
      subst (λ (w : ℕ). HasCount (ExtendedUpTo line w (get_or xs i no_day)) EarlierDay p.ordinal) e p.how_many in
      let f : p.ordinal ≡ count =
      how_many_only (ExtendedUpTo line key (get_or xs i no_day)) EarlierDay
      (λ x y p q. one_way line x y p.0.duty q.0.duty) p.ordinal count s extended_counts in
      let g : 2 < p.ordinal = p.many in
      omega arith

-- the last weekly rest before a day's rest
pub record IsLast (line : Line) (day : DutyDay) (weekly : Run) : Type 0 where
  pub rest : IsWeeklyRest line weekly
  pub before : Before weekly day.rest
  pub last : (run : Run) → IsWeeklyRest line run → Before weekly run → Before run day.rest → ⊥

-- the end of the last weekly rest before the day's rest is the key
abbrev pub SinceWeekly : Line → DutyDay → ℕ → Type 0
SinceWeekly line day k = (weekly : Run) × IsLast line day weekly × (weekly.past ≡ k)

-- the reduced rests after a weekly rest, up to this day's
abbrev pub ReducedUpTo : Line → Run → DutyDay → DutyDay → Type 0
ReducedUpTo line weekly day other =
    IsReduced line other × Before weekly other.rest × (other.rest.start ≤ day.rest.start)

-- the breach of a fourth or later reduced rest
pub record B3Of (line : Line) (day : DutyDay) (breach : Breach) : Type 0 where
  pub time : IsInTime day
  pub weekly : Run
  pub ordinal : ℕ
  pub kind : breach.kind ≡ B3
  pub reduced : IsReduced line day
  pub last : IsLast line day weekly
  pub how_many : HasCount (ReducedUpTo line weekly day) EarlierDay ordinal
  pub many : 3 < ordinal
  pub moment : breach.moment ≡ day.rest.start
  pub since : breach.since ≡ weekly.past
  pub amount : breach.amount + 3 ≡ ordinal

-- it is a breach of B3
pub b3_to : (line : Line) (day : DutyDay) (b : Breach) → B3Of line day b → (b.kind ≡ B3) × IsB3 line b
b3_to line day b p = (
  p.kind,
  record {
    day = day;
    weekly = p.weekly;
    ordinal = p.ordinal;
    reduced = p.reduced;
    rest = p.last.rest;
    before = p.last.before;
    last = p.last.last;
    how_many = p.how_many;
    many = p.many;
    moment = p.moment;
    since = p.since;
    amount = p.amount;
  },
)

-- each breach of B3 is that of some day
pub b3_back : (line : Line) (days : List DutyDay) → AreTheDays (IsReduced line) days
    → ((x : DutyDay) → Contains days x → IsInTime x) → (b : Breach)
    → (b.kind ≡ B3) × IsB3 line b → (day : DutyDay) × Contains days day × B3Of line day b
b3_back line days are times b (k, h) =
    let in' : Contains days h.day = (are.each h.day).1 h.reduced in (
      h.day,
      in',
      record {
        time = times h.day in';
        weekly = h.weekly;
        ordinal = h.ordinal;
        kind = k;
        reduced = h.reduced;
        last = record { rest = h.rest; before = h.before; last = h.last };
        how_many = h.how_many;
        many = h.many;
        moment = h.moment;
        since = h.since;
        amount = h.amount;
      },
    )

-- over the rest runs of a line
module _ (line : Line) (runs : List Run) (all : AreRestRuns line runs) where
  -- two runs are equal, or one is before the other
  three_ways : (a b : Run) → IsRestRun line a → IsRestRun line b → Before a b ⊎ ((a ≡ b) ⊎ Before b a)
  three_ways a b p q =
      let none : Run = record { start = 0; past = 0 } in
      let (i, in', e) = (all.each a).1 p in
      let (k, in'', f) = (all.each b).1 q in
      let e' : get_or runs i none ≡ a = get_or_default runs i none a in' ∙ e in
      let f' : get_or runs k none ≡ b = get_or_default runs k none b in'' ∙ f in
      elim (cases_lt i k) [
        | inl lt ↦
            inl (subst (λ (x : Run). Before x b) e'
            (subst (λ (x : Run). Before (get_or runs i none) x) f' (all.in_order i k none lt in'')))
        | inr ge ↦ elim (cases_lt k i) [
          | inl gt ↦
              inr (inr (subst (λ (x : Run). Before b x) e'
              (subst (λ (x : Run). Before x (get_or runs i none)) f' (all.in_order k i none gt in'))))
          | inr le ↦
              let g : i ≡ k = omega arith in
              inr (inl (sym e' ∙ (ap (λ (x : ℕ). get_or runs x none) g ∙ f')))
        ]
      ]

  -- a rest of nine hours before the daily rest ends by the day's start
  ends_by_start : (day : DutyDay) (run : Run) → IsDuty line day
      → IsRestOf line 540 run → Before run day.rest → run.past ≤ day.start
  ends_by_start day run d h before =
      let e : day.start ≡ d.last.past = d.start in
      elim (three_ways d.last run d.neighbours.first.rests h.rests) [
        | inl after ↦ absurd (d.neighbours.between run h after before)
        | inr other ↦ elim other [
          | inl same ↦ let f : d.last.past ≡ run.past = ap (λ (x : Run). x.past) same in omega arith
          | inr early ↦
              let f : run.past < d.last.start = early in
              let g : d.last.start < d.last.past = d.neighbours.first.rests.some in
              omega arith
        ]
      ]

  -- a weekly rest is also a rest of nine hours
  weekly_is : (run : Run) → IsWeeklyRest line run → IsRestOf line 540 run
  weekly_is run h = record { rests = h.rests; enough = let e : 1440 ≤ minutes_of run = h.enough in omega arith }

  -- the rests of later days are later
  rests_rise : (a b : DutyDay) → IsDuty line a → IsDuty line b → a.start ≤ b.start → a.rest.start ≤ b.rest.start
  rests_rise a b d e le = elim (cases_lt b.rest.start a.rest.start) [
    | inl lt ↦
        let (s, t) = duty_lasts line b e in
        elim (three_ways b.rest a.rest e.neighbours.second.rests d.neighbours.second.rests) [
          | inl before ↦ absurd (
              let f : b.rest.past ≤ a.start = ends_by_start a b.rest d e.neighbours.second before in
              omega arith)
          | inr other ↦ absurd (elim other [
            | inl same ↦ let f : b.rest.start ≡ a.rest.start = ap (λ (x : Run). x.start) same in omega arith
            | inr after ↦ let f : a.rest.past < b.rest.start = after in let (u, v) = duty_lasts line a d in omega arith
          ])
        ]
    | inr ge ↦ ge
  ]

  -- the days of later rests are later
  days_rise : (a b : DutyDay) → IsDuty line a → IsDuty line b → a.rest.start ≤ b.rest.start → a.start ≤ b.start
  days_rise a b d e le =
      let s : a.start ≡ d.last.past = d.start in
      let o : d.last.past < a.rest.start = d.neighbours.before in
      let f : d.last.past ≤ b.start = ends_by_start b d.last e d.neighbours.first (omega arith) in
      omega arith

  -- a later rest's last weekly rest ends no earlier
  last_rises : (x y : DutyDay) (v w : Run) → x.rest.start ≤ y.rest.start
      → IsLast line x v → IsLast line y w → v.past ≤ w.past
  last_rises x y v w le p q = elim (three_ways v w p.rest.rests q.rest.rests) [
    | inl before ↦ let e : v.past < w.start = before in let s : w.start < w.past = q.rest.rests.some in omega arith
    | inr other ↦ elim other [
      | inl same ↦ let e : v.past ≡ w.past = ap (λ (z : Run). z.past) same in omega arith
      | inr after ↦ absurd (q.last v p.rest after (let b : v.past < x.rest.start = p.before in omega arith))
    ]
  ]

  -- a day has at most one last weekly rest
  last_only : (x : DutyDay) (v w : Run) → IsLast line x v → IsLast line x w → v ≡ w
  last_only x v w p q = elim (three_ways v w p.rest.rests q.rest.rests) [
    | inl before ↦ absurd (p.last w q.rest before q.before)
    | inr other ↦ elim other [
      | inl same ↦ same
      | inr after ↦ absurd (q.last v p.rest after p.before)
    ]
  ]

  -- so the ends of these weekly rests are keys
  pub weekly_keys : AreKeys (IsReduced line) (SinceWeekly line)
  weekly_keys = record {
    rise = λ x y a b m n early (v, p, e) (w, q, f).
        (let (s, t) = duty_lasts line x m.duty in
        let (s', t') = duty_lasts line y n.duty in
        let o : x.rest.past ≤ y.start = early in
        let h : v.past ≤ w.past = last_rises x y v w (omega arith) p q in
        omega arith);
    one = λ x a b m (v, p, e) (w, q, f).
        (let h : v.past ≤ w.past = last_rises x x v w (omega arith) p q in
        let g : w.past ≤ v.past = last_rises x x w v (omega arith) q p in
        omega arith);
  }

  -- a day has at most one such breach
  pub b3_is : IsOfDays (B3Of line)
  b3_is = record {
    only = λ day a b p q.
        (let w : p.weekly ≡ q.weekly = last_only day p.weekly q.weekly p.last q.last in
        let s : HasCount (ReducedUpTo line q.weekly day) EarlierDay p.ordinal =
        subst (λ (z : Run). HasCount (ReducedUpTo line z day) EarlierDay p.ordinal) w p.how_many in
        let o : p.ordinal ≡ q.ordinal =
        how_many_only (ReducedUpTo line q.weekly day) EarlierDay
        (λ x y p q. one_way line x y p.0.duty q.0.duty) p.ordinal q.ordinal s q.how_many in
        let m : a.amount + 3 ≡ p.ordinal = p.amount in
        let n : b.amount + 3 ≡ q.ordinal = q.amount in
        same_breach a b (p.kind ∙ sym q.kind) (p.moment ∙ sym q.moment)
        (p.since ∙ (ap (λ (z : Run). z.past) w ∙ sym q.since)) (omega arith));
    from = λ day b p. (
        let (s, t) = duty_lasts line day p.reduced.duty in
        let e : b.moment ≡ day.rest.start = p.moment in
        omega arith);
    until = λ day b p. (
        let (s, t) = duty_lasts line day p.reduced.duty in
        let e : b.moment ≡ day.rest.start = p.moment in
        omega arith);
  }

  module _ (weeklies : List Run) (rests : AreRestsOf line 1440 weeklies) where
    -- if no weekly rest has ended by the day's start, the day has no key
    pub b3_none : (day : DutyDay) → IsDuty line day
        → All (λ (run : Run). day.start < run.past) weeklies → (k : ℕ) → SinceWeekly line day k → ⊥
    b3_none day d none k (w, p, e) =
        let late : day.start < w.past =
        All-contains (λ (run : Run). day.start < run.past) weeklies w none ((rests.each w).1 p.rest) in
        let early : w.past ≤ day.start = ends_by_start day w d (weekly_is w p.rest) p.before in
        omega arith

    -- the end of the last weekly rest that has ended by the day's start is the key
    pub b3_key : (day : DutyDay) (k : ℕ) → IsDuty line day → IsLastEnd weeklies day.start k → SinceWeekly line day k
    b3_key day k d h =
        let (s, t) = duty_lasts line day d in
        let e : h.run.past ≡ k = h.is in
        let by : k ≤ day.start = h.by in (
          h.run,
          record {
            rest = (rests.each h.run).0 h.among;
            before = omega arith;
            last = λ run w after before.
                (let early : run.past ≤ day.start = ends_by_start day run d (weekly_is run w) before in
                let low : run.past ≤ k = h.last run ((rests.each run).1 w) early in
                let some : run.start < run.past = w.rests.some in
                let o : h.run.past < run.start = after in
                omega arith);
          },
          e,
        )

  -- what the tally counts since a weekly rest
  module _ (xs : List DutyDay) (are : AreTheDays (IsReduced line) xs)
      (times : All (λ (x : DutyDay). IsInTime x) xs) (i : ℕ) (within : i < length xs)
      (key count : ℕ) (r : Tallied (SinceWeekly line) (take (i + 1) xs) key count) where
    -- the day at the index is reduced
    here : IsReduced line (get_or xs i no_day)
    here = (are.each (get_or xs i no_day)).0 (Contains-get_or xs i no_day within)

    -- it counts the reduced rests up to this day's
    reduced_counts : (weekly : Run) → IsLast line (get_or xs i no_day) weekly → weekly.past ≡ key
        → HasCount (ReducedUpTo line weekly (get_or xs i no_day)) EarlierDay count
    reduced_counts weekly last e =
        how_many_as (IsTallied (IsReduced line) (SinceWeekly line) key (get_or xs i no_day))
        (ReducedUpTo line weekly (get_or xs i no_day)) EarlierDay count
        (λ other. (
          λ h.
              (let (w, p, f) = h.has in
              let b : w.past < other.rest.start = p.before in
              (h.holds, omega arith, rests_rise other (get_or xs i no_day) h.holds.duty here.duty h.upto)),
          λ (m, before, upto). record {
            holds = m;
            has = (
              weekly,
              record {
                rest = last.rest;
                before = before;
                last = λ x w after before'. last.last x w after (omega arith);
              },
              e,
            );
            upto = days_rise other (get_or xs i no_day) m.duty here.duty upto;
          },
        ))
        (tally_counts (IsReduced line) (SinceWeekly line) weekly_keys xs are times i within key count r)

    -- the rest is the fourth reduced one, or a later one
    pub b3_add : SinceWeekly line (get_or xs i no_day) key → 3 < count
        → (b : Breach) → b.kind ≡ B3 → b.moment ≡ (get_or xs i no_day).rest.start
        → b.since ≡ key → b.amount + 3 ≡ count → B3Of line (get_or xs i no_day) b
    b3_add (w, p, e) many b kind moment since amount = record {
      time = times i no_day within;
      weekly = w;
      ordinal = count;
      kind = kind;
      reduced = here;
      last = p;
      how_many = reduced_counts w p e;
      many = many;
      moment = moment;
      since = since ∙ sym e;
      amount = amount;
    }

    -- the rest isn't the fourth
    pub b3_few : SinceWeekly line (get_or xs i no_day) key → count ≤ 3
        → (b : Breach) → B3Of line (get_or xs i no_day) b → ⊥
    b3_few (w, p, e) few b q =
        let same : q.weekly ≡ w = last_only (get_or xs i no_day) q.weekly w q.last p in
        let s : HasCount (ReducedUpTo line w (get_or xs i no_day)) EarlierDay q.ordinal =
        subst (λ (z : Run). HasCount (ReducedUpTo line z (get_or xs i no_day)) EarlierDay q.ordinal)
        same q.how_many in
        let o : q.ordinal ≡ count =
        how_many_only (ReducedUpTo line w (get_or xs i no_day)) EarlierDay
        (λ x y p q. one_way line x y p.0.duty q.0.duty) q.ordinal count s (reduced_counts w p e) in
        let m : 3 < q.ordinal = q.many in
        omega arith

-- no run has ended by the minute
pub end_none : (runs : List Run) (minute n : ℕ) → HaveEnded runs minute n
    → n ≡ 0 → All (λ (run : Run). minute < run.past) runs
end_none runs minute n cut e k d within = leb-false (get_or runs k d).past minute (cut.1 k d (omega arith) within)

-- some run has ended by the minute
pub end_some : (runs : List Run) (minute n : ℕ) → All (λ (x : Run). x.start < x.past) runs → AllPairs Before runs
    → HaveEnded runs minute n → n ≤ length runs → 0 < n → IsLastEnd runs minute (get_or runs (n - 1) no_run).past
end_some runs minute n some order cut bound one = record {
  run = get_or runs (n - 1) no_run;
  among = Contains-get_or runs (n - 1) no_run (omega arith);
  is = refl;
  by = leb-true (get_or runs (n - 1) no_run).past minute (cut.0 (n - 1) no_run (omega arith) (omega arith));
  last = λ other (k, in', is) early.
      (let e : get_or runs k no_run ≡ other = get_or_default runs k no_run other in' ∙ is in
      let f : (get_or runs k no_run).past ≡ other.past = ap (λ (z : Run). z.past) e in
      elim (cases_lt k n) [
        | inl lt ↦
            let g : (get_or runs k no_run).past ≤ (get_or runs (n - 1) no_run).past =
            pasts_rise runs some order k (n - 1) no_run (omega arith) (omega arith) in
            omega arith
        | inr ge ↦ absurd (
            let g : minute < (get_or runs k no_run).past =
            leb-false (get_or runs k no_run).past minute (cut.1 k no_run ge in') in
            omega arith)
      ]);
}

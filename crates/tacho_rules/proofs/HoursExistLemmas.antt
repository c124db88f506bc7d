-- There are lists of the breaches of too much driving, of daily rests and of late weekly rests.
use Rattle.std.proofs.Common.{◌≡◌, ℕ, ◌+◌, ◌-◌, ◌<◌, ◌≤◌, ◌⊎◌, inl, inr, List, length, refl, sym, ap, subst, ◌∙◌, arith, min}
use Rattle.std.specs.List.{Contains}
use Rattle.std.proofs.lemmas.Bool.{cases_lt}
use Rattle.tacho_time.specs.declared.span.Activity.{Activity}
use Rattle.tacho_time.specs.declared.span.Activity.TheVariants.{Rest, Available, Work, Drive}
use Rattle.tacho_law.specs.declared.run.Run.{Run}
use Rattle.tacho_law.specs.declared.breach.Kind.{Kind}
use Rattle.tacho_law.specs.declared.breach.Kind.TheVariants.{B1, B2, B3, B4, B5, B6, B7, B8}
use Rattle.tacho_law.specs.declared.breach.Breach.{Breach}
use Rattle.tacho_law.specs.declared.days.DutyDay.{DutyDay}
use Rattle.tacho_law.specs.Line.{Line}
use Rattle.tacho_law.specs.Exactly.{HasCount}
use Rattle.tacho_law.specs.Runs.{IsRestRun, IsRestOf, AreNeighbours, Before, minutes_of}
use Rattle.tacho_law.specs.Driving.{driving, IsDrivingMinute, IsDrivingAbove}
use Rattle.tacho_law.specs.Days.{EarlierDay, IsDuty, HasPortion, IsRegular, IsReduced}
use Rattle.tacho_law.specs.Weeks.{week_start, IsInWeek, IsWeeklyRest}
use Rattle.tacho_law.specs.Breaches.{IsB1, IsB2, IsB3, IsB4, IsB5, IsB6, IsB7, IsB8, IsExtended}
use Rattle.tacho_law.proofs.DrivingLemmas.{driving_minute_only, driving_reaches}
use Rattle.tacho_law.proofs.ExactlyLemmas.{how_many_only}
use Rattle.tacho_law.proofs.OrderLemmas.{same_breach}
use Rattle.tacho_rules.proofs.FiniteLemmas.{Decided, decide_both, decide_either, decide_not, decide_as, decide_lt}
use Rattle.tacho_rules.proofs.FiniteLemmas.{decide_le, decide_eq, decide_some, decide_all, IsFinite, finite_none}
use Rattle.tacho_rules.proofs.FiniteLemmas.{finite_one, finite_as, finite_of, finite_when, finite_where, finite_below}
use Rattle.tacho_rules.proofs.FiniteLemmas.{finite_in, listed}
use Rattle.tacho_rules.proofs.RunsExistLemmas.{IsQuiet, runs_order, finite_rests, finite_neighbours}

-- ---- a breach with given values

-- the breach has this kind, moment and since; `from` plus its amount is `to`
abbrev pub IsTold : Kind → ℕ → ℕ → ℕ → ℕ → Breach → Type 0
IsTold kind moment since from to breach =
    (breach.kind ≡ kind) × ((breach.moment ≡ moment) × ((breach.since ≡ since) × (breach.amount + from ≡ to)))

pub told_only : (kind : Kind) (moment since from to : ℕ) (a b : Breach)
    → IsTold kind moment since from to a → IsTold kind moment since from to b → a ≡ b
told_only kind moment since from to a b p q =
    let e = p.1.1.1 in
    let f = q.1.1.1 in
    same_breach a b (p.0 ∙ sym q.0) (p.1.0 ∙ sym q.1.0) (p.1.1.0 ∙ sym q.1.1.0) (omega (arith, e, f))

pub finite_told : (kind : Kind) (moment since from to : ℕ) → IsFinite (IsTold kind moment since from to)
finite_told kind moment since from to = elim (decide_le from to) [
  | inl l ↦
      let new : Breach = record { kind = kind; moment = moment; since = since; amount = to - from } in
      let is : IsTold kind moment since from to new = (refl, (refl, (refl, omega (arith, l)))) in
      finite_one (IsTold kind moment since from to) new is (λ x p. told_only kind moment since from to new x is p)
  | inr none ↦ finite_none (IsTold kind moment since from to) (λ x p. none (let e = p.1.1.1 in omega (arith, e)))
]

-- ---- more driving than allowed

drive_or : (a : Activity) → Decided (a ≡ Drive)
drive_or Rest = inr (λ e. cc)
drive_or Available = inr (λ e. cc)
drive_or Work = inr (λ e. cc)
drive_or Drive = inl refl

pub decide_driving : (line : Line) (from to k m : ℕ) → Decided (IsDrivingMinute line from to k m)
decide_driving line from to k m = decide_as
    (λ h. record { above = h.0; below = h.1.0; drives = h.1.1.0; earlier = h.1.1.1 })
    (λ is. (is.above, (is.below, (is.drives, is.earlier))))
    (decide_both (decide_le from m) (decide_both (decide_lt m to)
    (decide_both (drive_or (line m)) (decide_eq (driving line from m + 1) k))))

-- the breach has this kind and since; its moment and amount are those of too much driving from one minute to another
abbrev pub IsLong : Line → Kind → ℕ → ℕ → ℕ → ℕ → Breach → Type 0
IsLong line kind limit from to since breach =
    (breach.kind ≡ kind) × (IsDrivingAbove line limit from to breach.moment breach.amount × (breach.since ≡ since))

pub long_only : (line : Line) (kind : Kind) (limit from to since : ℕ) (a b : Breach)
    → IsLong line kind limit from to since a → IsLong line kind limit from to since b → a ≡ b
long_only line kind limit from to since a b p q =
    let e = p.1.0.amount in
    let f = q.1.0.amount in
    same_breach a b (p.0 ∙ sym q.0)
    (driving_minute_only line from to (limit + 1) a.moment b.moment p.1.0.moment q.1.0.moment)
    (p.1.1 ∙ sym q.1.1) (omega (arith, e, f))

pub finite_long : (line : Line) (kind : Kind) (limit from to since : ℕ) → IsFinite (IsLong line kind limit from to since)
finite_long line kind limit from to since =
    elim (decide_some (λ (m : ℕ). m < to) (λ m. IsDrivingMinute line from to (limit + 1) m) (finite_below to)
    (λ m l. decide_driving line from to (limit + 1) m)) [
      | inl h ↦
          let new : Breach = record { kind = kind; moment = h.0; since = since; amount = driving line from to - limit } in
          let l = driving_reaches line from to (limit + 1) h.0 h.1.1 in
          let is : IsLong line kind limit from to since new =
          (refl, (record { moment = h.1.1; amount = omega (arith, l) }, refl)) in
          finite_one (IsLong line kind limit from to since) new is
          (λ x p. long_only line kind limit from to since new x is p)
      | inr none ↦ finite_none (IsLong line kind limit from to since)
          (λ x p. none (x.moment, (p.1.0.moment.below, p.1.0.moment)))
    ]

-- ---- neighbours

module _ (line : Line) (base horizon : ℕ) (quiet : IsQuiet line base horizon) where
  -- driving minutes are before the horizon
  drives_early : (m : ℕ) → line m ≡ Drive → m < horizon
  drives_early m e = elim (cases_lt m horizon) [
    | inl l ↦ l
    | inr l ↦ absurd (let f : line m ≡ Rest = quiet.after m l in let g : Rest ≡ Drive = sym f ∙ e in cc)
  ]

  -- a minute between two neighbours, of rest runs of one sort, determines the two
  pair_only : (S : Run → Type 0) → ((x : Run) → S x → IsRestRun line x) → (a b c d : Run) → S a → S b → S c → S d
      → ((x : Run) → S x → Before a x → Before x b → ⊥) → ((x : Run) → S x → Before c x → Before x d → ⊥)
      → (m : ℕ) → a.past ≤ m → m < b.start → c.past ≤ m → m < d.start → (a ≡ c) × (b ≡ d)
  pair_only S rests a b c d pa pb pc pd none never m la lb lc ld = (
    elim (runs_order line base horizon quiet a c (rests a pa) (rests c pc)) [
      | inl same ↦ same
      | inr r ↦ elim r [
        | inl ac ↦ absurd (none c pc ac (omega (arith, lc, lb)))
        | inr ca ↦ absurd (never a pa ca (omega (arith, la, ld)))
      ]
    ],
    elim (runs_order line base horizon quiet b d (rests b pb) (rests d pd)) [
      | inl same ↦ same
      | inr r ↦ elim r [
        | inl bd ↦ absurd (never b pb (omega (arith, lc, lb)) bd)
        | inr db ↦ absurd (none d pd (omega (arith, la, ld)) db)
      ]
    ],
  )

  -- ---- breaks

  module _ (breaks : List Run) where
    OfPair : Run → Run → Breach → Type 0
    OfPair a b breach =
        (Before a b × ((c : Run) → Contains breaks c → (Before a c × Before c b) → ⊥))
        × ((s : ℕ) × (s < b.start)
        × (IsDrivingMinute line a.past b.start 1 s × IsLong line B1 270 a.past b.start s breach))

    finite_pair : (a b : Run) → IsFinite (OfPair a b)
    unfolding OfPair
    finite_pair a b =
        finite_when (Before a b × ((c : Run) → Contains breaks c → (Before a c × Before c b) → ⊥))
        (λ breach. (s : ℕ) × (s < b.start)
        × (IsDrivingMinute line a.past b.start 1 s × IsLong line B1 270 a.past b.start s breach))
        (decide_both (decide_lt a.past b.start)
        (decide_all (λ c. Contains breaks c) (λ c. (Before a c × Before c b) → ⊥) (finite_in breaks)
        (λ c i. decide_not (decide_both (decide_lt a.past c.start) (decide_lt c.past b.start)))))
        (λ near. finite_of (λ (s : ℕ). s < b.start)
        (λ s breach. IsDrivingMinute line a.past b.start 1 s × IsLong line B1 270 a.past b.start s breach)
        (finite_below b.start)
        (λ s l. finite_when (IsDrivingMinute line a.past b.start 1 s) (IsLong line B1 270 a.past b.start s)
        (decide_driving line a.past b.start 1 s) (λ d. finite_long line B1 270 a.past b.start s)))

    pub finite_b1 : IsFinite (λ (breach : Breach). (breach.kind ≡ B1) × IsB1 line breaks breach)
    unfolding OfPair
    finite_b1 =
        finite_as
        (λ breach. (a : Run) × Contains breaks a × ((b : Run) × Contains breaks b × OfPair a b breach))
        (λ breach. (breach.kind ≡ B1) × IsB1 line breaks breach)
        (λ breach. (
          λ h.
              let p = h.2.2 in
              let d = p.1.2.0 in
              let long = p.1.2.1 in (
                long.0,
                record {
                  earlier = h.0;
                  later = h.2.0;
                  first = h.1;
                  second = h.2.1;
                  before = p.0.0;
                  between = λ c i e f. p.0.1 c i (e, f);
                  over = long.1.0;
                  since = subst (λ (s : ℕ). IsDrivingMinute line h.0.past h.2.0.start 1 s) (sym long.1.1) d;
                },
              ),
          λ h.
              let is = h.1 in (
                is.earlier,
                is.first,
                (
                  is.later,
                  is.second,
                  (
                    (is.before, λ c i e. is.between c i e.0 e.1),
                    (breach.since, is.since.below, (is.since, (h.0, (is.over, refl)))),
                  ),
                ),
              ),
        ))
        (finite_of (λ a. Contains breaks a) (λ a breach. (b : Run) × Contains breaks b × OfPair a b breach) (finite_in breaks)
        (λ a i. finite_of (λ b. Contains breaks b) (λ b breach. OfPair a b breach) (finite_in breaks)
        (λ b j. finite_pair a b)))

    pub b1_only : ((x : Run) → Contains breaks x → IsRestRun line x) → (x y : Breach) → x.kind ≡ B1 → y.kind ≡ B1
        → IsB1 line breaks x → IsB1 line breaks y → x.since ≡ y.since → x ≡ y
    b1_only rests x y e f p q same =
        let one = p.since.above in
        let two = p.since.below in
        let three = q.since.above in
        let four = q.since.below in
        let both = pair_only (λ r. Contains breaks r) rests p.earlier p.later q.earlier q.later p.first p.second q.first q.second p.between q.between
        x.since one two (omega (arith, three, same)) (omega (arith, four, same)) in
        let over : IsDrivingAbove line 270 q.earlier.past p.later.start x.moment x.amount =
        subst (λ (r : Run). IsDrivingAbove line 270 r.past p.later.start x.moment x.amount) both.0 p.over in
        let over' : IsDrivingAbove line 270 q.earlier.past q.later.start x.moment x.amount =
        subst (λ (r : Run). IsDrivingAbove line 270 q.earlier.past r.start x.moment x.amount) both.1 over in
        long_only line B1 270 q.earlier.past q.later.start y.since x y (e, (over', same)) (f, (q.over, refl))

  -- ---- weeks

  -- the breach has this kind, and is of the driving from the start of a week on, over this many weeks
  abbrev IsWeekly : Kind → ℕ → ℕ → Breach → Type 0
  IsWeekly kind limit n breach =
      (w : ℕ) × (w < horizon) × IsLong line kind limit (week_start w) (week_start (w + n)) (week_start w) breach

  finite_weekly : (kind : Kind) (limit n : ℕ) → IsFinite (IsWeekly kind limit n)
  finite_weekly kind limit n =
      finite_of (λ (w : ℕ). w < horizon)
      (λ w breach. IsLong line kind limit (week_start w) (week_start (w + n)) (week_start w) breach) (finite_below horizon)
      (λ w l. finite_long line kind limit (week_start w) (week_start (w + n)) (week_start w))

  -- a week with driving begins before the horizon
  early_week : (w m : ℕ) → week_start w ≤ m → line m ≡ Drive → w < horizon
  early_week w m l e = let k = drives_early m e in omega (arith, l, k)

  weekly_only : (kind : Kind) (limit n w v : ℕ) (x y : Breach)
      → IsLong line kind limit (week_start w) (week_start (w + n)) (week_start w) x
      → IsLong line kind limit (week_start v) (week_start (v + n)) (week_start v) y → x.since ≡ y.since → x ≡ y
  weekly_only kind limit n w v x y p q same =
      let e : x.since ≡ week_start w = p.1.1 in
      let f : y.since ≡ week_start v = q.1.1 in
      let g : w ≡ v = omega (arith, e, f, same) in
      long_only line kind limit (week_start v) (week_start (v + n)) (week_start v) x y
      (subst (λ (u : ℕ). IsLong line kind limit (week_start u) (week_start (u + n)) (week_start u) x) g p) q

  pub finite_b6 : IsFinite (λ (breach : Breach). (breach.kind ≡ B6) × IsB6 line breach)
  finite_b6 = finite_as (IsWeekly B6 3360 1) (λ breach. (breach.kind ≡ B6) × IsB6 line breach)
      (λ breach. (
        λ h. (h.2.0, record { week = h.0; over = h.2.1.0; since = h.2.1.1 }),
        λ h. (
          h.1.week,
          early_week h.1.week breach.moment h.1.over.moment.above h.1.over.moment.drives,
          (h.0, (h.1.over, h.1.since)),
        ),
      ))
      (finite_weekly B6 3360 1)

  pub b6_only : (x y : Breach) → x.kind ≡ B6 → y.kind ≡ B6 → IsB6 line x → IsB6 line y → x.since ≡ y.since → x ≡ y
  b6_only x y e f p q same =
      weekly_only B6 3360 1 p.week q.week x y (e, (p.over, p.since)) (f, (q.over, q.since)) same

  pub finite_b7 : IsFinite (λ (breach : Breach). (breach.kind ≡ B7) × IsB7 line breach)
  finite_b7 = finite_as (IsWeekly B7 5400 2) (λ breach. (breach.kind ≡ B7) × IsB7 line breach)
      (λ breach. (
        λ h. (h.2.0, record { week = h.0; over = h.2.1.0; since = h.2.1.1 }),
        λ h. (
          h.1.week,
          early_week h.1.week breach.moment h.1.over.moment.above h.1.over.moment.drives,
          (h.0, (h.1.over, h.1.since)),
        ),
      ))
      (finite_weekly B7 5400 2)

  pub b7_only : (x y : Breach) → x.kind ≡ B7 → y.kind ≡ B7 → IsB7 line x → IsB7 line y → x.since ≡ y.since → x ≡ y
  b7_only x y e f p q same =
      weekly_only B7 5400 2 p.week q.week x y (e, (p.over, p.since)) (f, (q.over, q.since)) same

  -- ---- duty days

  day_of : Run → Run → DutyDay
  day_of last rest = record { start = last.past; past = rest.start; rest = rest }

  same_day : (last : Run) (day : DutyDay) → day.start ≡ last.past → day.past ≡ day.rest.start → day_of last day.rest ≡ day
  unfolding day_of
  same_day last day e f =
      let one : ℕ → DutyDay = λ m. record { start = m; past = day.rest.start; rest = day.rest } in
      let two : ℕ → DutyDay = λ m. record { start = day.start; past = m; rest = day.rest } in
      ap one (sym e) ∙ ap two (sym f)

  pub finite_days : IsFinite (IsDuty line)
  unfolding day_of
  finite_days =
      finite_as (λ day. (p : Run × Run) × AreNeighbours line 540 p.0 p.1 × (day_of p.0 p.1 ≡ day)) (IsDuty line)
      (λ day. (
        λ h. subst (IsDuty line) h.2 (record { last = h.0.0; neighbours = h.1; start = refl; past = refl }),
        λ is. ((is.last, day.rest), is.neighbours, same_day is.last day is.start is.past),
      ))
      (finite_of (λ (p : Run × Run). AreNeighbours line 540 p.0 p.1) (λ p day. day_of p.0 p.1 ≡ day)
      (finite_neighbours line base horizon quiet 540)
      (λ p n. finite_one (λ day. day_of p.0 p.1 ≡ day) (day_of p.0 p.1) refl (λ day e. e)))

  days_by : (a b : DutyDay) → (p : IsDuty line a) → (q : IsDuty line b) → p.last ≡ q.last → a.rest ≡ b.rest → a ≡ b
  unfolding day_of
  days_by a b p q e f =
      sym (same_day p.last a p.start p.past) ∙ ap (λ (r : Run). day_of r a.rest) e ∙ ap (λ (r : Run). day_of q.last r) f
      ∙ same_day q.last b q.start q.past

  -- a duty day is determined by its start
  day_only : (a b : DutyDay) → IsDuty line a → IsDuty line b → a.start ≡ b.start → a ≡ b
  day_only a b p q same =
      let e = p.start in
      let f = q.start in
      let g = p.neighbours.before in
      let h = q.neighbours.before in
      let both = pair_only (IsRestOf line 540) (λ x is. is.rests) p.last a.rest q.last b.rest p.neighbours.first p.neighbours.second
      q.neighbours.first q.neighbours.second p.neighbours.between q.neighbours.between a.start
      (omega (arith, e)) (omega (arith, e, g)) (omega (arith, same, f)) (omega (arith, same, f, h)) in
      days_by a b p q both.0 both.1

  -- duty days follow one another in the order of their rests
  apart_days : (a b : DutyDay) → (p : IsDuty line a) → (q : IsDuty line b) → Before a.rest b.rest → EarlierDay a b
  apart_days a b p q l =
      let e = q.start in
      elim (runs_order line base horizon quiet a.rest q.last p.neighbours.second.rests q.neighbours.first.rests) [
        | inl same ↦ let f : a.rest.past ≡ q.last.past = ap (λ (r : Run). r.past) same in omega (arith, e, f)
        | inr r ↦ elim r [
          | inl before ↦ let k = q.neighbours.first.rests.some in omega (arith, before, k, e)
          | inr behind ↦ absurd (q.neighbours.between a.rest p.neighbours.second behind l)
        ]
      ]

  days_order : (a b : DutyDay) → IsDuty line a → IsDuty line b → (a ≡ b) ⊎ (EarlierDay a b ⊎ EarlierDay b a)
  days_order a b p q =
      elim (runs_order line base horizon quiet a.rest b.rest p.neighbours.second.rests q.neighbours.second.rests) [
        | inr r ↦ elim r [
          | inl l ↦ inr (inl (apart_days a b p q l))
          | inr l ↦ inr (inr (apart_days b a q p l))
        ]
        | inl same ↦ inl (elim (runs_order line base horizon quiet p.last q.last p.neighbours.first.rests q.neighbours.first.rests) [
          | inl one ↦ days_by a b p q one same
          | inr r ↦ absurd (elim r [
            | inl l ↦ p.neighbours.between q.last q.neighbours.first l
                (let e : a.rest.start ≡ b.rest.start = ap (λ (x : Run). x.start) same in
                let k = q.neighbours.before in omega (arith, e, k))
            | inr l ↦ q.neighbours.between p.last p.neighbours.first l
                (let e : a.rest.start ≡ b.rest.start = ap (λ (x : Run). x.start) same in
                let k = p.neighbours.before in omega (arith, e, k))
          ])
        ])
      ]

  -- a duty day begins before its rest ends
  day_some : (a : DutyDay) → IsDuty line a → a.start < a.rest.past
  day_some a p =
      let e = p.start in
      let k = p.neighbours.before in
      let l = p.neighbours.second.rests.some in
      omega (arith, e, k, l)

  -- how many duty days satisfy `P`
  how_many : (P : DutyDay → Type 0) → ((day : DutyDay) → P day → IsDuty line day) → IsFinite P → (n : ℕ) × HasCount P EarlierDay n
  how_many P duty f =
      let all = listed P EarlierDay (λ a b p q. days_order a b (duty a p) (duty b q))
      (λ a b c p q r e g. (let k = day_some b (duty b q) in omega (arith, e, g, k))) f in
      (length all.0, record { all = all.0; exactly = all.1; count = refl })

  one_number : (P : DutyDay → Type 0) → ((day : DutyDay) → P day → IsDuty line day) → (n m : ℕ)
      → HasCount P EarlierDay n → HasCount P EarlierDay m → n ≡ m
  one_number P duty =
      how_many_only P EarlierDay (λ a b p q e f.
      (let k = day_some a (duty a p) in let l = day_some b (duty b q) in omega (arith, e, f, k, l)))

  decide_portion : (day : DutyDay) (n : ℕ) → Decided (HasPortion day n)
  decide_portion day n = decide_le (day.past + n) (min day.rest.past (day.start + 1440))

  decide_regular : (day : DutyDay) → Decided (IsRegular line day)
  decide_regular day =
      decide_either (decide_portion day 660)
      (decide_both (decide_portion day 540)
      (decide_as (λ h. (h.0, h.1.0, h.1.1.0, h.1.1.1)) (λ h. (h.0, (h.1, (h.2, h.3))))
      (decide_some (IsRestOf line 180) (λ part. (day.start ≤ part.start) × (part.past ≤ day.past))
      (finite_rests line base horizon quiet 180)
      (λ part is. decide_both (decide_le day.start part.start) (decide_le part.past day.past)))))

  finite_reduced : IsFinite (IsReduced line)
  finite_reduced =
      finite_as (λ day. IsDuty line day × (HasPortion day 540 × ((¬ (IsRegular line day)) × (minutes_of day.rest < 1440))))
      (IsReduced line)
      (λ day. (
        λ h. record { duty = h.0; portion = h.1.0; irregular = h.1.1.0; short = h.1.1.1 },
        λ is. (is.duty, (is.portion, (is.irregular, is.short))),
      ))
      (finite_where (IsDuty line) (λ day. HasPortion day 540 × ((¬ (IsRegular line day)) × (minutes_of day.rest < 1440)))
      finite_days
      (λ day duty. decide_both (decide_portion day 540)
      (decide_both (decide_not (decide_regular day)) (decide_lt (minutes_of day.rest) 1440))))

  -- ---- daily rests

  pub finite_b2 : IsFinite (λ (breach : Breach). (breach.kind ≡ B2) × IsB2 line breach)
  finite_b2 =
      finite_as
      (λ breach. (day : DutyDay) × IsDuty line day × ((¬ (HasPortion day 540))
      × IsTold B2 (day.start + 900) day.start (min day.rest.past (day.start + 1440)) (540 + day.past) breach))
      (λ breach. (breach.kind ≡ B2) × IsB2 line breach)
      (λ breach. (
        λ h. (
          h.2.1.0,
          record {
            day = h.0;
            duty = h.1;
            short = h.2.0;
            moment = h.2.1.1.0;
            since = h.2.1.1.1.0;
            amount = h.2.1.1.1.1;
          },
        ),
        λ h. (h.1.day, h.1.duty, (h.1.short, (h.0, (h.1.moment, (h.1.since, h.1.amount))))),
      ))
      (finite_of (IsDuty line) (λ day breach. (¬ (HasPortion day 540))
      × IsTold B2 (day.start + 900) day.start (min day.rest.past (day.start + 1440)) (540 + day.past) breach)
      finite_days
      (λ day duty. finite_when (¬ (HasPortion day 540))
      (IsTold B2 (day.start + 900) day.start (min day.rest.past (day.start + 1440)) (540 + day.past))
      (decide_not (decide_portion day 540))
      (λ short. finite_told B2 (day.start + 900) day.start (min day.rest.past (day.start + 1440)) (540 + day.past))))

  pub b2_only : (x y : Breach) → x.kind ≡ B2 → y.kind ≡ B2 → IsB2 line x → IsB2 line y → x.since ≡ y.since → x ≡ y
  b2_only x y e f p q same =
      let g = p.since in
      let h = q.since in
      let one : p.day ≡ q.day = day_only p.day q.day p.duty q.duty (omega (arith, g, h, same)) in
      told_only B2 (q.day.start + 900) q.day.start (min q.day.rest.past (q.day.start + 1440)) (540 + q.day.past) x y
      (subst (λ (day : DutyDay).
      IsTold B2 (day.start + 900) day.start (min day.rest.past (day.start + 1440)) (540 + day.past) x) one
      (e, (p.moment, (p.since, p.amount))))
      (f, (q.moment, (q.since, q.amount)))

  -- ---- reduced daily rests

  abbrev ReducedSince : DutyDay → Run → DutyDay → Type 0
  ReducedSince day weekly other = IsReduced line other × Before weekly other.rest × (other.rest.start ≤ day.rest.start)

  finite_since : (day : DutyDay) (weekly : Run) → IsFinite (ReducedSince day weekly)
  finite_since day weekly =
      finite_as (λ other. IsReduced line other × (Before weekly other.rest × (other.rest.start ≤ day.rest.start)))
      (ReducedSince day weekly)
      (λ other. (λ h. (h.0, h.1.0, h.1.1), λ h. (h.0, (h.1, h.2))))
      (finite_where (IsReduced line) (λ other. Before weekly other.rest × (other.rest.start ≤ day.rest.start)) finite_reduced
      (λ other is. decide_both (decide_lt weekly.past other.rest.start) (decide_le other.rest.start day.rest.start)))

  -- the last weekly rest before a day's rest
  abbrev IsLast : DutyDay → Run → Type 0
  IsLast day weekly =
      Before weekly day.rest × ((run : Run) → IsWeeklyRest line run → (Before weekly run × Before run day.rest) → ⊥)

  abbrev OfLast : DutyDay → Run → Breach → Type 0
  OfLast day weekly breach =
      IsLast day weekly
      × ((n : ℕ) × HasCount (ReducedSince day weekly) EarlierDay n
      × ((3 < n) × IsTold B3 day.rest.start weekly.past 3 n breach))

  finite_last : (day : DutyDay) (weekly : Run) → IsFinite (OfLast day weekly)
  finite_last day weekly =
      let duty : (other : DutyDay) → ReducedSince day weekly other → IsDuty line other = λ other h. h.0.duty in
      let count = how_many (ReducedSince day weekly) duty (finite_since day weekly) in
      finite_when (IsLast day weekly)
      (λ breach. (n : ℕ) × HasCount (ReducedSince day weekly) EarlierDay n
      × ((3 < n) × IsTold B3 day.rest.start weekly.past 3 n breach))
      (decide_both (decide_lt weekly.past day.rest.start)
      (decide_all (IsWeeklyRest line) (λ run. (Before weekly run × Before run day.rest) → ⊥)
      (finite_rests line base horizon quiet 1440)
      (λ run is. decide_not (decide_both (decide_lt weekly.past run.start) (decide_lt run.past day.rest.start)))))
      (λ last. finite_of (λ n. HasCount (ReducedSince day weekly) EarlierDay n)
      (λ n breach. (3 < n) × IsTold B3 day.rest.start weekly.past 3 n breach)
      (finite_one (λ n. HasCount (ReducedSince day weekly) EarlierDay n) count.0 count.1
      (λ n so. one_number (ReducedSince day weekly) duty count.0 n count.1 so))
      (λ n so. finite_when (3 < n) (IsTold B3 day.rest.start weekly.past 3 n) (decide_lt 3 n)
      (λ many. finite_told B3 day.rest.start weekly.past 3 n)))

  pub finite_b3 : IsFinite (λ (breach : Breach). (breach.kind ≡ B3) × IsB3 line breach)
  finite_b3 =
      finite_as
      (λ breach. (day : DutyDay) × IsReduced line day × ((weekly : Run) × IsWeeklyRest line weekly × OfLast day weekly breach))
      (λ breach. (breach.kind ≡ B3) × IsB3 line breach)
      (λ breach. (
        λ h.
            let w = h.2 in
            let o = w.2 in
            let t = o.1.2.1 in (
              t.0,
              record {
                day = h.0;
                weekly = w.0;
                ordinal = o.1.0;
                reduced = h.1;
                rest = w.1;
                before = o.0.0;
                last = λ run is e f. o.0.1 run is (e, f);
                how_many = o.1.1;
                many = o.1.2.0;
                moment = t.1.0;
                since = t.1.1.0;
                amount = t.1.1.1;
              },
            ),
        λ h.
            let is = h.1 in (
              is.day,
              is.reduced,
              (
                is.weekly,
                is.rest,
                (
                  (is.before, λ run r e. is.last run r e.0 e.1),
                  (is.ordinal, is.how_many, (is.many, (h.0, (is.moment, (is.since, is.amount))))),
                ),
              ),
            ),
      ))
      (finite_of (IsReduced line) (λ day breach. (weekly : Run) × IsWeeklyRest line weekly × OfLast day weekly breach) finite_reduced
      (λ day r. finite_of (IsWeeklyRest line) (λ weekly breach. OfLast day weekly breach) (finite_rests line base horizon quiet 1440)
      (λ weekly is. finite_last day weekly)))

  -- a run is determined by its end
  one_past : (a b : Run) → IsRestRun line a → IsRestRun line b → a.past ≡ b.past → a ≡ b
  one_past a b p q e = elim (runs_order line base horizon quiet a b p q) [
    | inl same ↦ same
    | inr r ↦
        let k = p.some in
        let l = q.some in
        absurd (elim r [ inl h ↦ omega (arith, h, e, l) | inr h ↦ omega (arith, h, e, k) ])
  ]

  pub b3_only : (x y : Breach) → x.kind ≡ B3 → y.kind ≡ B3 → IsB3 line x → IsB3 line y → x.moment ≡ y.moment
      → x.since ≡ y.since → x ≡ y
  b3_only x y e f p q moments same =
      let a = p.moment in
      let b = q.moment in
      let c = p.since in
      let d = q.since in
      let one : p.day ≡ q.day = elim (days_order p.day q.day p.reduced.duty q.reduced.duty) [
        | inl is ↦ is
        | inr r ↦
            let k = p.reduced.duty.neighbours.second.rests.some in
            let l = q.reduced.duty.neighbours.second.rests.some in
            let i = p.reduced.duty.neighbours.before in
            let j = q.reduced.duty.neighbours.before in
            let g = p.reduced.duty.start in
            let h = q.reduced.duty.start in
            absurd (elim r [
              | inl before ↦ omega (arith, a, b, moments, k, l, i, j, g, h, before)
              | inr before ↦ omega (arith, a, b, moments, k, l, i, j, g, h, before)
            ])
      ] in
      let two : p.weekly ≡ q.weekly = one_past p.weekly q.weekly p.rest.rests q.rest.rests (omega (arith, c, d, same)) in
      let so : HasCount (ReducedSince q.day p.weekly) EarlierDay p.ordinal =
      subst (λ (day : DutyDay). HasCount (ReducedSince day p.weekly) EarlierDay p.ordinal) one p.how_many in
      let so' : HasCount (ReducedSince q.day q.weekly) EarlierDay p.ordinal =
      subst (λ (run : Run). HasCount (ReducedSince q.day run) EarlierDay p.ordinal) two so in
      let three : p.ordinal ≡ q.ordinal =
      one_number (ReducedSince q.day q.weekly) (λ other h. h.0.duty) p.ordinal q.ordinal so' q.how_many in
      let g = p.amount in
      let h = q.amount in
      same_breach x y (e ∙ sym f) moments same (omega (arith, g, h, three))

  -- ---- a day's driving

  pub finite_b4 : IsFinite (λ (breach : Breach). (breach.kind ≡ B4) × IsB4 line breach)
  finite_b4 =
      finite_as (λ breach. (day : DutyDay) × IsDuty line day × IsLong line B4 600 day.start day.past day.start breach)
      (λ breach. (breach.kind ≡ B4) × IsB4 line breach)
      (λ breach. (
        λ h. (h.2.0, record { day = h.0; duty = h.1; over = h.2.1.0; since = h.2.1.1 }),
        λ h. (h.1.day, h.1.duty, (h.0, (h.1.over, h.1.since))),
      ))
      (finite_of (IsDuty line) (λ day breach. IsLong line B4 600 day.start day.past day.start breach) finite_days
      (λ day duty. finite_long line B4 600 day.start day.past day.start))

  long_day_only : (kind : Kind) (limit : ℕ) (a b : DutyDay) (x y : Breach) → IsDuty line a → IsDuty line b
      → IsLong line kind limit a.start a.past a.start x → IsLong line kind limit b.start b.past b.start y
      → x.since ≡ y.since → x ≡ y
  long_day_only kind limit a b x y d d' p q same =
      let g = p.1.1 in
      let h = q.1.1 in
      let one : a ≡ b = day_only a b d d' (omega (arith, g, h, same)) in
      long_only line kind limit b.start b.past b.start x y
      (subst (λ (day : DutyDay). IsLong line kind limit day.start day.past day.start x) one p) q

  pub b4_only : (x y : Breach) → x.kind ≡ B4 → y.kind ≡ B4 → IsB4 line x → IsB4 line y → x.since ≡ y.since → x ≡ y
  b4_only x y e f p q same =
      long_day_only B4 600 p.day q.day x y p.duty q.duty (e, (p.over, p.since)) (f, (q.over, q.since)) same

  decide_week : (w m : ℕ) → Decided (IsInWeek w m)
  decide_week w m = decide_both (decide_le (week_start w) m) (decide_lt m (week_start (w + 1)))

  finite_extended : (w : ℕ) → IsFinite (IsExtended line w)
  finite_extended w =
      finite_as (λ day. IsDuty line day × (IsInWeek w day.start × (540 < driving line day.start day.past))) (IsExtended line w)
      (λ day. (λ h. record { duty = h.0; week = h.1.0; over = h.1.1 }, λ is. (is.duty, (is.week, is.over))))
      (finite_where (IsDuty line) (λ day. IsInWeek w day.start × (540 < driving line day.start day.past)) finite_days
      (λ day duty. decide_both (decide_week w day.start) (decide_lt 540 (driving line day.start day.past))))

  abbrev ExtendedBy : ℕ → DutyDay → DutyDay → Type 0
  ExtendedBy w day other = IsExtended line w other × (other.start ≤ day.start)

  abbrev OfWeek : DutyDay → ℕ → Breach → Type 0
  OfWeek day w breach =
      IsExtended line w day
      × ((n : ℕ) × HasCount (ExtendedBy w day) EarlierDay n
      × ((2 < n) × IsLong line B5 540 day.start day.past day.start breach))

  finite_week : (day : DutyDay) (w : ℕ) → IsDuty line day → IsFinite (OfWeek day w)
  finite_week day w is =
      let duty : (other : DutyDay) → ExtendedBy w day other → IsDuty line other = λ other h. h.0.duty in
      let count = how_many (ExtendedBy w day) duty
      (finite_where (IsExtended line w) (λ other. other.start ≤ day.start) (finite_extended w)
      (λ other e. decide_le other.start day.start)) in
      finite_when (IsExtended line w day)
      (λ breach. (n : ℕ) × HasCount (ExtendedBy w day) EarlierDay n
      × ((2 < n) × IsLong line B5 540 day.start day.past day.start breach))
      (decide_as (λ h. record { duty = is; week = h.0; over = h.1 }) (λ e. (e.week, e.over))
      (decide_both (decide_week w day.start) (decide_lt 540 (driving line day.start day.past))))
      (λ e. finite_of (λ n. HasCount (ExtendedBy w day) EarlierDay n)
      (λ n breach. (2 < n) × IsLong line B5 540 day.start day.past day.start breach)
      (finite_one (λ n. HasCount (ExtendedBy w day) EarlierDay n) count.0 count.1
      (λ n so. one_number (ExtendedBy w day) duty count.0 n count.1 so))
      (λ n so. finite_when (2 < n) (IsLong line B5 540 day.start day.past day.start) (decide_lt 2 n)
      (λ many. finite_long line B5 540 day.start day.past day.start)))

  pub finite_b5 : IsFinite (λ (breach : Breach). (breach.kind ≡ B5) × IsB5 line breach)
  finite_b5 =
      finite_as
      (λ breach. (day : DutyDay) × IsDuty line day × ((w : ℕ) × (w < day.start + 1) × OfWeek day w breach))
      (λ breach. (breach.kind ≡ B5) × IsB5 line breach)
      (λ breach. (
        λ h.
            let o = h.2.2 in
            let long = o.1.2.1 in (
              long.0,
              record {
                day = h.0;
                week = h.2.0;
                ordinal = o.1.0;
                extended = o.0;
                how_many = o.1.1;
                many = o.1.2.0;
                over = long.1.0;
                since = long.1.1;
              },
            ),
        λ h.
            let is = h.1 in
            let l = is.extended.week.0 in (
              is.day,
              is.extended.duty,
              (
                is.week,
                omega (arith, l),
                (
                  is.extended,
                  (is.ordinal, is.how_many, (is.many, (h.0, (is.over, is.since)))),
                ),
              ),
            ),
      ))
      (finite_of (IsDuty line) (λ day breach. (w : ℕ) × (w < day.start + 1) × OfWeek day w breach) finite_days
      (λ day duty. finite_of (λ (w : ℕ). w < day.start + 1) (λ w breach. OfWeek day w breach) (finite_below (day.start + 1))
      (λ w l. finite_week day w duty)))

  pub b5_only : (x y : Breach) → x.kind ≡ B5 → y.kind ≡ B5 → IsB5 line x → IsB5 line y → x.since ≡ y.since → x ≡ y
  b5_only x y e f p q same =
      long_day_only B5 540 p.day q.day x y p.extended.duty q.extended.duty (e, (p.over, p.since)) (f, (q.over, q.since)) same

  -- ---- late weekly rests

  pub finite_b8 : IsFinite (λ (breach : Breach). (breach.kind ≡ B8) × IsB8 line breach)
  finite_b8 =
      finite_as
      (λ breach. (p : Run × Run) × AreNeighbours line 1440 p.0 p.1
      × (IsTold B8 (p.0.past + 8640) p.0.past (p.0.past + 8640) p.1.start breach × (0 < breach.amount)))
      (λ breach. (breach.kind ≡ B8) × IsB8 line breach)
      (λ breach. (
        λ h.
            let t = h.2.0 in
            let a = t.1.0 in
            let b = t.1.1.1 in (
              t.0,
              record {
                earlier = h.0.0;
                later = h.0.1;
                neighbours = h.1;
                moment = t.1.0;
                since = t.1.1.0;
                late = h.2.1;
                amount = omega (arith, a, b);
              },
            ),
        λ h.
            let is = h.1 in
            let a = is.moment in
            let b = is.amount in
            ((is.earlier, is.later), is.neighbours, ((h.0, (is.moment, (is.since, omega (arith, a, b)))), is.late)),
      ))
      (finite_of (λ (p : Run × Run). AreNeighbours line 1440 p.0 p.1)
      (λ p breach. IsTold B8 (p.0.past + 8640) p.0.past (p.0.past + 8640) p.1.start breach × (0 < breach.amount))
      (finite_neighbours line base horizon quiet 1440)
      (λ p n. finite_where (IsTold B8 (p.0.past + 8640) p.0.past (p.0.past + 8640) p.1.start) (λ breach. 0 < breach.amount)
      (finite_told B8 (p.0.past + 8640) p.0.past (p.0.past + 8640) p.1.start)
      (λ breach t. decide_lt 0 breach.amount)))

  pub b8_only : (x y : Breach) → x.kind ≡ B8 → y.kind ≡ B8 → IsB8 line x → IsB8 line y → x.since ≡ y.since → x ≡ y
  b8_only x y e f p q same =
      let a = p.since in
      let b = q.since in
      let c = p.neighbours.before in
      let d = q.neighbours.before in
      let both = pair_only (IsRestOf line 1440) (λ r is. is.rests) p.earlier p.later q.earlier q.later p.neighbours.first p.neighbours.second
      q.neighbours.first q.neighbours.second p.neighbours.between q.neighbours.between x.since
      (omega (arith, a)) (omega (arith, a, c)) (omega (arith, b, same)) (omega (arith, b, d, same)) in
      let one : p.later.start ≡ q.later.start = ap (λ (r : Run). r.start) both.1 in
      let g = p.moment in
      let h = q.moment in
      let i = p.amount in
      let j = q.amount in
      same_breach x y (e ∙ sym f) (omega (arith, g, h, a, b, same)) same (omega (arith, g, h, i, j, a, b, same, one))

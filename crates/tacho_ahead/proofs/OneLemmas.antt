-- There is one forecast (`laws`).
use Rattle.std.proofs.Common.{◌≡◌, ◌⊎◌, ℕ, ◌+◌, ◌-◌, ◌<◌, ◌≤◌, inl, inr, List, filter, Option, None, Some, refl, sym, ap, subst, ◌∙◌, arith}
use Rattle.std.proofs.lemmas.Bool.{cases_lt}
use Rattle.tacho_time.specs.declared.span.Span.{Span}
use Rattle.tacho_line.specs.declared.horizon.Horizon.{Horizon}
use Rattle.tacho_law.specs.declared.breach.Breach.{Breach}
use Rattle.tacho_law.specs.declared.breach.Kind.{Kind}
use Rattle.tacho_law.specs.declared.breach.Kind.TheVariants.{B1, B2, B3, B4, B5, B6, B7, B8, B9, B10}
use Rattle.tacho_law.specs.declared.days.DutyDay.{DutyDay}
use Rattle.tacho_law.specs.declared.debt.Debt.{Debt}
use Rattle.tacho_law.specs.declared.run.Run.{Run}
use Rattle.tacho_law.specs.declared.run.TheConstants.{FAR}
use Rattle.tacho_law.specs.Days.{EarlierDay, IsDuty}
use Rattle.tacho_law.specs.Line.{Line}
use Rattle.tacho_law.specs.Runs.{Before, IsRestRun}
use Rattle.tacho_law.specs.Weeks.{IsInWeek, week_start}
use Rattle.tacho_law.specs.Driving.{driving}
use Rattle.tacho_law.specs.Limits.{latest}
use Rattle.tacho_law.proofs.ExactlyLemmas.{how_many_as, how_many_only}
use Rattle.tacho_law.proofs.MainRestLemmas.{one_week}
use Rattle.tacho_law.proofs.OrderLemmas.{one_breaches}
use Rattle.tacho_rules.specs.Report.{examined_line}
use Rattle.tacho_rules.proofs.ReportLemmas.{one_horizon, one_report}
use Rattle.tacho_ahead.specs.declared.limits.Limits.{Limits}
use Rattle.tacho_ahead.specs.declared.used.Used.{Used}
use Rattle.tacho_ahead.specs.Plans.{rested, plan}
use Rattle.tacho_ahead.specs.Ahead.{IsLimit, IsReach, IsWeekEnd, limit_of}
use Rattle.tacho_ahead.specs.Used.{IsExtendedBefore, IsReducedLately, IsRestSince, IsUsedOf}
use Rattle.tacho_ahead.specs.Outlook.{AreComing, AreOpenDebts, IsComing, IsOutlook, is_open_debt}

-- ---- limits

one_end : (n m a b : ℕ) → IsWeekEnd n m a → IsWeekEnd n m b → a ≡ b
one_end n m a b (w, in', e) (v, in'', f) =
    e ∙ ap (λ (week : ℕ). week_start (week + n)) (one_week w v m in' in'') ∙ sym f

one_reach : (start : ℕ) (kind : Kind) (a b : ℕ) → IsReach start kind a → IsReach start kind b → a ≡ b
one_reach start B1 a b x y = x ∙ sym y
one_reach start B2 a b x y = x ∙ sym y
one_reach start B3 a b x y = x ∙ sym y
one_reach start B4 a b x y = x ∙ sym y
one_reach start B5 a b x y = x ∙ sym y
one_reach start B6 a b x y = one_end 1 start a b x y
one_reach start B7 a b x y = one_end 1 start a b x y
one_reach start B8 a b x y = x ∙ sym y
one_reach start B9 a b x y = one_end 2 start a b x y
one_reach start B10 a b x y = x ∙ sym y

module _ (held : List Span) (base start : ℕ) (kind : Kind) where
  none_or_some : (u : ℕ) → IsLimit held base start kind None → IsLimit held base start kind (Some u) → ⊥
  none_or_some u none some =
      let same : none.0 ≡ some.1.0 = one_reach start kind none.0 some.1.0 none.1 some.1.1 in
      let from = some.0 in
      let within = some.1.2 in
      none.2 (u + 1) (omega (arith, from)) (omega (arith, same, within)) some.3

  no_earlier : (u v : ℕ) → IsLimit held base start kind (Some u) → IsLimit held base start kind (Some v) → u < v → ⊥
  no_earlier u v a b lt = let from = a.0 in b.2 (u + 1) (omega (arith, from)) (omega (arith, lt)) a.3

  one_limit : (a b : Option ℕ) → IsLimit held base start kind a → IsLimit held base start kind b → a ≡ b
  one_limit None None x y = refl
  one_limit None (Some v) x y = absurd (none_or_some v x y)
  one_limit (Some u) None x y = absurd (none_or_some u y x)
  one_limit (Some u) (Some v) x y = elim (cases_lt u v) [
    | inl lt ↦ absurd (no_earlier u v x y lt)
    | inr ge ↦ elim (cases_lt v u) [
      | inl gt ↦ absurd (no_earlier v u y x gt)
      | inr le ↦ ap (λ (n : ℕ). Some n) (omega (arith, ge, le))
    ]
  ]

-- limits are determined by each of them
limits_made : (a b : Limits) → ((kind : Kind) → limit_of a kind ≡ limit_of b kind) → a ≡ b
limits_made a b same =
    ap (λ (o : Option ℕ). record { breaks = o; daily_rest = a.daily_rest; reduced_rest = a.reduced_rest; extended_day = a.extended_day; third_day = a.third_day; week = a.week; two_weeks = a.two_weeks; late_rest = a.late_rest; missing_rest = a.missing_rest }) (same B1)
    ∙ ap (λ (o : Option ℕ). record { breaks = b.breaks; daily_rest = o; reduced_rest = a.reduced_rest; extended_day = a.extended_day; third_day = a.third_day; week = a.week; two_weeks = a.two_weeks; late_rest = a.late_rest; missing_rest = a.missing_rest }) (same B2)
    ∙ ap (λ (o : Option ℕ). record { breaks = b.breaks; daily_rest = b.daily_rest; reduced_rest = o; extended_day = a.extended_day; third_day = a.third_day; week = a.week; two_weeks = a.two_weeks; late_rest = a.late_rest; missing_rest = a.missing_rest }) (same B3)
    ∙ ap (λ (o : Option ℕ). record { breaks = b.breaks; daily_rest = b.daily_rest; reduced_rest = b.reduced_rest; extended_day = o; third_day = a.third_day; week = a.week; two_weeks = a.two_weeks; late_rest = a.late_rest; missing_rest = a.missing_rest }) (same B4)
    ∙ ap (λ (o : Option ℕ). record { breaks = b.breaks; daily_rest = b.daily_rest; reduced_rest = b.reduced_rest; extended_day = b.extended_day; third_day = o; week = a.week; two_weeks = a.two_weeks; late_rest = a.late_rest; missing_rest = a.missing_rest }) (same B5)
    ∙ ap (λ (o : Option ℕ). record { breaks = b.breaks; daily_rest = b.daily_rest; reduced_rest = b.reduced_rest; extended_day = b.extended_day; third_day = b.third_day; week = o; two_weeks = a.two_weeks; late_rest = a.late_rest; missing_rest = a.missing_rest }) (same B6)
    ∙ ap (λ (o : Option ℕ). record { breaks = b.breaks; daily_rest = b.daily_rest; reduced_rest = b.reduced_rest; extended_day = b.extended_day; third_day = b.third_day; week = b.week; two_weeks = o; late_rest = a.late_rest; missing_rest = a.missing_rest }) (same B7)
    ∙ ap (λ (o : Option ℕ). record { breaks = b.breaks; daily_rest = b.daily_rest; reduced_rest = b.reduced_rest; extended_day = b.extended_day; third_day = b.third_day; week = b.week; two_weeks = b.two_weeks; late_rest = o; missing_rest = a.missing_rest }) (same B8)
    ∙ ap (λ (o : Option ℕ). record { breaks = b.breaks; daily_rest = b.daily_rest; reduced_rest = b.reduced_rest; extended_day = b.extended_day; third_day = b.third_day; week = b.week; two_weeks = b.two_weeks; late_rest = b.late_rest; missing_rest = o }) (same B9)

-- ---- what is used

no_later_rest : (line : Line) (a b : ℕ) → IsRestSince line (Some a) → IsRestSince line (Some b) → a ≤ b
no_later_rest line a b x y = elim (cases_lt b a) [
  | inl lt ↦ absurd (let e = x.0.1 in x.0.2 (y.1 x.0.0 (omega (arith, e, lt))))
  | inr ge ↦ ge
]

one_rest : (line : Line) (a b : Option ℕ) → IsRestSince line a → IsRestSince line b → a ≡ b
one_rest line None None x y = refl
one_rest line None (Some b) x y = absurd (y.0.2 (x y.0.0))
one_rest line (Some a) None x y = absurd (x.0.2 (y x.0.0))
one_rest line (Some a) (Some b) x y =
    let l = no_later_rest line a b x y in
    let g = no_later_rest line b a y x in
    ap (λ (n : ℕ). Some n) (omega (arith, l, g))

-- a rest that isn't before another one doesn't start after it
no_overlap : (line : Line) (a b : Run) → IsRestRun line a → IsRestRun line b → b.start ≤ a.past → b.start ≤ a.start
no_overlap line a b p q touches = elim (cases_lt a.start b.start) [
  | inl lt ↦ absurd (elim q.from [
    | inl none ↦ omega (arith, none, lt)
    | inr busy ↦ busy (b.start - 1) (omega (arith, lt)) (p.rest (b.start - 1) (omega (arith, lt)) (omega (arith, lt, touches)))
  ])
  | inr ge ↦ ge
]

-- of two rests, one is before the other, or they start together
three_ways : (line : Line) (a b : Run) → IsRestRun line a → IsRestRun line b → Before a b ⊎ ((a.start ≡ b.start) ⊎ Before b a)
three_ways line a b p q = elim (cases_lt a.past b.start) [
  | inl before ↦ inl before
  | inr touches ↦ elim (cases_lt b.past a.start) [
    | inl after ↦ inr (inr after)
    | inr touches' ↦
        let l = no_overlap line a b p q touches in
        let g = no_overlap line b a q p touches' in
        inr (inl (omega (arith, l, g)))
  ]
]

-- rests that start together, and end before FAR, end together
no_longer : (line : Line) (a b : Run) → IsRestRun line a → IsRestRun line b → a.start ≡ b.start → a.past < FAR → b.past ≤ a.past
no_longer line a b p q same near = elim (cases_lt a.past b.past) [
  | inl lt ↦ absurd (elim p.until [
    | inl far ↦ omega (arith, far, near)
    | inr busy ↦ busy (q.rest a.past (let some = p.some in omega (arith, same, some)) lt)
  ])
  | inr ge ↦ ge
]

-- two days that end together begin together
one_start : (line : Line) (a b : DutyDay) → IsDuty line a → IsDuty line b → a.past ≡ b.past → a.past ≤ latest → a.start ≡ b.start
one_start line a b p q same early =
    let ea = p.past in
    let eb = q.past in
    let fa = p.start in
    let fb = q.start in
    let la : p.last.past < a.rest.start = p.neighbours.before in
    let lb : q.last.past < b.rest.start = q.neighbours.before in
    elim (three_ways line p.last q.last p.neighbours.first.rests q.neighbours.first.rests) [
      | inl before ↦ absurd (p.neighbours.between q.last q.neighbours.first before (omega (arith, same, ea, eb, lb)))
      | inr other ↦ elim other [
        | inl together ↦
            let l =
            no_longer line p.last q.last p.neighbours.first.rests q.neighbours.first.rests together (omega (arith, la, ea, early)) in
            let g =
            no_longer line q.last p.last q.neighbours.first.rests p.neighbours.first.rests (sym together)
            (omega (arith, lb, eb, same, early)) in
            omega (arith, l, g, fa, fb)
        | inr after ↦ absurd (q.neighbours.between p.last p.neighbours.first after (omega (arith, same, ea, eb, la)))
      ]
    ]

-- no two duty days are before each other
never_both : (line : Line) (x y : DutyDay) → IsDuty line x → IsDuty line y → EarlierDay x y → EarlierDay y x → ⊥
never_both line x y p q before after =
    let a : p.last.past < x.rest.start = p.neighbours.before in
    let b : q.last.past < y.rest.start = q.neighbours.before in
    let c : x.rest.start < x.rest.past = p.neighbours.second.rests.some in
    let d : y.rest.start < y.rest.past = q.neighbours.second.rests.some in
    let e : x.start ≡ p.last.past = p.start in
    let f : y.start ≡ q.last.past = q.start in
    omega (arith, a, b, c, d, e, f, before, after)

extended_as : (line : Line) (today other day : DutyDay) → today.start ≡ other.start → IsExtendedBefore line today day
    → IsExtendedBefore line other day
extended_as line today other day same is = record {
  week = is.week;
  here = subst (λ (m : ℕ). IsInWeek is.week m) same is.here;
  extended = is.extended;
  before = (let l = is.before in omega (arith, same, l));
}

used_made : (a b : Used) → a.rest_since ≡ b.rest_since → a.day_since ≡ b.day_since → a.reduced ≡ b.reduced → a.extended ≡ b.extended
    → a.driven_before ≡ b.driven_before → a.driven_in_week ≡ b.driven_in_week → a ≡ b
used_made a b e f g h i j =
    ap (λ (x : Option ℕ). record { rest_since = x; day_since = a.day_since; reduced = a.reduced; extended = a.extended; driven_before = a.driven_before; driven_in_week = a.driven_in_week }) e
    ∙ ap (λ (x : ℕ). record { rest_since = b.rest_since; day_since = x; reduced = a.reduced; extended = a.extended; driven_before = a.driven_before; driven_in_week = a.driven_in_week }) f
    ∙ ap (λ (x : ℕ). record { rest_since = b.rest_since; day_since = b.day_since; reduced = x; extended = a.extended; driven_before = a.driven_before; driven_in_week = a.driven_in_week }) g
    ∙ ap (λ (x : ℕ). record { rest_since = b.rest_since; day_since = b.day_since; reduced = b.reduced; extended = x; driven_before = a.driven_before; driven_in_week = a.driven_in_week }) h
    ∙ ap (λ (x : ℕ). record { rest_since = b.rest_since; day_since = b.day_since; reduced = b.reduced; extended = b.extended; driven_before = x; driven_in_week = a.driven_in_week }) i
    ∙ ap (λ (x : ℕ). record { rest_since = b.rest_since; day_since = b.day_since; reduced = b.reduced; extended = b.extended; driven_before = b.driven_before; driven_in_week = x }) j

one_used : (line driven : Line) (start : ℕ) (a b : Used) → start + 1 ≤ latest → IsUsedOf line driven start a → IsUsedOf line driven start b
    → a ≡ b
one_used line driven start a b early x y =
    let last = x.last in
    let today : x.today.start ≡ y.today.start =
    one_start driven x.today y.today x.duty y.duty (x.last ∙ sym y.last) (omega (arith, last, early)) in
    let next : x.week + 1 ≡ y.week + 1 = one_week (x.week + 1) (y.week + 1) start x.here y.here in
    let week : x.week ≡ y.week = omega (arith, next) in
    used_made a b (one_rest line a.rest_since b.rest_since x.rest y.rest) (x.since ∙ today ∙ sym y.since)
    (how_many_only (IsReducedLately driven start) EarlierDay
    (λ p q r s before after. never_both driven p q r.reduced.duty s.reduced.duty before after) a.reduced b.reduced x.reduced y.reduced)
    (how_many_only (IsExtendedBefore driven y.today) EarlierDay
    (λ p q r s before after. never_both driven p q r.extended.duty s.extended.duty before after) a.extended b.extended
    (how_many_as (IsExtendedBefore driven x.today) (IsExtendedBefore driven y.today) EarlierDay a.extended
    (λ day. (extended_as driven x.today y.today day today, extended_as driven y.today x.today day (sym today))) x.extended)
    y.extended)
    (x.driven_before ∙ ap (λ (w : ℕ). driving line (week_start w) (week_start (w + 1))) week ∙ sym y.driven_before)
    (x.driven_in_week ∙ ap (λ (w : ℕ). driving line (week_start (w + 1)) (week_start (w + 2))) week ∙ sym y.driven_in_week)

-- ---- the forecast

one_debts_left : (held : List Span) (base start : ℕ) (a b : List Debt) → AreOpenDebts held base start a → AreOpenDebts held base start b → a ≡ b
one_debts_left held base start a b x y =
    let same = one_report held base x.horizon y.horizon x.found y.found x.debts y.debts x.report y.report in
    x.are ∙ ap (λ (ds : List Debt). filter (is_open_debt start) ds) same.2 ∙ sym y.are

pub one_outlook : (held : List Span) (base start : ℕ) (limits limits' : Limits) (used used' : Used) (coming coming' : List Breach)
    (debts debts' : List Debt) → start + 1 ≤ latest → IsOutlook held base start limits used coming debts
    → IsOutlook held base start limits' used' coming' debts'
    → (limits ≡ limits') × (used ≡ used') × (coming ≡ coming') × (debts ≡ debts')
one_outlook held base start limits limits' used used' coming coming' debts debts' early x y =
    let h : ℕ = y.is_open.horizon.minute in
    let same : x.is_open.horizon.minute ≡ h =
    ap (λ (o : Horizon). o.minute) (one_horizon held base x.is_open.horizon y.is_open.horizon x.is_open.is y.is_open.is) in (
      limits_made limits limits' (λ kind.
          one_limit (rested held h start) base start kind (limit_of limits kind) (limit_of limits' kind)
          (subst (λ (n : ℕ). IsLimit (rested held n start) base start kind (limit_of limits kind)) same (x.are_limits kind))
          (y.are_limits kind)),
      one_used (examined_line (rested held h start) base start)
          (examined_line (plan (rested held h start) start (start + 1)) base (start + 1)) start used used' early
          (subst (λ (n : ℕ). IsUsedOf (examined_line (rested held n start) base start)
          (examined_line (plan (rested held n start) start (start + 1)) base (start + 1)) start used) same x.is_used)
          y.is_used,
      one_breaches (IsComing held base h start) coming coming'
          (subst (λ (n : ℕ). AreComing held base n start coming) same x.are_coming) y.are_coming,
      one_debts_left (rested held h start) base start debts debts'
          (subst (λ (n : ℕ). AreOpenDebts (rested held n start) base start debts) same x.are_debts) y.are_debts,
    )

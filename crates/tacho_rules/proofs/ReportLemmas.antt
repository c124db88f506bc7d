-- A timeline has one report, marks determine it, and rest alone has no breaches (`laws`). A report is unique; where all is rest, there is
-- nothing to report.
use Rattle.std.proofs.Common.{◌≡◌, ℕ, ◌+◌, ◌-◌, ◌<◌, ◌≤◌, inl, inr, List, [], ◌∷◌, Option}
use Rattle.std.proofs.Common.{None, Some, true, false, refl, sym, ap, subst, ◌∙◌, arith}
use Rattle.std.specs.Prelude.{◌&&◌, nat_le, nat_lt, if◌then◌else◌}
use Rattle.std.specs.List.{All, Contains}
use Rattle.std.specs.Option.{option_map_or}
use Rattle.std.proofs.lemmas.Bool.{cases_lt}
use Rattle.tacho_time.specs.declared.span.Activity.TheVariants.{Rest, Drive}
use Rattle.tacho_time.specs.declared.span.Mark.{Mark}
use Rattle.tacho_time.specs.declared.span.Span.{Span}
use Rattle.tacho_line.specs.declared.horizon.Cause.{Cause}
use Rattle.tacho_line.specs.declared.horizon.Cause.TheVariants.{Unknown, Crew}
use Rattle.tacho_line.specs.declared.horizon.Horizon.{Horizon}
use Rattle.tacho_line.specs.Line.{mark_at, IsSingle, IsCause, IsHorizon}
use Rattle.tacho_law.specs.declared.run.Run.{Run}
use Rattle.tacho_law.specs.declared.days.DutyDay.{DutyDay}
use Rattle.tacho_law.specs.declared.breach.Breach.{Breach}
use Rattle.tacho_law.specs.declared.debt.Debt.{Debt}
use Rattle.tacho_law.specs.declared.breach.Kind.{Kind}
use Rattle.tacho_law.specs.declared.breach.Kind.TheVariants.{B1, B2, B3, B4, B5, B6, B7, B8, B9, B10}
use Rattle.tacho_law.specs.Runs.{IsRestRun, AreRestRuns, Before}
use Rattle.tacho_law.specs.Breaks.{AreCompleteBreaks}
use Rattle.tacho_law.specs.Line.{Line}
use Rattle.tacho_law.specs.Days.{IsDuty}
use Rattle.tacho_law.specs.Weeks.{week_start}
use Rattle.tacho_law.specs.Debts.{Owes, AreDebts}
use Rattle.tacho_law.specs.Breaches.{IsBreach}
use Rattle.tacho_law.specs.Order.{AreBreaches}
use Rattle.tacho_law.proofs.RunsLemmas.{one_rest_runs, rest_runs_are}
use Rattle.tacho_law.proofs.BreaksLemmas.{one_complete_breaks}
use Rattle.tacho_law.proofs.OrderLemmas.{one_breaches}
use Rattle.tacho_law.proofs.DebtsLemmas.{one_debts}
use Rattle.tacho_rules.specs.Report.{examined_line, IsReport}
use Rattle.tacho_rules.proofs.StayingChoiceLemmas.{none_at_rest}

-- a minute that ends the examination isn't single
not_single : (mark : Option Mark) (cause : Cause) → IsCause mark cause → IsSingle mark → ⊥
not_single None cause stops single = single
not_single (Some mark) Unknown stops single = cc
not_single (Some mark) Crew stops single = let no : true ≡ false = sym stops ∙ single in cc

-- a minute has one cause
one_cause : (mark : Option Mark) (cause other : Cause) → IsCause mark cause → IsCause mark other → cause ≡ other
one_cause mark Unknown Unknown stops stops' = refl
one_cause None Unknown Crew stops stops' = absurd stops'
one_cause (Some mark) Unknown Crew stops stops' = cc
one_cause None Crew Unknown stops stops' = absurd stops
one_cause (Some mark) Crew Unknown stops stops' = cc
one_cause mark Crew Crew stops stops' = refl

-- no horizon is later than another one
pub no_later : (held : List Span) (base : ℕ) (horizon other : Horizon)
    → IsHorizon held base horizon → IsHorizon held base other → horizon.minute ≤ other.minute
no_later held base horizon other h h' = elim (cases_lt other.minute horizon.minute) [
  | inl lt ↦ absurd (not_single (mark_at held other.minute) other.cause h'.cause (h.single other.minute (h'.from, lt)))
  | inr ge ↦ ge
]

-- held spans have one horizon from a base
pub one_horizon : (held : List Span) (base : ℕ) (horizon other : Horizon)
    → IsHorizon held base horizon → IsHorizon held base other → horizon ≡ other
one_horizon held base horizon other h h' =
    let a : horizon.minute ≤ other.minute = no_later held base horizon other h h' in
    let b : other.minute ≤ horizon.minute = no_later held base other horizon h' h in
    let same : horizon.minute ≡ other.minute = omega arith in
    let cause : horizon.cause ≡ other.cause =
    one_cause (mark_at held other.minute) horizon.cause other.cause
    (subst (λ (m : ℕ). IsCause (mark_at held m) horizon.cause) same h.cause) h'.cause in
    ap (λ (m : ℕ). record { minute = m; cause = horizon.cause }) same
    ∙ ap (λ (x : Cause). record { minute = other.minute; cause = x }) cause

-- a line has one list of breaches up to a horizon
one_found : (held : List Span) (base : ℕ) (horizon : Horizon) (found others : List Breach) (debts : List Debt)
    → IsReport held base horizon found debts → IsReport held base horizon others debts → found ≡ others
one_found held base horizon found others debts a b =
    let line : Line = examined_line held base horizon.minute in
    let runs : a.runs ≡ b.runs = one_rest_runs line a.runs b.runs a.are_runs b.are_runs in
    let some : All (λ (run : Run). run.start < run.past) b.runs = (rest_runs_are line b.runs b.are_runs).some in
    let breaks : a.breaks ≡ b.breaks =
    one_complete_breaks b.runs a.breaks b.breaks some
    (subst (λ (x : List Run). AreCompleteBreaks x a.breaks) runs a.are_breaks) b.are_breaks in
    one_breaches (λ breach. IsBreach line base horizon.minute b.breaks debts breach.kind breach) found others
    (subst (λ (x : List Run).
    AreBreaches (λ breach. IsBreach line base horizon.minute x debts breach.kind breach) found)
    breaks a.exactly)
    b.exactly

-- held spans have one report from a base
pub one_report : (held : List Span) (base : ℕ) (horizon other : Horizon)
    (found others : List Breach) (debts owed : List Debt)
    → IsReport held base horizon found debts → IsReport held base other others owed
    → (horizon ≡ other) × (found ≡ others) × (debts ≡ owed)
one_report held base horizon other found others debts owed a b =
    let same : horizon ≡ other = one_horizon held base horizon other a.is_horizon b.is_horizon in
    let a' : IsReport held base other found debts = subst (λ (h : Horizon). IsReport held base h found debts) same a in
    let equal : debts ≡ owed =
    one_debts (examined_line held base other.minute) other.minute debts owed a'.are_debts b.are_debts in
    let a'' : IsReport held base other found owed =
    subst (λ (ds : List Debt). IsReport held base other found ds) equal a' in
    (same, one_found held base other found others owed a'' b, equal)

-- spans that hold the same marks have the same report
pub report_by_marks : (held other : List Span) (base : ℕ) (horizon : Horizon) (found : List Breach) (debts : List Debt)
    → ((m : ℕ) → mark_at held m ≡ mark_at other m)
    → IsReport held base horizon found debts → IsReport other base horizon found debts
report_by_marks held other base horizon found debts each r =
    let marks : mark_at held ≡ mark_at other = λ i m. each m i in
    let same : examined_line held base horizon.minute ≡ examined_line other base horizon.minute = ap
    (λ (f : ℕ → Option Mark).
    λ m. if nat_le base m && nat_lt m horizon.minute then option_map_or (λ mark. mark.activity) (f m) Rest
    else Rest) marks in
    record {
      is_horizon = record {
        from = r.is_horizon.from;
        single = λ m within. subst IsSingle (each m) (r.is_horizon.single m within);
        cause = subst (λ (x : Option Mark). IsCause x horizon.cause) (each horizon.minute) r.is_horizon.cause;
      };
      runs = r.runs;
      breaks = r.breaks;
      are_runs = subst (λ (line : Line). AreRestRuns line r.runs) same r.are_runs;
      are_breaks = r.are_breaks;
      are_debts = subst (λ (line : Line). AreDebts line horizon.minute debts) same r.are_debts;
      exactly = subst (λ (line : Line).
          AreBreaches (λ breach. IsBreach line base horizon.minute r.breaks debts breach.kind breach) found)
          same r.exactly;
    }

-- a list that contains nothing is empty
empty : {A : Type 0} (xs : List A) → ((x : A) → Contains xs x → ⊥) → xs ≡ []
empty [] never = refl
empty (x ∷ xs) never = absurd (never x (0, omega arith, refl))

-- a line that is at rest in every minute
module _ (line : Line) (resting : (m : ℕ) → line m ≡ Rest) where
  -- each rest run starts at 0
  no_start : (run : Run) → IsRestRun line run → run.start ≡ 0
  no_start run is = elim is.from [
    | inl none ↦ none
    | inr busy ↦ elim (cases_lt 0 run.start) [
      | inl lt ↦ absurd (busy (run.start - 1) (omega arith) (resting (run.start - 1)))
      | inr ge ↦ omega arith
    ]
  ]

  -- so no run is after another
  none_following : (a b : Run) → IsRestRun line b → Before a b → ⊥
  none_following a b is before = let s : b.start ≡ 0 = no_start b is in let l : a.past < b.start = before in omega arith

  -- there is no duty day
  no_duty : (day : DutyDay) → IsDuty line day → ⊥
  no_duty day d = none_following d.last day.rest d.neighbours.second.rests d.neighbours.before

  -- there is no driving
  no_drive : (m : ℕ) → line m ≡ Drive → ⊥
  no_drive m drives = let e : Rest ≡ Drive = sym (resting m) ∙ drives in cc

  -- there are no debts
  no_debts : (horizon : ℕ) (debts : List Debt) → AreDebts line horizon debts → debts ≡ []
  no_debts horizon debts are = empty debts (λ debt in'.
      let owes : Owes line horizon debt.week debt.amount =
      (are.are_owed.owed debt.week debt.amount).1 (debt, in', refl, refl) in
      let s : owes.main.start ≡ 0 = no_start owes.main owes.is.candidate.rests in
      let from : week_start debt.week ≤ owes.main.start = owes.is.candidate.week.0 in
      omega arith)

  -- there is no breach of any kind
  no_breach : (base horizon : ℕ) (runs breaks : List Run) → AreRestRuns line runs → AreCompleteBreaks runs breaks
      → (kind : Kind) (breach : Breach) → IsBreach line base horizon breaks [] kind breach → ⊥
  no_breach base horizon runs breaks are complete B1 breach h =
      none_following h.earlier h.later ((are.each h.later).0 ((complete.each h.later).0 h.second).0) h.before
  no_breach base horizon runs breaks are complete B2 breach h = no_duty h.day h.duty
  no_breach base horizon runs breaks are complete B3 breach h = no_duty h.day h.reduced.duty
  no_breach base horizon runs breaks are complete B4 breach h = no_duty h.day h.duty
  no_breach base horizon runs breaks are complete B5 breach h = no_duty h.day h.extended.duty
  no_breach base horizon runs breaks are complete B6 breach h = no_drive breach.moment h.over.moment.drives
  no_breach base horizon runs breaks are complete B7 breach h = no_drive breach.moment h.over.moment.drives
  no_breach base horizon runs breaks are complete B8 breach h =
      none_following h.earlier h.later h.neighbours.second.rests h.neighbours.before
  no_breach base horizon runs breaks are complete B9 breach h =
      none_at_rest line resting horizon h.first (h.week + 1) h.fails
  no_breach base horizon runs breaks are complete B10 breach h = let k : h.owed.0 < 0 = h.owed.1 in omega arith

-- if only rest is examined, there is nothing to report
pub nothing_found : (held : List Span) (base : ℕ) (horizon : Horizon) (found : List Breach) (debts : List Debt)
    → IsReport held base horizon found debts → ((m : ℕ) → examined_line held base horizon.minute m ≡ Rest)
    → (found ≡ []) × (debts ≡ [])
nothing_found held base horizon found debts report resting =
    let line : Line = examined_line held base horizon.minute in
    let none : debts ≡ [] = no_debts line resting horizon.minute debts report.are_debts in
    let report' : IsReport held base horizon found [] =
    subst (λ (ds : List Debt). IsReport held base horizon found ds) none report in (
      empty found (λ breach in'.
          no_breach line resting base horizon.minute report'.runs report'.breaks report'.are_runs
          report'.are_breaks breach.kind breach ((report'.exactly.each breach).0 in')),
      none,
    )

-- The weekly rests of a line, by the weeks in which they have minutes. The definitions (specs/Weeks) say of them what ChoicesLemmas says of
-- any things with a first and a last week.
use Rattle.std.proofs.Common.{◌≡◌, ◌≢◌, ℕ, ◌+◌, ◌-◌, ◌/◌, ◌<◌, ◌≤◌, ◌⊎◌, inl, inr, ap, ◌∙◌, arith}
use Rattle.std.specs.Prelude.{◌↔◌}
use Rattle.std.proofs.lemmas.Bool.{cases_lt, cases_eq, le-leb, leb-true}
use Rattle.tacho_law.specs.declared.run.Run.{Run}
use Rattle.tacho_law.specs.Line.{Line}
use Rattle.tacho_law.specs.Runs.{IsRestRun, minutes_of}
use Rattle.tacho_law.specs.Weeks.{week_start, Touches, IsWhollyAtRest, IsWeeklyRest}
use Rattle.tacho_law.specs.Choice.{Serves, CanServe, IsChoice}
use Rattle.tacho_law.proofs.DebtsLemmas.{separate}
use Rattle.tacho_law.proofs.ByRunsLemmas.{one_run}
use Rattle.tacho_choice.specs.declared.weekly_rests.WeeklyRests.{WeeklyRests}
use Rattle.tacho_choice.specs.declared.outcome.Outcome.{Outcome}
use Rattle.tacho_choice.specs.Weeks.{first_week_of, last_of, is_regular, IsInWeeks, IsWeekOf, CanReach}
use Rattle.tacho_choice.proofs.ChoicesLemmas as abstract

-- a run starts before the end of a week iff its first week is at most that week
first_is : (s w : ℕ) → (s < week_start (w + 1)) ↔ ((s - 5760) / 10080 ≤ w)
first_is s w = (λ h. omega arith, λ h. omega arith)

last_is : (p w : ℕ) → 5760 < p → (week_start w < p) ↔ (w ≤ (p - 5761) / 10080)
last_is p w some = (λ h. omega arith, λ h. omega arith)

pub run_or_not : (r s : Run) → (r ≡ s) ⊎ (r ≢ s)
run_or_not r s = elim (cases_eq r.start s.start) [
  | inl e ↦ elim (cases_eq r.past s.past) [
    | inl f ↦
        let one : ℕ → Run = λ x. record { start = x; past = r.past } in
        let two : ℕ → Run = λ x. record { start = s.start; past = x } in
        inl (ap one e ∙ ap two f)
    | inr f ↦ inr (λ same. f (ap (λ (x : Run). x.past) same))
  ]
  | inr e ↦ inr (λ same. e (ap (λ (x : Run). x.start) same))
]

module _ (line : Line) (is : IsInWeeks line) where
  -- rest runs with a common minute are equal
  same_rest : (a b : Run) (m : ℕ) → IsRestRun line a → IsRestRun line b → a.start ≤ m → m < a.past → b.start ≤ m
      → m < b.past → a ≡ b
  same_rest a b m rests others from to begins ends = elim (cases_lt a.start b.start) [
    | inl sooner ↦ absurd (let ended : a.past < b.start = separate line a b rests others sooner in omega arith)
    | inr not' ↦ elim (cases_lt b.start a.start) [
      | inl later ↦ absurd (let ended : b.past < a.start = separate line b a others rests later in omega arith)
      | inr here ↦ one_run line 0 is.runs is.are a b rests others (omega arith)
    ]
  ]

  touches_is : (run : Run) (w : ℕ) → IsWeeklyRest line run → Touches run w ↔ ((first_week_of run ≤ w) × (w ≤ last_of run))
  touches_is run w rest =
      let p : 5760 < run.past = is.late run rest in (
        λ h. ((first_is run.start w).0 h.0, (last_is run.past w p).0 h.1),
        λ h. (
          (first_is run.start w).1 h.0,
          (last_is run.past w p).1 h.1,
        ),
      )

  pub order : (run : Run) → IsWeeklyRest line run → first_week_of run ≤ last_of run
  order run rest = let s : run.start < run.past = rest.rests.some in omega arith

  pub alone : (w : ℕ) (r s : Run) → abstract.Leaves Run (IsWeeklyRest line) first_week_of last_of is_regular
      (IsWhollyAtRest line) w r → abstract.Leaves Run (IsWeeklyRest line) first_week_of last_of is_regular
      (IsWhollyAtRest line) w s → r ≡ s
  alone w r s a b =
      let rs : r.start < week_start (w + 1) = (first_is r.start w).1 a.1 in
      let rp : week_start (w + 1) < r.past = (last_is r.past (w + 1) (is.late r a.0)).1 (let l : w < last_of r = a.2
      in omega arith) in
      let ss : s.start < week_start (w + 1) = (first_is s.start w).1 b.1 in
      let sp : week_start (w + 1) < s.past = (last_is s.past (w + 1) (is.late s b.0)).1 (let l : w < last_of s = b.2
      in omega arith) in
      same_rest r s (week_start (w + 1)) a.0.rests b.0.rests (omega arith) rp (omega arith) sp

  choice_is : (week_of : Run → ℕ) → IsChoice line week_of ↔ abstract.IsChoice Run (IsWeeklyRest line) first_week_of last_of
      is_regular (IsWhollyAtRest line) week_of
  choice_is week_of = (
    λ h r rest. (touches_is r (week_of r) rest).0 (h r rest),
    λ h r rest. (touches_is r (week_of r)
        rest).1 (h r rest),
  )

  serves_to : (week_of : Run → ℕ) (w : ℕ) → Serves line week_of w → abstract.Serves Run (IsWeeklyRest line) first_week_of
      last_of is_regular (IsWhollyAtRest line) week_of w
  serves_to week_of w (inl whole) = inl whole
  serves_to week_of w (inr (inl whole)) = inr (inl whole)
  serves_to week_of w (inr (inr h)) =
      let put : (r : Run) → IsWeeklyRest line r → (week_of r ≡ w) ⊎ (week_of r ≡ w + 1)
      → (IsWeeklyRest line r × (week_of r ≡ w)) ⊎ (IsWeeklyRest line r × (week_of r ≡ w + 1)) =
      λ r rest g. elim g [ inl a ↦ inl (rest, a) | inr b ↦ inr (rest, b) ] in
      let m : 2700 ≤ minutes_of h.long = h.enough.enough in
      inr (inr (
        h.long,
        (
          h.other,
          (
            put h.long (record { rests = h.enough.rests; enough = omega arith })
                h.long_counted,
            put h.other h.weekly h.other_counted,
            h.different,
            le-leb 2700 (minutes_of h.long) m,
          ),
        ),
      ))

  serves_from : (week_of : Run → ℕ) (w : ℕ) → abstract.Serves Run (IsWeeklyRest line) first_week_of last_of is_regular
      (IsWhollyAtRest line) week_of w → Serves line week_of w
  serves_from week_of w (inl whole) = inl whole
  serves_from week_of w (inr (inl whole)) = inr (inl whole)
  serves_from week_of w (inr (inr h)) =
      let rest : (r : Run) → (IsWeeklyRest line r × (week_of r ≡ w)) ⊎ (IsWeeklyRest line r × (week_of r ≡ w + 1))
      → IsWeeklyRest line r × ((week_of r ≡ w) ⊎ (week_of r ≡ w + 1)) =
      λ r g. elim g [ inl a ↦ (a.0, inl a.1) | inr b ↦ (b.0, inr b.1) ] in
      let long = rest h.0 h.1.1.0 in
      let other = rest h.1.0 h.1.1.1 in
      inr (inr (record {
        long = h.0;
        other = h.1.0;
        enough = record { rests = long.0.rests; enough = leb-true 2700 (minutes_of h.0) h.1.1.3 };
        weekly = other.0;
        different = h.1.1.2;
        long_counted = long.1;
        other_counted = other.1;
      }))

  pub can_serve_is : (a u : ℕ) → CanServe line a u ↔ abstract.CanServe Run (IsWeeklyRest line) first_week_of last_of
      is_regular (IsWhollyAtRest line) a u
  can_serve_is a u = (
    λ h. record {
      week_of = h.week_of;
      choice = (choice_is h.week_of).0 h.choice;
      each = λ w above below. serves_to
          h.week_of w (h.each w above below);
    },
    λ h. record {
      week_of = h.week_of;
      choice = (choice_is h.week_of).1 h.choice;
      each = λ w above below. serves_from
          h.week_of w (h.each w above below);
    },
  )

  pub week_to : (w : ℕ) (week : WeeklyRests) → IsWeekOf line w week → abstract.IsWeek Run (IsWeeklyRest line) first_week_of
      last_of is_regular (IsWhollyAtRest line) w week
  week_to w week h = record { entering = h.entering; inside = h.inside; starting = h.starting; through = h.through }

  pub reach_to : (a u : ℕ) (s : Outcome) → CanReach line a u s → abstract.CanReach Run (IsWeeklyRest line) first_week_of
      last_of is_regular (IsWhollyAtRest line) a u s
  reach_to a u s h = record {
    week_of = h.week_of;
    choice = (choice_is h.week_of).0 h.choice;
    each = λ w above below. serves_to h.week_of w (h.each w above below);
    outcome = record { counted = h.counted; crossing = h.crossing };
  }

  pub reach_from : (a u : ℕ) (s : Outcome) → abstract.CanReach Run (IsWeeklyRest line) first_week_of last_of is_regular
      (IsWhollyAtRest line) a u s → CanReach line a u s
  reach_from a u s h = record {
    week_of = h.week_of;
    choice = (choice_is h.week_of).1 h.choice;
    each = λ w above below. serves_from h.week_of w (h.each w above below);
    counted = h.outcome.counted;
    crossing = h.outcome.crossing;
  }

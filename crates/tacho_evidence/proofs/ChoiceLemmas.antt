-- A choice of weeks for all weekly rests serves the weeks from one to another iff one does for the weekly rests with a minute in them; and the
-- week from which the choice was made anew (`laws::choice_evidence`).
use Rattle.std.proofs.Common.{◌≡◌, ℕ, ◌+◌, ◌-◌, ◌/◌, ◌<◌, ◌≤◌, ◌⊎◌, inl, inr, List, min, max, refl, sym, subst}
use Rattle.std.proofs.Common.{◌∙◌, arith}
use Rattle.std.specs.List.{Contains}
use Rattle.std.proofs.lemmas.Bool.{cases_lt, cases_order}
use Rattle.tacho_law.specs.declared.run.Run.{Run}
use Rattle.tacho_law.specs.Anew.{EndedBy, Fails, FailsFrom}
use Rattle.tacho_law.specs.Anew.Fails.{at_first, anew}
use Rattle.tacho_law.specs.Choice.{CanServe, HasTwoCounted, IsCounted}
use Rattle.tacho_law.specs.Exactly.{AreExactly}
use Rattle.tacho_law.specs.Line.{Line}
use Rattle.tacho_law.specs.Runs.{AreRestRuns, Before, minutes_of}
use Rattle.tacho_law.specs.Weeks.{week_start, IsWeeklyRest, Touches}
use Rattle.tacho_law.proofs.AnewLemmas.{starts_late, none_at}
use Rattle.tacho_law.proofs.ExactlyLemmas.{one_exactly, exactly_as}
use Rattle.tacho_law.proofs.LackingWeekLemmas.{serves_less}
use Rattle.tacho_evidence.specs.Evidence.{IsWeeklyRestIn, IsChoiceOf, HasTwoOf, CanServeBy}
use Rattle.tacho_evidence.proofs.RestsLemmas.{Kept, kept_of}

-- ---- the weekly rests of some weeks

-- what makes a rest run one with 24 hours and a minute in these weeks
record IsInside (first last : ℕ) (run : Run) : Type 0 where
  pub enough : 1440 ≤ minutes_of run
  pub after : week_start first < run.past
  pub before : run.start < week_start (last + 1)

-- this can be decided
inside_or : (first last : ℕ) (run : Run) → IsInside first last run ⊎ (IsInside first last run → ⊥)
inside_or first last run = elim (cases_lt (minutes_of run) 1440) [
  | inl few ↦ inr (λ h. let e : 1440 ≤ minutes_of run = h.enough in omega arith)
  | inr enough ↦ elim (cases_lt (week_start first) run.past) [
    | inr early ↦ inr (λ h. let e : week_start first < run.past = h.after in omega arith)
    | inl after ↦ elim (cases_lt run.start (week_start (last + 1))) [
      | inr late ↦ inr (λ h. let e : run.start < week_start (last + 1) = h.before in omega arith)
      | inl before ↦ inl (record { enough = enough; after = after; before = before })
    ]
  ]
]

-- the weekly rests of some weeks are listed
pub weekly_in : (line : Line) (runs : List Run) (first last : ℕ) → AreRestRuns line runs
    → (rests : List Run) × AreExactly (IsWeeklyRestIn line first last) Before rests
weekly_in line runs first last are =
    let k : Kept Before (IsInside first last) runs =
    kept_of Before (IsInside first last) (inside_or first last) runs are.in_order in (
      k.kept,
      exactly_as (λ run. Contains runs run × IsInside first last run) (IsWeeklyRestIn line first last) Before k.kept
          (λ run. (
            λ h. record {
              rest = record { rests = (are.each run).0 h.0; enough = h.1.enough };
              after = h.1.after;
              before = h.1.before;
            },
            λ h. (
              (are.each run).1 h.rest.rests,
              record { enough = h.rest.enough; after = h.after; before = h.before },
            ),
          ))
          k.exactly,
    )

-- there is one list of them
pub one_weekly_in : (line : Line) (first last : ℕ) (rests others : List Run)
    → AreExactly (IsWeeklyRestIn line first last) Before rests
    → AreExactly (IsWeeklyRestIn line first last) Before others → rests ≡ others
one_weekly_in line first last = one_exactly (IsWeeklyRestIn line first last) Before (λ a b p q before after.
    let some : a.start < a.past = p.rest.rests.some in
    let some' : b.start < b.past = q.rest.rests.some in
    let l : a.past < b.start = before in
    let m : b.past < a.start = after in
    omega arith)

-- ---- choices

-- the first week, from week 0 on, that may have a minute of a run
abbrev week_from : Run → ℕ
week_from run = (run.start - 5760) / 10080

module _ (line : Line) (rests : List Run) (first last : ℕ) (some : first ≤ last)
    (exact : AreExactly (IsWeeklyRestIn line first last) Before rests) where
  -- if one of these weeks is chosen for a weekly rest, the rest is listed
  listed : (rest : Run) (v : ℕ) → IsWeeklyRest line rest → Touches rest v → first ≤ v → v ≤ last → Contains rests rest
  listed rest v weekly touches from until =
      let a : rest.start < week_start (v + 1) = touches.0 in
      let b : week_start v < rest.past = touches.1 in
      (exact.each rest).1 (record { rest = weekly; after = omega arith; before = omega arith })

  -- the week of a choice, or else the nearest of these weeks
  abbrev nearest : (Run → ℕ) → Run → ℕ
  nearest week_of rest = max first (min (week_of rest) last)

  -- a listed rest has a minute in it
  near : (week_of : Run → ℕ) (rest : Run) → IsWeeklyRestIn line first last rest → Touches rest (week_of rest)
      → Touches rest (nearest week_of rest)
  near week_of rest is touches =
      let a : rest.start < week_start (week_of rest + 1) = touches.0 in
      let b : week_start (week_of rest) < rest.past = touches.1 in
      let c : week_start first < rest.past = is.after in
      let d : rest.start < week_start (last + 1) = is.before in
      (omega arith, omega arith)

  -- a rest that is counted in two of these weeks stays there
  stays : (week_of : Run → ℕ) (w : ℕ) (rest : Run) → first ≤ w → w + 1 ≤ last → IsCounted week_of w rest
      → IsCounted (nearest week_of) w rest
  stays week_of w rest from until (inl this) = inl (omega arith)
  stays week_of w rest from until (inr next) = inr (omega arith)

  -- such a rest is listed
  counted_listed : (week_of : Run → ℕ) (w : ℕ) (rest : Run) → first ≤ w → w + 1 ≤ last → IsWeeklyRest line rest
      → Touches rest (week_of rest) → IsCounted week_of w rest → Contains rests rest
  counted_listed week_of w rest from until weekly touches (inl this) =
      listed rest (week_of rest) weekly touches (omega arith) (omega arith)
  counted_listed week_of w rest from until weekly touches (inr next) =
      listed rest (week_of rest) weekly touches (omega arith) (omega arith)

  -- the two rests of a pair of weeks, where these weeks have them
  two_of : (week_of : Run → ℕ) (w : ℕ) → first ≤ w → w + 1 ≤ last
      → ((rest : Run) → IsWeeklyRest line rest → Touches rest (week_of rest))
      → HasTwoCounted line week_of w → HasTwoOf rests (nearest week_of) w
  two_of week_of w from until choice two =
      let enough : 2700 ≤ minutes_of two.long = two.enough.enough in
      let long : IsWeeklyRest line two.long = record { rests = two.enough.rests; enough = omega arith } in
      record {
        long = two.long;
        other = two.other;
        long_among =
            counted_listed week_of w two.long from until long (choice two.long long) two.long_counted;
        other_among =
            counted_listed week_of w two.other from until two.weekly (choice two.other two.weekly) two.other_counted;
        enough = enough;
        different = two.different;
        long_counted = stays week_of w two.long from until two.long_counted;
        other_counted = stays week_of w two.other from until two.other_counted;
      }

  -- what a choice for all weekly rests serves, a choice for the listed ones serves
  pub by_listed : CanServe line first last → CanServeBy line rests first last
  by_listed h = record {
    week_of = nearest h.week_of;
    choice = record {
      from = λ rest among. omega arith;
      until = λ rest among. omega arith;
      touches = λ rest among.
          let is : IsWeeklyRestIn line first last rest = (exact.each rest).0 among in
          near h.week_of rest is (h.choice rest is.rest);
    };
    each = λ w from until. elim (h.each w from until) [
      | inl whole ↦ inl whole
      | inr other ↦ elim other [
        | inl next ↦ inr (inl next)
        | inr two ↦ inr (inr (two_of h.week_of w from until h.choice two))
      ]
    ];
  }

  -- ---- and the other way

  -- a week for a run: that of a choice for the listed rests, if the run is one of them
  record IsWeekFor (week_of : Run → ℕ) (run : Run) (v : ℕ) : Type 0 where
    pub inside : IsWeeklyRestIn line first last run → v ≡ week_of run
    pub touches : IsWeeklyRest line run → Touches run v

  -- a weekly rest with a minute in some week has one in the first week from its start on
  touches_from : (run : Run) (v : ℕ) → run.start < run.past → Touches run v → Touches run (week_from run)
  touches_from run v some touches =
      let a : run.start < week_start (v + 1) = touches.0 in
      let b : week_start v < run.past = touches.1 in
      (omega arith, omega arith)

  module _ (week_of : Run → ℕ) (choice : IsChoiceOf rests first last week_of)
      (there : (rest : Run) → IsWeeklyRest line rest → (week : ℕ) × Touches rest week) where
    -- there is such a week
    week_for : (run : Run) → (v : ℕ) × IsWeekFor week_of run v
    week_for run =
        let outer : (IsWeeklyRestIn line first last run → ⊥) → (v : ℕ) × IsWeekFor week_of run v = λ never. (
          week_from run,
          record {
            inside = λ is. absurd (never is);
            touches = λ weekly. let x = there run weekly in touches_from run x.0 weekly.rests.some x.1;
          },
        ) in
        elim (cases_lt (week_start first) run.past) [
          | inr early ↦ outer (λ h. let e : week_start first < run.past = h.after in omega arith)
          | inl after ↦ elim (cases_lt run.start (week_start (last + 1))) [
            | inr late ↦ outer (λ h. let e : run.start < week_start (last + 1) = h.before in omega arith)
            | inl before ↦ (
              week_of run,
              record {
                inside = λ is. refl;
                touches = λ weekly. choice.touches run
                    ((exact.each run).1 (record { rest = weekly; after = after; before = before }));
              },
            )
          ]
        ]

    -- these weeks, as a choice for all weekly rests
    all_weeks : Run → ℕ
    unfolding week_for
    all_weeks run = (week_for run).0

    all_are : (run : Run) → IsWeekFor week_of run (all_weeks run)
    unfolding all_weeks
    all_are run = (week_for run).1

    -- a listed rest is counted where it was
    still_counted : (w : ℕ) (rest : Run) → Contains rests rest → IsCounted week_of w rest → IsCounted all_weeks w rest
    still_counted w rest among counted =
        let e : all_weeks rest ≡ week_of rest = (all_are rest).inside ((exact.each rest).0 among) in
        elim counted [ inl this ↦ inl (e ∙ this) | inr next ↦ inr (e ∙ next) ]

    -- two listed rests of a pair of weeks are two weekly rests of it
    two_counted : (w : ℕ) → HasTwoOf rests week_of w → HasTwoCounted line all_weeks w
    two_counted w two =
        let long : IsWeeklyRestIn line first last two.long = (exact.each two.long).0 two.long_among in
        let other : IsWeeklyRestIn line first last two.other = (exact.each two.other).0 two.other_among in
        record {
          long = two.long;
          other = two.other;
          enough = record { rests = long.rest.rests; enough = two.enough };
          weekly = other.rest;
          different = two.different;
          long_counted = still_counted w two.long two.long_among two.long_counted;
          other_counted = still_counted w two.other two.other_among two.other_counted;
        }

  -- what a choice for the listed rests serves, a choice for all weekly rests serves, if each has a minute in some week
  pub by_all : ((rest : Run) → IsWeeklyRest line rest → (week : ℕ) × Touches rest week)
      → CanServeBy line rests first last → CanServe line first last
  by_all there h = record {
    week_of = all_weeks h.week_of h.choice there;
    choice = λ rest weekly. (all_are h.week_of h.choice there rest).touches weekly;
    each = λ w from until. elim (h.each w from until) [
      | inl whole ↦ inl whole
      | inr other ↦ elim other [
        | inl next ↦ inr (inl next)
        | inr two ↦ inr (inr (two_counted h.week_of h.choice there w two))
      ]
    ];
  }

-- ---- the week from which the choice was made anew

module _ (line : Line) (horizon begin : ℕ) where
  -- a week from which the choices are examined: the first week, or one at which the rule failed
  abbrev Starts : ℕ → Type 0
  Starts a = (a ≡ begin) ⊎ Fails (CanServe line) (EndedBy horizon) begin a

  -- a week at which the rule fails, and the week from which the choice was made anew
  pub fails_from : (u : ℕ) → Fails (CanServe line) (EndedBy horizon) begin u
      → (first : ℕ) × (Starts first × FailsFrom (CanServe line) (EndedBy horizon) first u)
  fails_from u (at_first f) = (begin, (inl refl, f))
  fails_from u (anew {a = b} h f) = (b, (inr h, f))

  -- and the other way
  pub fails_at : (first u : ℕ) → Starts first → FailsFrom (CanServe line) (EndedBy horizon) first u
      → Fails (CanServe line) (EndedBy horizon) begin u
  fails_at first u (inl e) f =
      at_first (subst (λ (a : ℕ). FailsFrom (CanServe line) (EndedBy horizon) a u) e f)
  fails_at first u (inr h) f = anew h f

  -- the rule can't be kept from one start up to a later start
  pub not_before : (a b : ℕ) → Starts a → Starts b → a < b → CanServe line a b → ⊥
  not_before a b (inl e) (inl f) lt serves = omega arith
  not_before a b (inr h) (inl f) lt serves =
      let l : begin < a = starts_late (CanServe line) (EndedBy horizon) begin (serves_less line) a h in omega arith
  not_before a b start (inr h) lt serves =
      let e : (b - 1) + 1 ≡ b = omega arith in
      none_at (CanServe line) (EndedBy horizon) begin (serves_less line) a (b - 1) start (omega arith)
      (serves_less line a b (b - 1) (omega arith) serves)
      (subst (λ (u : ℕ). CanServe line a u) (sym e) serves)
      (subst (λ (u : ℕ). Fails (CanServe line) (EndedBy horizon) begin u) (sym e) h)

  -- the week from which the choice was made anew is one
  pub one_start : (a b u : ℕ) → Starts a → Starts b → a < u → b < u
      → ((v : ℕ) → a ≤ v → v < u → CanServe line a v) → ((v : ℕ) → b ≤ v → v < u → CanServe line b v) → a ≡ b
  one_start a b u start start' lt lt' served served' = elim (cases_order a b) [
    | inl same ↦ same
    | inr apart ↦ elim apart [
      | inl before ↦ absurd (not_before a b start start' before (served b (omega arith) lt'))
      | inr after ↦ absurd (not_before b a start' start after (served' a (omega arith) lt))
    ]
  ]

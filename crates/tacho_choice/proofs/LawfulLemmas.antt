-- The laws (src/laws.rt).
use Rattle.std.proofs.Common.{◌≡◌, ℕ, ◌+◌}
use Rattle.tacho_law.specs.declared.run.Run.{Run}
use Rattle.tacho_law.specs.Line.{Line}
use Rattle.tacho_law.specs.Weeks.{IsWhollyAtRest, IsWeeklyRest}
use Rattle.tacho_choice.specs.declared.weekly_rests.WeeklyRests.{WeeklyRests}
use Rattle.tacho_choice.specs.Weeks.{first_week_of, last_of, is_regular, IsInWeeks, IsWeekOf}
use Rattle.tacho_choice.specs.Laws.{ChoicesReach, ChoicesStart, ChoicesServe}
use Rattle.tacho_choice.proofs.ChoicesLemmas as abstract
use Rattle.tacho_choice.proofs.ConnectingLemmas.{order, alone, run_or_not, week_to, reach_to, reach_from, can_serve_is}
use Rattle.tacho_choice.proofs.SeenLemmas.{seen_all}

pub reach_law : ChoicesReach
reach_law line first u old new asks outcome is from before after pair = (
  λ h. let x = abstract.reached_steps Run (IsWeeklyRest line) first_week_of last_of is_regular (IsWhollyAtRest line)
      (order line is) (alone line is) run_or_not
      first u from old new (week_to line is u old before) (week_to line is (u + 1) new after) asks pair outcome
      (reach_to line is first (u + 1) outcome h) in
      (x.0, (reach_from line is first u x.0 x.1.0, x.1.1)),
  λ x. reach_from line is first (u + 1) outcome (abstract.step_reaches Run (IsWeeklyRest line) first_week_of last_of
      is_regular (IsWhollyAtRest line) (order line is) (alone line is) run_or_not
      first u from old new (week_to line is u old before) (week_to line is (u + 1) new after) asks pair outcome x.0
      (reach_to line is first u x.0 x.1.0) x.1.1),
)

pub start_law : ChoicesStart
start_law line first week outcome is here = (
  λ h. abstract.reached_first Run (IsWeeklyRest line) first_week_of last_of is_regular (IsWhollyAtRest line)
      (order line is) (alone line is) run_or_not first week (week_to line is first week here) outcome
      (reach_to line is first first outcome h),
  λ h. reach_from line is first first outcome (abstract.first_reaches Run (IsWeeklyRest line) first_week_of last_of
      is_regular (IsWhollyAtRest line) (order line is) (alone line is) run_or_not first week
      (week_to line is first week here) outcome h),
)

pub serve_law : ChoicesServe
serve_law line first u week is here = (
  λ h. let x = abstract.serve_reaches Run (IsWeeklyRest line) first_week_of last_of is_regular (IsWhollyAtRest line)
      (order line is) (alone line is) run_or_not first u week (week_to line is u week here)
      ((can_serve_is line is first u).0 h) in
      (x.0, reach_from line is first u x.0 x.1),
  λ x. (can_serve_is line is first u).1 (abstract.reach_serves Run (IsWeeklyRest line) first_week_of last_of is_regular
      (IsWhollyAtRest line) (order line is) (alone line is) first u x.0 (reach_to line is first u x.0 x.1)),
)

pub rests_there : (line : Line) (week : ℕ) → IsInWeeks line → (rests : WeeklyRests) × IsWeekOf line week rests
rests_there line week is = let seen = seen_all line is week in (seen.0.rests, seen.1.rests)

pub rests_only : (line : Line) (week : ℕ) (rests other : WeeklyRests) → IsInWeeks line → IsWeekOf line week rests
    → IsWeekOf line week other → rests ≡ other
rests_only line week rests other is here there =
    abstract.week_only Run (IsWeeklyRest line) first_week_of last_of is_regular (IsWhollyAtRest line) (order line is)
    (alone line is) week rests other (week_to line is week rests here) (week_to line is week other there)

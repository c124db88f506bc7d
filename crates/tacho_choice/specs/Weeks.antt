-- Trusted in part: The weekly rests of a week by where they are, and the outcomes that choices leave of a week (Regulation (EC) No
-- 561/2006, Articles 8(6), first subparagraph, and 8(9)).
use Rattle.std.specs.Prelude.{◌≡◌, ◌↔◌, ℕ, ◌+◌, ◌-◌, ◌/◌, ◌<◌, ◌≤◌, ◌⊎◌, Bool, true, false, nat_le, List, None}
use Rattle.std.specs.Prelude.{◌&&◌, ◌||◌}
use Rattle.tacho_law.specs.declared.run.Run.{Run}
use Rattle.tacho_law.specs.Line.{Line}
use Rattle.tacho_law.specs.Limits.{first_week, minutes_of_week, regular_weekly_rest}
use Rattle.tacho_law.specs.Runs.{AreRestRuns, minutes_of}
use Rattle.tacho_law.specs.Weeks.{week_start, IsWhollyAtRest, IsWeeklyRest}
use Rattle.tacho_law.specs.Choice.{IsChoice, Serves}
use Rattle.tacho_choice.specs.declared.outcome.Outcome.{Outcome}
use Rattle.tacho_choice.specs.declared.week.WeekOfRests.{WeekOfRests}
use Rattle.tacho_choice.specs.declared.weekly_rests.WeeklyRests.{WeeklyRests}
use Rattle.tacho_choice.specs.declared.counted.Counted.TheVariants.{Nothing}
use Rattle.tacho_choice.specs.Step.{with_rest}
use Rattle.tacho_choice.specs.Counted.{AreCounted, IsOneOf}

-- a line with rest runs, whose weekly rests all have a minute in some week: none ends before week 0 begins
pub record IsInWeeks (line : Line) : Type 0 where
  pub runs : List Run
  pub are : AreRestRuns line runs
  pub late : (rest : Run) → IsWeeklyRest line rest → first_week < rest.past

-- the first week in which a run has a minute; below, the last one
abbrev pub first_week_of : Run → ℕ
first_week_of run = (run.start - first_week) / minutes_of_week

abbrev pub last_of : Run → ℕ
last_of run = (run.past - (first_week + 1)) / minutes_of_week

-- Article 4(h): true for a regular weekly rest
abbrev pub is_regular : Run → Bool
is_regular run = nat_le regular_weekly_rest (minutes_of run)

-- the rests of a set that have a minute in the week: the one that crosses the week's start, those inside, the one that starts in the week
-- and crosses its end, and whether the first of these also crosses its end
pub record AreRestsOfWeek (S : Run → Type 0) (w : ℕ) (week : WeeklyRests) : Type 0 where
  pub entering : IsOneOf is_regular (λ rest. S rest × (first_week_of rest < w) × (w ≤ last_of rest)) week.entering
  pub inside : AreCounted is_regular (λ rest. S rest × (first_week_of rest ≡ w) × (last_of rest ≡ w)) week.inside
  pub starting : IsOneOf is_regular (λ rest. S rest × (first_week_of rest ≡ w) × (w < last_of rest)) week.starting
  pub through : (week.through ≡ true)
      ↔ ((rest : Run) × ((S rest × (first_week_of rest < w) × (w ≤ last_of rest)) × (w < last_of rest)))

-- the week has these weekly rests of the line
abbrev pub IsWeekOf : Line → ℕ → WeeklyRests → Type 0
IsWeekOf line w week = AreRestsOfWeek (IsWeeklyRest line) w week

-- the rest covers all of the week
abbrev pub HasWeek : ℕ → Run → Type 0
HasWeek w rest = (rest.start ≤ week_start w) × (week_start (w + 1) ≤ rest.past)

-- the week has these rests of the set; and whether one of them covers all of it
pub record IsWeekOfRests (S : Run → Type 0) (w : ℕ) (week : WeekOfRests) : Type 0 where
  pub rests : AreRestsOfWeek S w week.rests
  pub whole : (week.whole ≡ true) ↔ ((rest : Run) × (S rest × HasWeek w rest))

-- a week without rests
abbrev pub week_none : WeekOfRests
week_none = record {
  rests = record { entering = None; inside = Nothing; starting = None; through = false };
  whole =
      false;
}

-- a week with one more rest
abbrev pub week_with : ℕ → Run → WeekOfRests → WeekOfRests
week_with w rest week = record {
  rests = with_rest week.rests w (first_week_of rest) (last_of rest) (is_regular rest);
  whole = week.whole || (nat_le rest.start (week_start w) && nat_le (week_start (w + 1)) rest.past);
}

-- something is required of a week and the next iff neither is entirely at rest
abbrev pub IsPairAsked : Line → ℕ → Bool → Type 0
IsPairAsked line w asks =
    (asks ≡ true → (IsWhollyAtRest line w → ⊥) × (IsWhollyAtRest line (w + 1) → ⊥))
    × (asks ≡ false → IsWhollyAtRest line w ⊎ IsWhollyAtRest line (w + 1))

-- some choice is valid for each two neighbouring weeks from one week to another, and leaves this outcome of the last one: what it counts
-- there, and whether it counts the rest that crosses that week's end by then
pub record CanReach (line : Line) (first last : ℕ) (left : Outcome) : Type 0 where
  pub week_of : Run → ℕ
  pub choice : IsChoice line week_of
  pub each : (w : ℕ) → first ≤ w → w + 1 ≤ last → Serves line week_of w
  pub counted : AreCounted is_regular (λ rest. IsWeeklyRest line rest × (week_of rest ≡ last)) left.counted
  pub crossing : (left.crossing ≡ true)
      ↔ ((rest : Run) × ((IsWeeklyRest line rest × (first_week_of rest ≤ last) × (last < last_of rest)) ×
      (week_of rest ≤ last)))

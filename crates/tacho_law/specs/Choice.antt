-- Trusted: The week in which each weekly rest is counted, and the rests that two neighbouring weeks need (Regulation (EC) No 561/2006,
-- Article 8(6), first subparagraph, as amended by (EU) 2020/1054, and Article 8(9)).
use Rattle.std.specs.Prelude.{◌≡◌, ◌≢◌, ℕ, ◌+◌, ◌≤◌, ◌⊎◌}
use Rattle.tacho_law.specs.declared.run.Run.{Run}
use Rattle.tacho_law.specs.Line.{Line}
use Rattle.tacho_law.specs.Limits.{regular_weekly_rest}
use Rattle.tacho_law.specs.Runs.{IsRestOf}
use Rattle.tacho_law.specs.Weeks.{Touches, IsWhollyAtRest, IsWeeklyRest}

-- Article 8(9): a weekly rest that falls in two weeks may be counted in either of them, but not in both. A choice counts each weekly rest
-- in one week in which it has a minute.
abbrev pub IsChoice : Line → (Run → ℕ) → Type 0
IsChoice line week_of = (rest : Run) → IsWeeklyRest line rest → Touches rest (week_of rest)

-- the rest is counted in week w or the next
abbrev pub IsCounted : (Run → ℕ) → ℕ → Run → Type 0
IsCounted week_of w rest = (week_of rest ≡ w) ⊎ (week_of rest ≡ w + 1)

-- Article 8(6), first subparagraph: two different weekly rests are counted in a week and the next, and one of them is regular, of 45 hours
-- (2700 minutes) or more
pub record HasTwoCounted (line : Line) (week_of : Run → ℕ) (w : ℕ) : Type 0 where
  pub long : Run
  pub other : Run
  pub enough : IsRestOf line regular_weekly_rest long
  pub weekly : IsWeeklyRest line other
  pub different : long ≢ other
  pub long_counted : IsCounted week_of w long
  pub other_counted : IsCounted week_of w other

-- the choice is valid for a week and the next; if one of them is entirely at rest, nothing is required
abbrev pub Serves : Line → (Run → ℕ) → ℕ → Type 0
Serves line week_of w = IsWhollyAtRest line w ⊎ (IsWhollyAtRest line (w + 1) ⊎ HasTwoCounted line week_of w)

-- one choice is valid for each two neighbouring weeks from `first` to `last`
pub record CanServe (line : Line) (first last : ℕ) : Type 0 where
  pub week_of : Run → ℕ
  pub choice : IsChoice line week_of
  pub each : (w : ℕ) → first ≤ w → w + 1 ≤ last → Serves line week_of w

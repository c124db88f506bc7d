-- Private to tacho_plain: Terms of the pass over weeks: driving in a week and in two neighbouring weeks (Regulation (EC) No 561/2006,
-- Articles 6(2) and 6(3)).
use Rattle.std.specs.Prelude.{ℕ, ◌+◌, ◌<◌, ◌≤◌, ◌⊎◌, List}
use Rattle.tacho_law.specs.declared.breach.Breach.{Breach}
use Rattle.tacho_law.specs.declared.breach.Kind.TheVariants.{B6, B7}
use Rattle.tacho_law.specs.Line.{Line}
use Rattle.tacho_law.specs.Weeks.{week_start}
use Rattle.tacho_law.specs.SoFar.{AreCollected}
use Rattle.tacho_law.specs.Limits.{driving_in_week, driving_in_two_weeks}
use Rattle.tacho_law.specs.Breaches.{IsDrivingBreach}

-- more than 56 hours (3360 minutes) in a week (Article 6(2))
abbrev pub IsLongWeek : Line → ℕ → Breach → Type 0
IsLongWeek line w breach = IsDrivingBreach line B6 driving_in_week (week_start w) (week_start (w + 1)) breach

-- more than 90 hours (5400 minutes) in a week and the next (Article 6(3))
abbrev pub IsLongPair : Line → ℕ → Breach → Type 0
IsLongPair line w breach = IsDrivingBreach line B7 driving_in_two_weeks (week_start w) (week_start (w + 2)) breach

-- a breach of one of the weeks from `first` to before `end`
pub record IsOfWeeks (line : Line) (first end : ℕ) (breach : Breach) : Type 0 where
  pub week : ℕ
  pub from : first ≤ week
  pub before : week < end
  pub is : IsLongWeek line week breach ⊎ IsLongPair line week breach

-- the breaches of the weeks from `first` to before `end`
abbrev pub AreOfWeeks : Line → ℕ → ℕ → List Breach → Type 0
AreOfWeeks line first end found = AreCollected (λ breach. IsOfWeeks line first end breach) found

-- Private to tacho_plain: Terms of the rules on a day's driving (Regulation (EC) No 561/2006, Article 6(1)).
use Rattle.std.specs.Prelude.{ℕ, ◌<◌}
use Rattle.tacho_law.specs.declared.days.DutyDay.{DutyDay}
use Rattle.tacho_law.specs.declared.breach.Breach.{Breach}
use Rattle.tacho_law.specs.declared.breach.Kind.{Kind}
use Rattle.tacho_law.specs.Line.{Line}
use Rattle.tacho_law.specs.Days.{IsDuty}
use Rattle.tacho_law.specs.Driving.{driving}
use Rattle.tacho_law.specs.Limits.{driving_in_day}
use Rattle.tacho_law.specs.Breaches.{IsDrivingBreach}

-- B4 and B5, of one day: more driving minutes in it than allowed (Article 6(1))
abbrev pub IsLongDay : Line → Kind → ℕ → DutyDay → Breach → Type 0
IsLongDay line kind limit day breach = IsDrivingBreach line kind limit day.start day.past breach

-- a duty day with more than nine hours of driving (Article 6(1))
pub record IsLongDuty (line : Line) (day : DutyDay) : Type 0 where
  pub duty : IsDuty line day
  pub over : driving_in_day < driving line day.start day.past

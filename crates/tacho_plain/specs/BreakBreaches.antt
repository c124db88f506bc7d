-- Private to tacho_plain: Terms of the pass over driving periods (Regulation (EC) No 561/2006, Articles 4(q) and 7).
use Rattle.std.specs.Prelude.{◌≡◌, ℕ}
use Rattle.tacho_law.specs.declared.breach.Breach.{Breach}
use Rattle.tacho_law.specs.declared.breach.Kind.TheVariants.{B1}
use Rattle.tacho_law.specs.Line.{Line}
use Rattle.tacho_law.specs.Driving.{IsDrivingMinute}
use Rattle.tacho_law.specs.Breaches.{HasDrivingAbove}
use Rattle.tacho_law.specs.Limits.{driving_before_break}

-- B1, of one driving period: more than four and a half hours of driving from one minute up to another (Article 7)
pub record IsLongPeriod (line : Line) (from to : ℕ) (breach : Breach) : Type 0 where
  pub kind : breach.kind ≡ B1
  pub over : HasDrivingAbove line driving_before_break from to breach
  pub since : IsDrivingMinute line from to 1 breach.since

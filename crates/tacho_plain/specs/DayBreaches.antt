-- Private to tacho_plain: Terms of the pass over duty days: breaches of daily rests (Regulation (EC) No 561/2006, Articles 8(2) and 8(4))
-- and of a day's driving (Article 6(1)).
use Rattle.std.specs.Prelude.{◌≡◌, ◌+◌, ◌<◌, ◌≤◌, ◌⊎◌, List}
use Rattle.tacho_law.specs.declared.days.DutyDay.{DutyDay}
use Rattle.tacho_law.specs.declared.breach.Breach.{Breach}
use Rattle.tacho_law.specs.declared.breach.Kind.TheVariants.{B2, B3, B4, B5}
use Rattle.tacho_law.specs.Line.{Line}
use Rattle.tacho_law.specs.Exactly.{AreExactly}
use Rattle.tacho_law.specs.Days.{EarlierDay}
use Rattle.tacho_law.specs.Breaches.{IsB2, IsB3, IsB4, IsB5}
use Rattle.tacho_law.specs.Limits.{daily_rest, latest, first_week}

-- a day after week 0's start and before 2100, with a daily rest of 540 minutes or more
pub record IsInTime (day : DutyDay) : Type 0 where
  pub from : first_week ≤ day.start
  pub some : day.start < day.past
  pub ended : day.past ≤ latest
  pub rests : day.past ≡ day.rest.start
  pub enough : day.past + daily_rest ≤ day.rest.past

-- the days that satisfy `P`, in order of time
abbrev pub AreTheDays : (DutyDay → Type 0) → List DutyDay → Type 0
AreTheDays P days = AreExactly P EarlierDay days

-- a breach of the rules on daily rests
abbrev pub IsRestKind : Line → Breach → Type 0
IsRestKind line breach = ((breach.kind ≡ B2) × IsB2 line breach) ⊎ ((breach.kind ≡ B3) × IsB3 line breach)

-- a breach of the rules on a day's driving
abbrev pub IsDriveKind : Line → Breach → Type 0
IsDriveKind line breach = ((breach.kind ≡ B4) × IsB4 line breach) ⊎ ((breach.kind ≡ B5) × IsB5 line breach)

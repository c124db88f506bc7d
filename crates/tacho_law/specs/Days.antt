-- Trusted in part: Duty days and their daily rests (Regulation (EC) No 561/2006, Articles 4(g), 4(k), 8(2) and 8(4)).
use Rattle.std.specs.Prelude.{◌≡◌, ℕ, ◌+◌, ◌<◌, ◌≤◌, ◌⊎◌, List, Contains, min}
use Rattle.tacho_law.specs.declared.run.Run.{Run}
use Rattle.tacho_law.specs.declared.days.DutyDay.{DutyDay}
use Rattle.tacho_law.specs.Line.{Line}
use Rattle.tacho_law.specs.Runs.{IsRestOf, AreNeighbours, minutes_of}
use Rattle.tacho_law.specs.Limits.{minutes_of_day, regular_daily_rest}
use Rattle.tacho_law.specs.Limits.{first_part_of_daily_rest, daily_rest, weekly_rest}

-- Article 4(k), the time between two daily rests: from the end of one rest of 540 minutes or more (Article 4(g): nine hours) to the start
-- of the next, which is its daily rest
pub record IsDuty (line : Line) (day : DutyDay) : Type 0 where
  pub last : Run
  pub neighbours : AreNeighbours line daily_rest last day.rest
  pub start : day.start ≡ last.past
  pub past : day.past ≡ day.rest.start

-- the rest of one day ends at or before the start of the other day
abbrev pub EarlierDay : DutyDay → DutyDay → Type 0
EarlierDay a b = a.rest.past ≤ b.start

-- Article 8(2): the daily rest has n minutes within 24 hours of the day's start, which is the end of the rest before it
abbrev pub HasPortion : DutyDay → ℕ → Type 0
HasPortion day n = day.past + n ≤ min day.rest.past (day.start + minutes_of_day)

-- Article 4(g), a regular daily rest: eleven hours (660 minutes); or in two parts, three hours (180) within the day and then nine (540)
abbrev pub IsRegular : Line → DutyDay → Type 0
IsRegular line day =
    HasPortion day regular_daily_rest
    ⊎ (HasPortion day daily_rest
    × ((part : Run) × IsRestOf line first_part_of_daily_rest part
    × (day.start ≤ part.start) × (part.past ≤ day.past)))

-- Articles 4(g) and 8(2), a reduced daily rest: nine hours (540 minutes) within the 24 hours, and not regular. A rest of 24 hours is a
-- weekly rest, up to which Article 8(4) counts.
pub record IsReduced (line : Line) (day : DutyDay) : Type 0 where
  pub duty : IsDuty line day
  pub portion : HasPortion day daily_rest
  pub irregular : ¬ (IsRegular line day)
  pub short : minutes_of day.rest < weekly_rest

-- a regular rest, decided from the rests of three hours (180 minutes) or more
abbrev pub HasRegularRest : List Run → DutyDay → Type 0
HasRegularRest parts day =
    HasPortion day regular_daily_rest
    ⊎ (HasPortion day daily_rest
    × ((part : Run) × Contains parts part × (day.start ≤ part.start) × (part.past ≤ day.past)))

-- likewise for a reduced rest of a duty day
pub record HasReducedRest (parts : List Run) (day : DutyDay) : Type 0 where
  pub portion : HasPortion day daily_rest
  pub irregular : ¬ (HasRegularRest parts day)
  pub short : minutes_of day.rest < weekly_rest

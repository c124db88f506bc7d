-- Private to tacho_plain: Terms of the rules on daily rests (Regulation (EC) No 561/2006, Articles 8(2) and 8(4)).
use Rattle.std.specs.Prelude.{◌≡◌, ℕ, ◌+◌, ◌-◌, ◌≤◌, List, Contains, min}
use Rattle.tacho_law.specs.declared.run.Run.{Run}
use Rattle.tacho_law.specs.declared.days.DutyDay.{DutyDay}
use Rattle.tacho_law.specs.declared.breach.Breach.{Breach}
use Rattle.tacho_law.specs.declared.breach.Kind.TheVariants.{B2}
use Rattle.tacho_law.specs.Days.{HasPortion}
use Rattle.tacho_law.specs.Limits.{daily_rest, minutes_of_day}

-- B2, of one day: fewer than nine hours of rest in the 24 from the day's start (Article 8(2))
pub record IsShortRest (day : DutyDay) (breach : Breach) : Type 0 where
  pub kind : breach.kind ≡ B2
  pub short : ¬ (HasPortion day daily_rest)
  pub moment : breach.moment ≡ day.start + (minutes_of_day - daily_rest)
  pub since : breach.since ≡ day.start
  pub amount : breach.amount + min day.rest.past (day.start + minutes_of_day) ≡ daily_rest + day.past

-- the last of the runs that have ended by `minute` ended at `ended`
pub record IsLastEnd (runs : List Run) (minute ended : ℕ) : Type 0 where
  pub run : Run
  pub among : Contains runs run
  pub is : run.past ≡ ended
  pub by : ended ≤ minute
  pub last : (other : Run) → Contains runs other → other.past ≤ minute → other.past ≤ ended

-- Private to tacho_ahead: What is known of the duty days of an examined line without the line.
use Rattle.std.specs.Prelude.{◌≡◌, ◌<◌, ◌≤◌, List, All, AllPairs}
use Rattle.tacho_law.specs.declared.days.DutyDay.{DutyDay}
use Rattle.tacho_law.specs.Days.{EarlierDay}
use Rattle.tacho_law.specs.Limits.{latest}

-- a day with a daily rest that starts by the end of 2099
pub record IsInTime (day : DutyDay) : Type 0 where
  pub some : day.start < day.past
  pub ended : day.past ≤ latest
  pub rests : day.past ≡ day.rest.start
  pub rested : day.rest.start < day.rest.past

-- such days, in order of time
pub record AreInTime (days : List DutyDay) : Type 0 where
  pub each : All (λ day. IsInTime day) days
  pub in_order : AllPairs EarlierDay days

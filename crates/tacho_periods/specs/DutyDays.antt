-- Private to tacho_periods: The duty days between the rest runs of a line (Regulation (EC) No 561/2006, Article 8).
use Rattle.std.specs.Prelude.{List}
use Rattle.tacho_law.specs.declared.days.DutyDay.{DutyDay}
use Rattle.tacho_law.specs.Line.{Line}
use Rattle.tacho_law.specs.Exactly.{AreExactly}
use Rattle.tacho_law.specs.Days.{IsDuty, EarlierDay}

-- the duty days of a line, in order of time
abbrev pub AreDutyDays : Line → List DutyDay → Type 0
AreDutyDays line days = AreExactly (IsDuty line) EarlierDay days

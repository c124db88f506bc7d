use Rattle.std.proofs.Common.{take}
use Rattle.tacho_law.specs.declared.days.DutyDay.{DutyDay}
use Rattle.tacho_law.specs.Line.{Line}
use Rattle.tacho_law.specs.Days.{EarlierDay, IsReduced}
use Rattle.tacho_periods.specs.DutyDays.{AreDutyDays}
use Rattle.tacho_law.specs.Runs.{AreRestsOf}
use Rattle.tacho_periods.proofs.KeptLemmas.{AreKept}
use Rattle.tacho_plain.proofs.daily_rests.reduced_days.Given as goal

abbrev pub invariant-loop-day : goal.invariant-loop-day
invariant-loop-day l =
    (line : Line) → AreDutyDays line l.days → AreRestsOf line 180 l.parts
    → AreKept DutyDay EarlierDay (IsReduced line) (take l.day-index l.days) l.reduced.items

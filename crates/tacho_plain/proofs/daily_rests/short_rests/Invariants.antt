use Rattle.std.proofs.Common.{take}
use Rattle.tacho_law.specs.Line.{Line}
use Rattle.tacho_periods.specs.DutyDays.{AreDutyDays}
use Rattle.tacho_plain.proofs.DayFoundLemmas.{DayFound, ShortOf}
use Rattle.tacho_plain.proofs.daily_rests.short_rests.Given as goal

abbrev pub invariant-loop-day : goal.invariant-loop-day
invariant-loop-day l =
    (line : Line) → AreDutyDays line l.days → DayFound (ShortOf line) (take l.day-index l.days) l.found.items

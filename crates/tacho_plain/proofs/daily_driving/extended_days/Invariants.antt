use Rattle.std.proofs.Common.{◌<◌, take}
use Rattle.tacho_law.specs.declared.days.DutyDay.{DutyDay}
use Rattle.tacho_law.specs.Line.{line_of}
use Rattle.tacho_law.specs.Days.{EarlierDay}
use Rattle.tacho_law.specs.Driving.{driving}
use Rattle.tacho_periods.proofs.KeptLemmas.{AreKept}
use Rattle.tacho_plain.proofs.daily_driving.extended_days.Given as goal

abbrev pub invariant-loop-day : goal.invariant-loop-day
invariant-loop-day l =
    AreKept DutyDay EarlierDay (λ day. 540 < driving (line_of l.examined.spans.now) day.start day.past)
    (take l.day-index l.days) l.extended.items

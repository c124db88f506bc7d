use Rattle.std.proofs.Common.{take}
use Rattle.tacho_law.specs.Line.{line_of}
use Rattle.tacho_plain.proofs.DayFoundLemmas.{DayFound, B4Of}
use Rattle.tacho_plain.proofs.daily_driving.long_days.Given as goal

abbrev pub invariant-loop-day : goal.invariant-loop-day
invariant-loop-day l = DayFound (B4Of (line_of l.examined.spans.now)) (take l.day-index l.days) l.found.items

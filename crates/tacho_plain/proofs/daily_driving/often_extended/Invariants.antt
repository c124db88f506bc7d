use Rattle.std.proofs.Common.{take}
use Rattle.tacho_law.specs.Line.{line_of}
use Rattle.tacho_plain.proofs.DayFoundLemmas.{DayFound}
use Rattle.tacho_plain.proofs.TallyLemmas.{Tallied}
use Rattle.tacho_plain.proofs.OrdinalLemmas.{InWeek, B5Of}
use Rattle.tacho_plain.proofs.daily_driving.often_extended.Given as goal

abbrev pub invariant-loop-day : goal.invariant-loop-day
invariant-loop-day l = record {
  tallied : Tallied InWeek (take l.day-index l.extended) l.tally.key l.tally.count;
  seen : DayFound (B5Of (line_of l.examined.spans.now)) (take l.day-index l.extended) l.found.items;
}

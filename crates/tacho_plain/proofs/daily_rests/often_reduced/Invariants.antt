use Rattle.std.proofs.Common.{◌≤◌, List, take}
use Rattle.tacho_law.specs.declared.run.Run.{Run}
use Rattle.tacho_law.specs.Runs.{AreRestRuns, AreRestsOf}
use Rattle.tacho_law.specs.Line.{Line}
use Rattle.tacho_law.specs.Days.{IsReduced}
use Rattle.tacho_plain.specs.DayBreaches.{AreTheDays}
use Rattle.tacho_plain.proofs.DayFoundLemmas.{DayFound}
use Rattle.tacho_plain.proofs.TallyLemmas.{Tallied}
use Rattle.tacho_plain.proofs.OrdinalLemmas.{SinceWeekly, B3Of}
use Rattle.tacho_plain.proofs.daily_rests.often_reduced.Given as goal

abbrev pub invariant-loop-day : goal.invariant-loop-day
invariant-loop-day l = record {
  few : l.tally.count ≤ l.day-index;
  tallied : (line : Line) (runs : List Run) → AreRestRuns line runs
      → AreRestsOf line 1440 l.weekly → AreTheDays (IsReduced line) l.reduced
      → Tallied (SinceWeekly line) (take l.day-index l.reduced) l.tally.key l.tally.count;
  seen : (line : Line) (runs : List Run) → AreRestRuns line runs
      → AreRestsOf line 1440 l.weekly → AreTheDays (IsReduced line) l.reduced
      → DayFound (B3Of line) (take l.day-index l.reduced) l.found.items;
}

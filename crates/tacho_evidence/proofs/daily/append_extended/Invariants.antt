use Rattle.std.proofs.Common.{◌≤◌, take}
use Rattle.tacho_law.specs.Days.{EarlierDay}
use Rattle.tacho_law.specs.Line.{line_of}
use Rattle.tacho_evidence.specs.Evidence.{extended_lines}
use Rattle.tacho_evidence.proofs.AppendedLemmas.{Appended, HasLongDriving}
use Rattle.tacho_evidence.proofs.daily.append_extended.Given as goal

abbrev pub invariant-loop-day : goal.invariant-loop-day
invariant-loop-day l = record {
  few : l.ordinal ≤ l.day-index;
  seen :
      Appended EarlierDay (HasLongDriving (line_of l.examined.spans.now)) (extended_lines (line_of l.examined.spans.now) 1)
      (take l.day-index l.day-items) l.initial.lines.items l.lines.items l.ordinal;
}

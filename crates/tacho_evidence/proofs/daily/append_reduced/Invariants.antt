use Rattle.std.proofs.Common.{◌≤◌, take}
use Rattle.tacho_law.specs.Days.{EarlierDay, HasReducedRest}
use Rattle.tacho_evidence.specs.Evidence.{reduced_lines}
use Rattle.tacho_evidence.proofs.AppendedLemmas.{Appended}
use Rattle.tacho_evidence.proofs.daily.append_reduced.Given as goal

abbrev pub invariant-loop-day : goal.invariant-loop-day
invariant-loop-day l = record {
  few : l.ordinal ≤ l.day-index;
  seen :
      Appended EarlierDay (HasReducedRest l.parts) (reduced_lines 1) (take l.day-index l.day-items)
      l.initial.lines.items l.lines.items l.ordinal;
}

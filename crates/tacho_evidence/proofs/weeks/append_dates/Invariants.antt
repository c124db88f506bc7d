use Rattle.std.proofs.Common.{◌≡◌, ◌+◌, ◌*◌, ◌-◌, ◌++◌}
use Rattle.tacho_law.specs.Driving.{driving}
use Rattle.tacho_law.specs.Line.{line_of}
use Rattle.tacho_evidence.specs.Totals.{dates}
use Rattle.tacho_evidence.proofs.weeks.append_dates.Given as goal

-- the lines so far and those of the remaining dates are all lines
abbrev pub invariant-loop-day : goal.invariant-loop-day
invariant-loop-day l = record {
  total : l.total ≡ driving (line_of l.examined.spans.now) l.origin (l.monday + 1440 * l.day);
  lines : l.lines.items ++ dates (line_of l.examined.spans.now) l.origin l.date l.spans (l.monday + 1440 * l.day) (7 - l.day)
      ≡ l.initial.lines.items ++ dates (line_of l.examined.spans.now) l.origin l.date l.spans l.monday 7;
}

use Rattle.std.proofs.Common.{◌≡◌, ◌-◌, ◌*◌, ◌++◌, string_bytes}
use Rattle.tacho_sheet.specs.Reports.{day_lines}
use Rattle.tacho_sheet.specs.Amounts.{AreAmounts}
use Rattle.tacho_sheet.proofs.sheet.push_days.Given as goal

-- the lines and the sums are those of the days so far
abbrev pub invariant-loop-number : goal.invariant-loop-number
invariant-loop-number l = record {
  lines : string_bytes l.text ≡ string_bytes l.fn.text ++ day_lines l.line l.fn.first (l.number - l.fn.first);
  sums : AreAmounts l.line (1440 * l.fn.first) (1440 * (l.number - l.fn.first)) l.total;
}

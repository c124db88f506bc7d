use Rattle.std.proofs.Common.{◌-◌, ◌<◌, string_bytes}
use Rattle.tacho_sheet.proofs.FormLemmas.{IsCutSoFar}
use Rattle.tacho_sheet.proofs.form.push_rows.Given as goal

-- the rows before `start` were written, each of the most minutes
abbrev pub invariant-cut : goal.invariant-cut
invariant-cut l = record {
  cut : IsCutSoFar l.fn.gap.start l.past (string_bytes l.fn.text) l.start (string_bytes l.text);
  some : l.fn.gap.start < l.past → l.start < l.past;
}

abbrev pub decreases-cut : goal.decreases-cut
decreases-cut l = l.past - l.start

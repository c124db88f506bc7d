use Rattle.std.proofs.Common.{string_bytes}
use Rattle.tacho_sheet.specs.Evidence.{evidence_line}
use Rattle.tacho_sheet.proofs.TextLemmas.{one_more_row}
use Rattle.tacho_sheet.proofs.evidence.push_lines.Goals as goal

pub loop-line-preserved : goal.loop-line-preserved
loop-line-preserved c =
    one_more_row evidence_line c.args.lines.now c.loop-line.line-index _ (string_bytes c.args.text.now) (string_bytes c.loop-line.text) _
    c.loop-line-test.true c.loop-line.invariant c.in_ok-push_line.ensures

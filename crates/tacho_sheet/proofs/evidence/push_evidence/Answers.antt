use Rattle.std.proofs.Common.{string_bytes}
use Rattle.tacho_sheet.proofs.WhyLemmas.{one_more_shown}
use Rattle.tacho_sheet.proofs.evidence.push_evidence.Goals as goal

pub loop-evidence-preserved : goal.loop-evidence-preserved
loop-evidence-preserved c =
    one_more_shown c.args.found.now c.loop-evidence.evidence-index c.evidence-item.result (string_bytes c.args.text.now)
    (string_bytes c.loop-evidence.text) _ c.loop-evidence-test.true c.evidence-item.is c.loop-evidence.invariant c.in_ok-push_shown.ensures

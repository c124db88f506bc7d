use Rattle.tacho_periods.proofs.RunsLemmas.{no_run}
use Rattle.tacho_evidence.proofs.ChosenLemmas.{rests_push}
use Rattle.tacho_evidence.proofs.choice.append_weekly.Goals as goal

pub loop-rest-preserved : goal.loop-rest-preserved
loop-rest-preserved c =
    rw c.in_ok-push.ensures.items
    (rests_push c.args.first c.args.last c.args.rests.now c.loop-rest.rest-index no_run c.args.lines.now.items
    c.loop-rest.lines.items c.line_of_rest.result c.loop-rest-test.true c.loop-rest.invariant c.line_of_rest.ensures)

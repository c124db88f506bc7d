use Rattle.tacho_law.specs.Line.{line_of}
use Rattle.tacho_law.specs.Runs.{AreRuns}
use Rattle.tacho_periods.proofs.BreaksLemmas.{breaks_are}
use Rattle.tacho_law.proofs.RunsLemmas.{rest_runs_are}
use Rattle.tacho_plain.proofs.break_breaches.breaks.Goals as goal

pub complete_breaks-requires : goal.complete_breaks-requires
complete_breaks-requires c =
    rw c.deref.ensures.value (rest_runs_are (line_of c.args.spans.now) c.in_ok-runs.runs.items c.in_ok-runs.ensures)

pub long_periods-requires-clause-breaks : goal.long_periods-requires-clause-breaks
long_periods-requires-clause-breaks c =
    let all : AreRuns c.in_ok-runs.runs.items =
    rest_runs_are (line_of c.args.spans.now) c.in_ok-runs.runs.items c.in_ok-runs.ensures in
    rw c.deref-2.ensures.value
    (breaks_are c.deref.result.now c.in_ok-breaks.breaks.items
    (rw c.deref.ensures.value all) c.in_ok-breaks.ensures)

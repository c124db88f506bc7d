use Rattle.tacho_law.specs.Line.{line_of}
use Rattle.tacho_law.proofs.RunsLemmas.{rest_runs_are}
use Rattle.tacho_evidence.proofs.periods.periods_of.Goals as goal

pub complete_breaks-requires : goal.complete_breaks-requires
complete_breaks-requires c =
    rw c.deref.ensures.value (rest_runs_are (line_of c.args.examined.now.spans.now) c.in_ok-runs.runs.items c.in_ok-runs.ensures)

pub duty_days-requires : goal.duty_days-requires
duty_days-requires c =
    rw c.deref-2.ensures.value (rest_runs_are (line_of c.args.examined.now.spans.now) c.in_ok-runs.runs.items c.in_ok-runs.ensures)

pub long_rests-requires : goal.long_rests-requires
long_rests-requires c =
    rw c.deref-3.ensures.value (rest_runs_are (line_of c.args.examined.now.spans.now) c.in_ok-runs.runs.items c.in_ok-runs.ensures)

pub long_rests-requires-2 : goal.long_rests-requires-2
long_rests-requires-2 c =
    rw c.deref-4.ensures.value (rest_runs_are (line_of c.args.examined.now.spans.now) c.in_ok-runs.runs.items c.in_ok-runs.ensures)

pub returns : goal.returns
returns c = record {
  runs = c.in_ok-runs.ensures;
  breaks = rw c.deref.ensures.value at c.in_ok-complete_breaks.ensures;
  days = (rw c.deref-2.ensures.value at c.in_ok-duty_days.ensures) (line_of c.args.examined.now.spans.now) c.in_ok-runs.ensures;
  parts = (rw c.deref-3.ensures.value at c.in_ok-long_rests.ensures) (line_of c.args.examined.now.spans.now) c.in_ok-runs.ensures;
  weekly = (rw c.deref-4.ensures.value at c.in_ok-long_rests-2.ensures) (line_of c.args.examined.now.spans.now) c.in_ok-runs.ensures;
}

use Rattle.std.proofs.Common.{drop}
use Rattle.tacho_law.proofs.RunsLemmas.{Running}
use Rattle.tacho_periods.proofs.runs.rest_runs.Given as goal

abbrev pub invariant-loop-span : goal.invariant-loop-span
invariant-loop-span l =
    Running l.examined.spans.now (drop l.span-index l.examined.spans.now) l.examined.past l.runs.items l.start

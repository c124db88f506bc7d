use Rattle.std.proofs.Common.{◌≡◌, ◌++◌, drop}
use Rattle.tacho_state.specs.State.{entered_spans}
use Rattle.tacho_shelf.proofs.hours.add_spans.Given as goal

abbrev pub invariant-loop-hours : goal.invariant-loop-hours
invariant-loop-hours l =
    l.spans.items ++ entered_spans (drop l.hours-index l.entries) ≡ l.initial.spans.items ++ entered_spans l.entries

use Rattle.std.proofs.Common.{◌≡◌, ◌++◌, drop}
use Rattle.tacho_state.specs.Batch.{batch_of}
use Rattle.tacho_state.specs.State.{entered_spans}
use Rattle.tacho_store.proofs.entering.spans_of_lines.Given as goal

abbrev pub invariant-loop-line : goal.invariant-loop-line
invariant-loop-line l = l.spans.items ++ entered_spans (batch_of (drop l.line-index l.lines)) ≡ entered_spans (batch_of l.lines)

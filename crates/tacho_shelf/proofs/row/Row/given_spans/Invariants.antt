use Rattle.std.proofs.Common.{◌≡◌, ◌++◌, drop}
use Rattle.tacho_state.specs.State.{given_spans}
use Rattle.tacho_shelf.proofs.row.Row.given_spans.Given as goal

abbrev pub invariant-loop-download : goal.invariant-loop-download
invariant-loop-download l = l.spans.items ++ given_spans (drop l.download-index l.download-items) ≡ given_spans l.self.downloads

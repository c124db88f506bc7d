use Rattle.std.proofs.Common.{subst}
use Rattle.tacho_state.specs.State.{Driver}
use Rattle.tacho_shelf.specs.Shelf.{AreKept}
use Rattle.tacho_shelf.proofs.row.Row.given_spans.Goals as goal

pub returns-in_err-extend_from_slice-clause-kept : goal.returns-in_err-extend_from_slice-clause-kept
returns-in_err-extend_from_slice-clause-kept c = subst (λ (d : Driver). AreKept d.downloads d.entries) c.self.view_is c.self.invariant

pub returns-clause-kept : goal.returns-clause-kept
returns-clause-kept c = subst (λ (d : Driver). AreKept d.downloads d.entries) c.self.view_is c.self.invariant

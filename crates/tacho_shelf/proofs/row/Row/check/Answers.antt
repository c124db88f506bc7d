use Rattle.tacho_state.specs.State.{held_spans}
use Rattle.tacho_shelf.proofs.GainLemmas.{both_agreed, no_least, least_by_fault, no_empty_span}
use Rattle.tacho_shelf.proofs.row.Row.check.Goals as goal

pub gain_fault-requires : goal.gain_fault-requires
gain_fault-requires c = no_empty_span c.in_ok-line.line c.args.spans.now c.in-Err.fault c.requires c.in-Err.ensures

pub returns-in-Ok-clause-told : goal.returns-in-Ok-clause-told
returns-in-Ok-clause-told c = no_least (held_spans c.args.self.now) c.in_ok-line.line c.args.spans.now c.in_ok-line.ensures.line
    c.in-Ok.field-0.items c.in-Ok.ensures

pub returns-in-Ok-clause-agreed : goal.returns-in-Ok-clause-agreed
returns-in-Ok-clause-agreed c = both_agreed (held_spans c.args.self.now) c.in_ok-line.line c.args.spans.now c.in_ok-line.ensures.line
    c.in-Ok.field-0.items c.in-Ok.ensures

pub returns-clause-told : goal.returns-clause-told
returns-clause-told c = least_by_fault (held_spans c.args.self.now) c.in_ok-line.line c.args.spans.now c.in_ok-line.ensures.line
    c.in-Err.fault c.gain_fault.result c.in-Err.ensures c.requires c.gain_fault.ensures.contradiction c.gain_fault.ensures.memory

use Rattle.std.proofs.Common.{sym, ap, ◌∙◌}
use Rattle.tacho_line.specs.Gains.{conflict_of, lacking_of}
use Rattle.tacho_line.proofs.GainLemmas.{position_is, agreed_fault, gains_are, fault_is}
use Rattle.tacho_line.proofs.gains.gains_of.Goals as goal

pub returns-in-Some : goal.returns-in-Some
returns-in-Some c = sym (position_is c.args.spans.now) ∙ sym c.first_empty.ensures ∙ c.in-Some.is

pub returns-in-Err : goal.returns-in-Err
returns-in-Err c =
    let full = sym (position_is c.args.spans.now) ∙ sym c.first_empty.ensures ∙ c.in_default.is in
    fault_is c.args.line.now c.args.spans.now c.fault_with.result full c.fault_with.ensures

pub returns-in-Some-first_conflict : goal.returns-in-Some-first_conflict
returns-in-Some-first_conflict c =
    let line = c.args.line.now in
    let full = sym (position_is c.args.spans.now) ∙ sym c.first_empty.ensures ∙ c.in_default.is in
    agreed_fault line c.args.spans.now c.in-Ok.runs.items c.in-Some-first_conflict.minute c.requires c.in-Ok.ensures full
    (sym (ap (conflict_of line) c.deref.ensures.value) ∙ sym c.first_conflict.ensures ∙ c.in-Some-first_conflict.is)

pub returns : goal.returns
returns c =
    let line = c.args.line.now in
    let full = sym (position_is c.args.spans.now) ∙ sym c.first_empty.ensures ∙ c.in_default.is in
    gains_are line c.args.spans.now c.in-Ok.runs.items c.in_ok-lacking.field-0.items c.requires c.in-Ok.ensures full
    (sym (ap (conflict_of line) c.deref.ensures.value) ∙ sym c.first_conflict.ensures ∙ c.in_default-first_conflict.is)
    (c.in_ok-lacking.ensures ∙ ap (lacking_of line) c.deref-2.ensures.value)

use Rattle.std.proofs.Common.{rules, map}
use Rattle.sqlite.specs.Held.{state}
use Rattle.tacho_stretches.specs.Pass.{passing}
use Rattle.tacho_stretches.specs.Stretches.{judged_of}
use Rattle.tacho_reading.proofs.StretchingLemmas.{line_told, stretches_told}
use Rattle.tacho_reading.proofs.TimelineLemmas.{gave_up_as, not_answered}
use Rattle.tacho_reading.proofs.reading.line_and_stretches.Goals as goal

pub returns-in_err-line-clause-reads : goal.returns-in_err-line-clause-reads
returns-in_err-line-clause-reads g c =
    let f = c.in_err-line.field-0.0 in
    let result = c.from_residual-in_err-line.result in
    let is = c.from_residual-in_err-line.ensures in
    record {
      clean = search rules;
      answer = λ clean s st. gave_up_as (λ _. tt) f result _ c.in_err-line.ensures.fault is;
      state = search rules;
      same = search rules;
      answered = λ clean answered. absurd (not_answered f result c.in_err-line.ensures.fault is answered);
      was_live = search rules;
      live = search rules;
      crash = search rules;
      of_no_file = search rules;
    }

pub returns-clause-within : goal.returns-clause-within
returns-clause-within g c clean s shows =
    let clean_1 = c.take_held.ensures.reads.clean clean in
    let reads = c.in_ok-base.ensures.reads in
    let holds = reads.state clean_1 s shows (reads.live clean_1 tt) in
    line_told (state g.S.Store c.begin.new.conn).now.trees c.args.driver c.args.start c.args.past s c.in_ok-base.field-0
    (passing c.new-pass.result c.empty-found.result) (passing c.take_held.new.pass c.take_held.new.found) c.new-near.result.items c.take_held.new.near.items c.in_ok-line.line holds.1
    (c.in_ok-base.ensures.begun clean_1 s shows) c.new-near.ensures.items
    (λ t stand. c.in_ok-take_held.ensures.took clean holds.0 t stand) (rw c.deref.ensures.value at c.in_ok-line.ensures.line)

pub returns-clause-stretches : goal.returns-clause-stretches
returns-clause-stretches g c clean s shows =
    let clean_1 = c.take_held.ensures.reads.clean clean in
    let reads = c.in_ok-base.ensures.reads in
    let holds = reads.state clean_1 s shows (reads.live clean_1 tt) in
    stretches_told (state g.S.Store c.begin.new.conn).now.trees c.args.driver c.args.start c.args.past s c.in_ok-base.field-0
    (passing c.new-pass.result c.empty-found.result) (passing c.take_held.new.pass c.take_held.new.found) c.new-near.result.items c.take_held.new.near.items
    (map judged_of c.in_ok-finish.field-0.items) holds.1 (c.in_ok-base.ensures.begun clean_1 s shows) (c.new-pass.ensures.none c.empty-found.result c.empty-found.ensures)
    (λ t stand. c.in_ok-take_held.ensures.took clean holds.0 t stand) c.in_ok-finish.ensures.stretches

use Rattle.std.proofs.Common.{rules}
use Rattle.tacho_handover.proofs.CoverLemmas.{beside, beside_or_held}
use Rattle.tacho_handover.proofs.covering.add_within.Goals as goal

pub returns-clause-held : goal.returns-clause-held
returns-clause-held c =
    let all = rw c.empty-given.ensures at c.in_ok-add.ensures.held in
    let gains = rw c.deref.ensures.value at c.in_ok-gains.ensures.gains in
    let holds = rw c.deref-2.ensures.value at c.in_ok-add-2.ensures.held in
    beside c.args.line.now c.args.spans.now c.add.new.self c.in_ok-within.within.items c.in_ok-gains.gains.items c.args.start c.args.past all
    c.in_ok-within.ensures gains c.add-2.new.self holds

pub returns-clause-more : goal.returns-clause-more
returns-clause-more c =
    let all = rw c.empty-given.ensures at c.in_ok-add.ensures.held in
    let gains = rw c.deref.ensures.value at c.in_ok-gains.ensures.gains in
    beside_or_held c.args.line.now c.args.spans.now c.add.new.self c.in_ok-within.within.items c.in_ok-gains.gains.items c.args.start c.args.past
    all c.in_ok-within.ensures gains c.is_empty.result (search rules)

use Rattle.std.proofs.Common.{sym, ◌∙◌, arith}
use Rattle.tacho_card.proofs.WordLemmas.{late_word, early_word, good_word, no_word}
use Rattle.tacho_card.proofs.record.fault_of_words.Goals as goal

pub returns-then-minute-ge1440 : goal.returns-then-minute-ge1440
returns-then-minute-ge1440 c =
    sym (late_word c.args.buffer.now c.args.place c.loop-i.before c.loop-i.i c.args.count c.of.result (omega arith) (c.of.ensures ∙ c.number_in.ensures) (rw (← c.minute-minute.ensures) (omega arith))) ∙ c.loop-i.invariant

pub returns-then-minute-before : goal.returns-then-minute-before
returns-then-minute-before c =
    sym (early_word c.args.buffer.now c.args.place c.loop-i.before c.loop-i.i c.args.count c.of.result (omega arith) (c.of.ensures ∙ c.number_in.ensures) (rw (← c.minute-minute.ensures) (omega arith)) (rw (← c.minute-minute.ensures) (omega arith))) ∙ c.loop-i.invariant

pub loop-i-preserved : goal.loop-i-preserved
loop-i-preserved c = rw c.minute-minute.ensures (
    sym (good_word c.args.buffer.now c.args.place c.loop-i.before c.loop-i.i c.args.count c.of.result (omega arith) (c.of.ensures ∙ c.number_in.ensures) (rw (← c.minute-minute.ensures) (omega arith)) (rw (← c.minute-minute.ensures) (omega arith))) ∙ c.loop-i.invariant)

pub returns : goal.returns
returns c =
    sym (no_word c.args.buffer.now c.args.place c.loop-i.before c.loop-i.i c.args.count (omega arith)) ∙ c.loop-i.invariant

use Rattle.std.proofs.Common.{arith}
use Rattle.tacho_periods.proofs.DaysLemmas.{days_none, days_add, days_all}
use Rattle.tacho_periods.proofs.duty.duty_days.Goals as goal

pub loop-i-init : goal.loop-i-init
loop-i-init c = rw c.new-days.ensures.items (days_none c.in_ok-rests.rests.items)

pub loop-i-preserved : goal.loop-i-preserved
loop-i-preserved c =
    rw c.in_ok-push.ensures.items
    (days_add c.in_ok-rests.rests.items c.loop-i.i c.loop-i.days.items c.loop-i.auto.i (omega arith)
    c.loop-i.invariant c.index.result.now c.index-rest.result.now c.index.ensures c.index-rest.ensures)

pub returns : goal.returns
returns c = λ line are.
    days_all line c.in_ok-rests.rests.items (c.in_ok-rests.ensures line are)
    c.loop-i.i c.loop-i.days.items c.loop-i.invariant (omega arith)

use Rattle.tacho_periods.proofs.DaysLemmas.{DaysBelow}
use Rattle.tacho_periods.proofs.duty.duty_days.Given as goal

abbrev pub invariant-loop-i : goal.invariant-loop-i
invariant-loop-i l = DaysBelow l.rests.items l.i l.days.items

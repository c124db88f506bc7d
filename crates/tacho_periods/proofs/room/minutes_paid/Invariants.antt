use Rattle.std.proofs.Common.{◌≡◌, take}
use Rattle.tacho_law.specs.Debts.{paid_from}
use Rattle.tacho_periods.proofs.room.minutes_paid.Given as goal

abbrev pub invariant-loop-debt : goal.invariant-loop-debt
invariant-loop-debt l = l.paid ≡ paid_from l.rest (take l.debt-index l.debts)

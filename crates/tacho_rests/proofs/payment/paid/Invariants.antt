use Rattle.std.proofs.Common.{◌≡◌, ◌++◌, length, take, drop}
use Rattle.tacho_rests.specs.Paying.{pay_all}
use Rattle.tacho_rests.proofs.payment.paid.Given as goal

abbrev pub invariant-loop-debt : goal.invariant-loop-debt
invariant-loop-debt l =
    (take l.after.count l.after.slots ++ pay_all l.rest l.end l.spent (drop l.debt-index l.debt-items) ≡ pay_all l.rest
    l.end l.kept l.debt-items)
    × (length (take l.after.count l.after.slots) ≡ l.debt-index)

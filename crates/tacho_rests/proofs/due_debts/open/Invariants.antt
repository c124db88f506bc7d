use Rattle.std.proofs.Common.{◌≡◌, ◌≤◌, ◌++◌, length, take, drop}
use Rattle.tacho_rests.specs.Paying.{open_of}
use Rattle.tacho_rests.proofs.due_debts.open.Given as goal

abbrev pub invariant-loop-debt : goal.invariant-loop-debt
invariant-loop-debt l =
    (take l.open.count l.open.slots ++ open_of l.by (drop l.debt-index l.debt-items) ≡ open_of l.by l.debt-items)
    × (length (take l.open.count l.open.slots) ≤ l.debt-index)

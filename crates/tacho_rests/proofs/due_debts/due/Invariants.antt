use Rattle.std.proofs.Common.{◌≡◌, ◌≤◌, ◌++◌, length, take, drop}
use Rattle.tacho_rests.specs.Paying.{due_of}
use Rattle.tacho_rests.proofs.due_debts.due.Given as goal

abbrev pub invariant-loop-debt : goal.invariant-loop-debt
invariant-loop-debt l =
    (take l.due.count l.due.slots ++ due_of l.by (drop l.debt-index l.debt-items) ≡ due_of l.by l.debt-items)
    × (length (take l.due.count l.due.slots) ≤ l.debt-index)

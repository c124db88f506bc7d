use Rattle.std.proofs.Common.{◌≡◌, ◌++◌, true, take}
use Rattle.tacho_pass.specs.Found.{Appends}
use Rattle.tacho_pass.specs.Kinds.{is_b10}
use Rattle.tacho_rests.specs.Paying.{overdue_of}
use Rattle.tacho_rests.proofs.due_debts.emit.Given as goal

abbrev pub invariant-loop-debt : goal.invariant-loop-debt
invariant-loop-debt l = record {
  debts : l.found.debts.items ≡ l.fn.found.debts.items ++ take l.debt-index l.debts;
  breaches : l.found.breaches.items ≡ l.fn.found.breaches.items ++ overdue_of l.by (take l.debt-index l.debts);
  appends : Appends is_b10 true l.fn.found l.found;
}

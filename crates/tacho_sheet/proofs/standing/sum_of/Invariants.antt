use Rattle.std.proofs.Common.{◌≡◌, ◌*◌, ◌≤◌, ◌^◌, take}
use Rattle.std.specs.List.{sum_by}
use Rattle.tacho_law.specs.declared.debt.Debt.{Debt}
use Rattle.tacho_sheet.proofs.standing.sum_of.Given as goal

-- the sum of the debts so far, which is small
abbrev pub invariant-loop-debt : goal.invariant-loop-debt
invariant-loop-debt l = record {
  sum : l.sum ≡ sum_by (λ (d : Debt). d.amount) (take l.debt-index l.debts);
  small : l.sum ≤ l.debt-index * (2 ^ 32);
}

use Rattle.std.proofs.Common.{◌≡◌, take}
use Rattle.std.specs.List.{filter}
use Rattle.tacho_ahead.specs.Outlook.{is_open_debt}
use Rattle.tacho_ahead.proofs.outlook.open_debts.Given as goal

abbrev pub invariant-loop-debt : goal.invariant-loop-debt
invariant-loop-debt l = l.left.items ≡ filter (is_open_debt l.minute) (take l.debt-index l.debts)

use Rattle.std.proofs.Common.{◌≡◌, ◌++◌, take, string_bytes}
use Rattle.std.specs.List.{flat_map}
use Rattle.tacho_sheet.specs.Reports.{debt_line}
use Rattle.tacho_sheet.proofs.reports.push_debts.Given as goal

-- the lines so far are those of the debts so far
abbrev pub invariant-loop-debt : goal.invariant-loop-debt
invariant-loop-debt l = string_bytes l.text ≡ string_bytes l.fn.text ++ flat_map (debt_line l.fn.horizon) (take l.debt-index l.debts)

use Rattle.std.proofs.Common.{◌≡◌, ◌++◌, map, take, string_bytes}
use Rattle.tacho_sheet.specs.Amounts.{cells}
use Rattle.tacho_sheet.specs.Months.{count_of}
use Rattle.tacho_sheet.proofs.months.push_counts.Given as goal

-- the numbers so far are those of the kinds so far
abbrev pub invariant-loop-kind : goal.invariant-loop-kind
invariant-loop-kind l = string_bytes l.text ≡ string_bytes l.fn.text ++ cells (map (count_of l.breaches) (take l.kind-index l.kind-items))

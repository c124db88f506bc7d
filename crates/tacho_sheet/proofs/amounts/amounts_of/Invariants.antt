use Rattle.std.proofs.Common.{drop}
use Rattle.tacho_sheet.proofs.AmountLemmas.{Walked}
use Rattle.tacho_sheet.proofs.amounts.amounts_of.Given as goal

-- the amounts are those of the minutes before `from`
abbrev pub invariant-loop-span : goal.invariant-loop-span
invariant-loop-span l = Walked l.spans (drop l.span-index l.spans) l.fn.start l.from l.past l.amounts

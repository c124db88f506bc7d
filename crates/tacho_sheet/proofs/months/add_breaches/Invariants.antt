use Rattle.std.proofs.Common.{◌≡◌, ◌++◌, take}
use Rattle.tacho_sheet.specs.Reports.{breaches_within}
use Rattle.tacho_sheet.proofs.months.add_breaches.Given as goal

-- the list so far has what the breaches so far add
abbrev pub invariant-loop-breach : goal.invariant-loop-breach
invariant-loop-breach l = l.found.items ≡ l.fn.found.items ++ breaches_within l.fn.start l.fn.past (take l.breach-index l.breaches)

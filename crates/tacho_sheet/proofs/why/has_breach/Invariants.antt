use Rattle.std.proofs.Common.{◌≡◌, [], take}
use Rattle.tacho_sheet.specs.Reports.{breaches_within}
use Rattle.tacho_sheet.proofs.why.has_breach.Given as goal

-- none of the breaches so far has its moment there
abbrev pub invariant-loop-breach : goal.invariant-loop-breach
invariant-loop-breach l = breaches_within l.start l.past (take l.breach-index l.breaches) ≡ []

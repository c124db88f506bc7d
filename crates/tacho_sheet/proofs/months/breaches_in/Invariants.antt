use Rattle.std.proofs.Common.{◌≡◌, map, take}
use Rattle.tacho_stretches.specs.Stretches.{judged_of}
use Rattle.tacho_sheet.specs.Months.{month_breaches}
use Rattle.tacho_sheet.proofs.months.breaches_in.Given as goal

-- the list so far has the breaches of the stretches so far
abbrev pub invariant-loop-stretch : goal.invariant-loop-stretch
invariant-loop-stretch l = l.found.items ≡ month_breaches l.fn.start l.fn.past (map judged_of (take l.stretch-index l.stretches))

use Rattle.std.proofs.Common.{◌≡◌, ◌++◌, take, string_bytes}
use Rattle.std.specs.List.{flat_map}
use Rattle.tacho_sheet.specs.Reports.{breaches_within}
use Rattle.tacho_sheet.specs.Months.{incident_row}
use Rattle.tacho_sheet.proofs.months.push_breaches.Given as goal

-- the rows so far are those of the breaches so far
abbrev pub invariant-loop-breach : goal.invariant-loop-breach
invariant-loop-breach l = string_bytes l.text
    ≡ string_bytes l.fn.text
    ++ flat_map (incident_row l.fn.number l.fn.name) (breaches_within l.fn.start l.fn.past (take l.breach-index l.breaches))

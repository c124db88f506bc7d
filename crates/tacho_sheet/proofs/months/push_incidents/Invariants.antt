use Rattle.std.proofs.Common.{◌≡◌, ◌++◌, map, take, string_bytes}
use Rattle.std.specs.List.{flat_map}
use Rattle.tacho_stretches.specs.Stretches.{judged_of}
use Rattle.tacho_sheet.specs.Months.{month_breaches, incident_row}
use Rattle.tacho_sheet.proofs.months.push_incidents.Given as goal

-- the rows so far are those of the stretches so far
abbrev pub invariant-loop-stretch : goal.invariant-loop-stretch
invariant-loop-stretch l = string_bytes l.text
    ≡ string_bytes l.fn.text
    ++ flat_map (incident_row l.fn.number l.fn.name) (month_breaches l.start l.past (map judged_of (take l.stretch-index l.stretches)))

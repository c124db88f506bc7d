use Rattle.std.proofs.Common.{◌≡◌, ◌++◌, take, string_bytes}
use Rattle.std.specs.List.{flat_map}
use Rattle.tacho_sheet.specs.Reports.{breach_line}
use Rattle.tacho_sheet.proofs.reports.push_breaches.Given as goal

-- the lines so far are those of the breaches so far
abbrev pub invariant-loop-breach : goal.invariant-loop-breach
invariant-loop-breach l = string_bytes l.text ≡ string_bytes l.fn.text ++ flat_map breach_line (take l.breach-index l.breaches)

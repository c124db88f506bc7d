use Rattle.std.proofs.Common.{◌≡◌, ◌++◌, take, string_bytes}
use Rattle.std.specs.List.{flat_map}
use Rattle.tacho_sheet.specs.Chart.{breach_code}
use Rattle.tacho_sheet.proofs.chart.push_codes.Given as goal

-- the text so far has what is written of the items so far
abbrev pub invariant-loop-breach : goal.invariant-loop-breach
invariant-loop-breach l = string_bytes l.text ≡ string_bytes l.fn.text ++ flat_map breach_code (take l.breach-index l.breaches)

use Rattle.std.proofs.Common.{◌≡◌, ◌++◌, take, string_bytes}
use Rattle.std.specs.List.{flat_map}
use Rattle.tacho_sheet.specs.Chart.{shade}
use Rattle.tacho_sheet.proofs.chart.push_shades.Given as goal

-- the text so far has what is written of the items so far
abbrev pub invariant-loop-gap : goal.invariant-loop-gap
invariant-loop-gap l = string_bytes l.text ≡ string_bytes l.fn.text ++ flat_map (shade l.fn.first) (take l.gap-index l.gaps)

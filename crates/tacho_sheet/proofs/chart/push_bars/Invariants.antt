use Rattle.std.proofs.Common.{◌≡◌, ◌++◌, take, string_bytes}
use Rattle.std.specs.List.{flat_map}
use Rattle.tacho_sheet.specs.Chart.{bar}
use Rattle.tacho_sheet.proofs.chart.push_bars.Given as goal

-- the text so far has what is written of the items so far
abbrev pub invariant-loop-span : goal.invariant-loop-span
invariant-loop-span l = string_bytes l.text ≡ string_bytes l.fn.text ++ flat_map (bar l.fn.first) (take l.span-index l.spans)

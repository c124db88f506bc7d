use Rattle.std.proofs.Common.{◌≡◌, map, take}
use Rattle.tacho_stretches.specs.Stretches.{judged_of}
use Rattle.tacho_sheet.specs.Seen.{seen_spans}
use Rattle.tacho_sheet.proofs.chart.spans_of.Given as goal

-- the list so far has the spans of the stretches so far
abbrev pub invariant-loop-stretch : goal.invariant-loop-stretch
invariant-loop-stretch l = l.spans.items ≡ seen_spans (map judged_of (take l.stretch-index l.stretches))

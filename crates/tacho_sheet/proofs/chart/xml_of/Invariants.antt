use Rattle.std.proofs.Common.{string_bytes, ◌≡◌}
use Rattle.std.specs.List.{flat_map}
use Rattle.tacho_sheet.specs.Chart.{xml_char}
use Rattle.tacho_sheet.proofs.chart.xml_of.Given as goal

-- the text so far has the characters so far
abbrev pub invariant-loop-character : goal.invariant-loop-character
invariant-loop-character l = string_bytes l.xml ≡ flat_map xml_char l.yielded

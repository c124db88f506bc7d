use Rattle.std.proofs.Common.{◌≡◌, take}
use Rattle.std.specs.List.{flat_map}
use Rattle.tacho_time.specs.Text.{span_line}
use Rattle.tacho_time.proofs.lines.span_lines.Given as goal

-- the lines so far are those of the spans so far
abbrev pub invariant-loop-span : goal.invariant-loop-span
invariant-loop-span l = l.text.items ≡ flat_map span_line (take l.span-index l.spans)

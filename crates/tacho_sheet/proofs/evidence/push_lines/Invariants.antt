use Rattle.std.proofs.Common.{◌≡◌, ◌++◌, take, string_bytes}
use Rattle.std.specs.List.{flat_map}
use Rattle.tacho_sheet.specs.Evidence.{evidence_line}
use Rattle.tacho_sheet.proofs.evidence.push_lines.Given as goal

-- the text so far has the lines so far
abbrev pub invariant-loop-line : goal.invariant-loop-line
invariant-loop-line l = string_bytes l.text ≡ string_bytes l.fn.text ++ flat_map evidence_line (take l.line-index l.lines)

use Rattle.std.proofs.Common.{◌≡◌, take, string_bytes}
use Rattle.std.specs.List.{flat_map}
use Rattle.tacho_handover.specs.Contents.{missing_line}
use Rattle.tacho_handover.proofs.contents.missing_lines.Given as goal

-- the lines so far are those of the gaps so far
abbrev pub invariant-loop-gap : goal.invariant-loop-gap
invariant-loop-gap l = string_bytes l.text ≡ flat_map missing_line (take l.gap-index l.gaps)

use Rattle.std.proofs.Common.{◌≡◌, ◌++◌, take, string_bytes}
use Rattle.std.specs.List.{flat_map}
use Rattle.tacho_sheet.specs.Lines.{byte_digits}
use Rattle.tacho_sheet.proofs.lines.push_bytes.Given as goal

-- the text so far is the old text followed by the digits of the bytes so far
abbrev pub invariant-loop-byte : goal.invariant-loop-byte
invariant-loop-byte l = string_bytes l.text ≡ string_bytes l.initial.text ++ flat_map byte_digits (take l.byte-index l.bytes)

use Rattle.std.proofs.Common.{◌≡◌, map, take, string_bytes}
use Rattle.tacho_stretches.specs.Stretches.{judged_of}
use Rattle.tacho_sheet.specs.Stretches.{stretch_text}
use Rattle.tacho_sheet.proofs.stretches.stretch_text.Given as goal

-- the text so far is that of the stretches so far
abbrev pub invariant-loop-stretch : goal.invariant-loop-stretch
invariant-loop-stretch l = string_bytes l.text ≡ stretch_text (map judged_of (take l.stretch-index l.stretches))

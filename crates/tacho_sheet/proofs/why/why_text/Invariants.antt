use Rattle.std.proofs.Common.{map, take, string_bytes}
use Rattle.tacho_stretches.specs.Stretches.{judged_of}
use Rattle.tacho_sheet.specs.Written.{AreWritten}
use Rattle.tacho_sheet.proofs.why.why_text.Given as goal

-- the text so far is what is written for the stretches so far
abbrev pub invariant-loop-stretch : goal.invariant-loop-stretch
invariant-loop-stretch l = AreWritten l.line l.start l.past (map judged_of (take l.stretch-index l.stretches)) (string_bytes l.text)

use Rattle.std.proofs.Common.{◌≡◌, ◌++◌, drop, flat_map}
use Rattle.tacho_desk.specs.Words.{minute_text_of}
use Rattle.tacho_desk.proofs.words.minute_of.Given as goal

-- the parts so far, followed by the rest, are the day and the time in one text
abbrev pub invariant-loop-part : goal.invariant-loop-part
invariant-loop-part l = l.text.items ++ flat_map (λ part. part.now) (drop l.part-index l.part-items) ≡ minute_text_of l.fn.day l.fn.time

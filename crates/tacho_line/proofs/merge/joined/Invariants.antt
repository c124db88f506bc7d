use Rattle.std.proofs.Common.{◌≡◌, ◌++◌, drop}
use Rattle.tacho_line.specs.Join.{joined_from, join_spans}
use Rattle.tacho_line.proofs.merge.joined.Given as goal

-- the runs so far, followed by those of the remaining spans
abbrev pub invariant-loop-span : goal.invariant-loop-span
invariant-loop-span l = l.runs.items ++ joined_from l.last (drop l.span-index l.others) ≡ join_spans l.fn.spans

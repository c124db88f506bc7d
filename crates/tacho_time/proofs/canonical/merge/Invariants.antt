use Rattle.std.proofs.Common.{◌≡◌, drop}
use Rattle.tacho_time.specs.Merge.{merge_spans, merged_from, with_front}
use Rattle.tacho_time.proofs.canonical.merge.Given as goal

-- the runs so far, followed by the runs of the remaining spans, are those of all spans
abbrev pub invariant-loop-span : goal.invariant-loop-span
invariant-loop-span l = with_front l.runs.items (merged_from l.last (drop l.span-index l.others)) ≡ merge_spans l.spans

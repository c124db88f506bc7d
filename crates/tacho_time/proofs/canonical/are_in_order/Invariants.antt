use Rattle.std.proofs.Common.{◌++◌, take, List}
use Rattle.tacho_time.specs.declared.span.Span.{Span}
use Rattle.tacho_time.specs.Spans.{StartsFrom}
use Rattle.tacho_time.proofs.canonical.are_in_order.Given as goal

-- spans in order from the last start on are in order after the spans so far
abbrev pub invariant-loop-span : goal.invariant-loop-span
invariant-loop-span l = (rest : List Span) → StartsFrom l.from rest → StartsFrom 0 (take l.span-index l.spans ++ rest)

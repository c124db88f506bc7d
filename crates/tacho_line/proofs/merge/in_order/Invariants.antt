use Rattle.std.proofs.Common.{◌≡◌, ◌++◌, drop}
use Rattle.tacho_time.specs.Spans.{IsCanonical}
use Rattle.tacho_line.specs.Join.{in_order}
use Rattle.tacho_line.proofs.merge.in_order.Given as goal

-- the spans so far, followed by the remaining spans of both lists in order
abbrev pub invariant-loop-span : goal.invariant-loop-span
invariant-loop-span l =
    record {
      same : l.ordered.items ++ in_order l.left (drop l.span-index l.spans) ≡ in_order l.fn.held l.spans;
      canonical : IsCanonical l.left;
    }

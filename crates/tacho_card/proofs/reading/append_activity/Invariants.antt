use Rattle.std.proofs.Common.{◌≡◌}
use Rattle.tacho_card.specs.RawSpans.{prepend_spans, items_spans, activity_spans}
use Rattle.tacho_card.proofs.reading.append_activity.Given as goal

-- the spans so far, followed by those of the remaining records, are those of all records
abbrev pub invariant-loop-item : goal.invariant-loop-item
invariant-loop-item l = prepend_spans l.spans.items (items_spans l.newest l.item-iterator) ≡ prepend_spans l.fn.spans.items (activity_spans l.activity)

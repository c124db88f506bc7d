use Rattle.std.proofs.Common.{◌∷◌, ◌++◌, ◌==◌, inr, ap, ap₂, ◌∙◌}
use Rattle.tacho_card.specs.RawSpans.{prepend_spans, record_spans, items_spans}
use Rattle.tacho_card.proofs.RawLemmas.{only_fault, spans_fault, spans_more, spans_end}
use Rattle.tacho_card.proofs.reading.append_activity.Goals as goal

pub loop-item-init : goal.loop-item-init
loop-item-init c =
    ap₂ (λ n items. prepend_spans c.args.spans.now.items (items_spans n items)) c.newest-newest.ensures (c.into_iter-item-iterator.ensures.into_iter_gives ∙ c.records-item-items.ensures)

pub returns-in-Err : goal.returns-in-Err
returns-in-Err c =
    inr (only_fault _ _ _ (spans_fault c.loop-item.spans.items c.newest-newest.result c.loop-item.item-iterator c.next.new.self c.in-Err.fault _ (c.in-Some.ensures.steps ∙ ap (λ x. x ∷ c.next.new.self) c.in-Err.is) c.loop-item.invariant))

pub loop-item-preserved : goal.loop-item-preserved
loop-item-preserved c =
    let added = c.in_ok-append_spans-in-Ok.ensures ∙ ap (λ n. c.loop-item.spans.items ++ record_spans (n == c.newest-newest.result) c.in-Ok.day) c.place.ensures in
    spans_more c.loop-item.spans.items c.append_spans.new.spans.items c.newest-newest.result c.loop-item.item-iterator c.next.new.self c.in-Ok.day _ (c.in-Some.ensures.steps ∙ ap (λ x. x ∷ c.next.new.self) c.in-Ok.is) c.loop-item.invariant added

pub returns : goal.returns
returns c =
    spans_end c.loop-item.spans.items c.newest-newest.result c.loop-item.item-iterator _ c.in-None.ensures.steps.0 c.loop-item.invariant

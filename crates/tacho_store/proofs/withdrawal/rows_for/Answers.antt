use Rattle.std.proofs.Common.{◌∙◌, ◌++◌, ap}
use Rattle.tacho_store.proofs.WithdrawalLemmas.{rows_are}
use Rattle.tacho_store.proofs.withdrawal.rows_for.Goals as goal

pub returns-clause-rows : goal.returns-clause-rows
returns-clause-rows c =
    rows_are _ _ _ _ _ c.in-Some.first c.in-Some-minute_of.end c.in_ok-spans.spans.items c.in_ok-inside.inside.items _ _
    c.in-Some.ensures.some c.in-Some-minute_of.ensures.some
    (rw (c.deref.ensures.value, c.in_ok-held_spans.ensures.spans) at c.in_ok-spans.ensures) c.in_ok-inside.ensures.inside
    c.in_ok-stored.ensures
    (c.deref-3.ensures.value ∙ c.in_ok-extend_from_slice.ensures.items
    ∙ ap (λ x. c.in_ok-spans.spans.items ++ x) c.deref-2.ensures.value)

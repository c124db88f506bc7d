use Rattle.std.proofs.Common.{arith}
use Rattle.tacho_tables.specs.declared.table.TableName.TheVariants.{Downloads, CardSpans, EntryRows, Held}
use Rattle.tacho_check.proofs.AbsentLemmas.{first_judged, none_judged}
use Rattle.tacho_check.proofs.ShownLemmas.{empty_shown, full_shown}
use Rattle.tacho_check.proofs.judgement.first_with_rows.Goals as goal

pub returns-then-not-is_empty : goal.returns-then-not-is_empty
returns-then-not-is_empty c own n absent shown =
    let rows = c.args.rows.now in
    first_judged own n absent Downloads
    (full_shown _ _ rows.downloads (shown Downloads) _ c.is_empty.ensures c.if-not-is_empty.true)
    (λ less. absurd (omega (arith, less)))
    (λ less. absurd (omega (arith, less)))
    (λ less. absurd (omega (arith, less)))

pub returns-then-not-is_empty-2 : goal.returns-then-not-is_empty-2
returns-then-not-is_empty-2 c own n absent shown =
    let rows = c.args.rows.now in
    first_judged own n absent CardSpans
    (full_shown _ _ rows.card_spans (shown CardSpans) _ c.is_empty-else-not-is_empty.ensures c.if-not-is_empty-2.true)
    (λ _. empty_shown _ _ rows.downloads (shown Downloads) _ c.is_empty.ensures c.if-not-is_empty.false)
    (λ less. absurd (omega (arith, less)))
    (λ less. absurd (omega (arith, less)))

pub returns-then-not-is_empty-3 : goal.returns-then-not-is_empty-3
returns-then-not-is_empty-3 c own n absent shown =
    let rows = c.args.rows.now in
    first_judged own n absent EntryRows
    (full_shown _ _ rows.entry_rows (shown EntryRows) _ c.is_empty-else-not-is_empty-2.ensures c.if-not-is_empty-3.true)
    (λ _. empty_shown _ _ rows.downloads (shown Downloads) _ c.is_empty.ensures c.if-not-is_empty.false)
    (λ _. empty_shown _ _ rows.card_spans (shown CardSpans) _ c.is_empty-else-not-is_empty.ensures c.if-not-is_empty-2.false)
    (λ less. absurd (omega (arith, less)))

pub returns-then-not-is_empty-4 : goal.returns-then-not-is_empty-4
returns-then-not-is_empty-4 c own n absent shown =
    let rows = c.args.rows.now in
    first_judged own n absent Held
    (full_shown _ _ rows.held (shown Held) _ c.is_empty-else-not-is_empty-3.ensures c.if-not-is_empty-4.true)
    (λ _. empty_shown _ _ rows.downloads (shown Downloads) _ c.is_empty.ensures c.if-not-is_empty.false)
    (λ _. empty_shown _ _ rows.card_spans (shown CardSpans) _ c.is_empty-else-not-is_empty.ensures c.if-not-is_empty-2.false)
    (λ _. empty_shown _ _ rows.entry_rows (shown EntryRows) _ c.is_empty-else-not-is_empty-2.ensures c.if-not-is_empty-3.false)

pub returns-else-not-is_empty-4 : goal.returns-else-not-is_empty-4
returns-else-not-is_empty-4 c own n absent shown =
    let rows = c.args.rows.now in
    none_judged own n absent
    (empty_shown _ _ rows.downloads (shown Downloads) _ c.is_empty.ensures c.if-not-is_empty.false)
    (empty_shown _ _ rows.card_spans (shown CardSpans) _ c.is_empty-else-not-is_empty.ensures c.if-not-is_empty-2.false)
    (empty_shown _ _ rows.entry_rows (shown EntryRows) _ c.is_empty-else-not-is_empty-2.ensures c.if-not-is_empty-3.false)
    (empty_shown _ _ rows.held (shown Held) _ c.is_empty-else-not-is_empty-3.ensures c.if-not-is_empty-4.false)

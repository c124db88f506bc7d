use Rattle.std.proofs.Common.{◌∙◌, true≢false, sym}
use Rattle.tacho_tables.specs.declared.table.TableName.TheVariants.{Downloads, CardSpans, EntryRows, Held}
use Rattle.tacho_check.proofs.JudgeLemmas.{wrong_downloads, wrong_cards, wrong_entries, wrong_held, none_wrong}
use Rattle.tacho_check.proofs.judgement.first_wrong.Goals as goal

pub returns-in_default : goal.returns-in_default
returns-in_default c own r it =
    wrong_downloads own r c.args.basis c.args.rows.now it
    ((rw (c.deref.ensures.value, c.in_default.is) at c.in_ok-downloads.ensures) r.driver (own Downloads) it.downloads)

pub returns-then-not-branch : goal.returns-then-not-branch
returns-then-not-branch c own r it =
    let down = (rw (c.deref.ensures.value, c.in-Some.is) at c.in_ok-downloads.ensures) r.driver (own Downloads) it.downloads in
    let cards = (rw (c.deref-2.ensures.value, c.deref-3.ensures.value) at c.in_ok-kept.ensures) r.driver (own CardSpans) it.card_spans in
    wrong_cards own r c.args.basis c.args.rows.now it c.in-Some.given down
    (λ kept. true≢false (sym (cards.1 kept) ∙ c.if-not-branch.true))

pub returns-in_default-together : goal.returns-in_default-together
returns-in_default-together c own r it =
    let down = (rw (c.deref.ensures.value, c.in-Some.is) at c.in_ok-downloads.ensures) r.driver (own Downloads) it.downloads in
    let cards = (rw (c.deref-2.ensures.value, c.deref-3.ensures.value) at c.in_ok-kept.ensures) r.driver (own CardSpans) it.card_spans in
    wrong_entries own r c.args.basis c.args.rows.now it c.in-Some.given down (cards.0 c.if-not-branch.false)
    ((rw (c.deref-4.ensures.value, c.in_default-together.is) at c.in_ok-together.ensures) r.driver (own EntryRows) it.entries)

pub returns-then-not-branch-2 : goal.returns-then-not-branch-2
returns-then-not-branch-2 c own r it =
    let down = (rw (c.deref.ensures.value, c.in-Some.is) at c.in_ok-downloads.ensures) r.driver (own Downloads) it.downloads in
    let cards = (rw (c.deref-2.ensures.value, c.deref-3.ensures.value) at c.in_ok-kept.ensures) r.driver (own CardSpans) it.card_spans in
    let hours = (rw (c.deref-4.ensures.value, c.in-Some-together.is) at c.in_ok-together.ensures) r.driver (own EntryRows) it.entries in
    let held = (rw (c.deref-5.ensures.value, c.deref-6.ensures.value) at c.in_ok-kept-2.ensures) r.driver (own Held) it.held in
    wrong_held own r c.args.basis c.args.rows.now it c.in-Some.given down (cards.0 c.if-not-branch.false) c.in-Some-together.all hours
    (λ kept. true≢false (sym (held.1 kept) ∙ c.if-not-branch-2.true))

pub returns : goal.returns
returns c own r it =
    let down = (rw (c.deref.ensures.value, c.in-Some.is) at c.in_ok-downloads.ensures) r.driver (own Downloads) it.downloads in
    let cards = (rw (c.deref-2.ensures.value, c.deref-3.ensures.value) at c.in_ok-kept.ensures) r.driver (own CardSpans) it.card_spans in
    let hours = (rw (c.deref-4.ensures.value, c.in-Some-together.is) at c.in_ok-together.ensures) r.driver (own EntryRows) it.entries in
    let held = (rw (c.deref-5.ensures.value, c.deref-6.ensures.value) at c.in_ok-kept-2.ensures) r.driver (own Held) it.held in
    none_wrong own r c.args.basis c.args.rows.now it c.in-Some.given down (cards.0 c.if-not-branch.false) c.in-Some-together.all hours
    (held.0 c.if-not-branch-2.false)

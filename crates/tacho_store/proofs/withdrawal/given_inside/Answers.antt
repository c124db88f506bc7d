use Rattle.std.proofs.Common.{rules, ◌∙◌}
use Rattle.std.specs.List.{All}
use Rattle.tacho_reading.specs.Standing.{IsFit}
use Rattle.tacho_reading.proofs.FaultyLemmas.{faulty_rows, front_faulty, back_faulty, spans_of_both}
use Rattle.tacho_store.proofs.withdrawal.given_inside.Goals as goal

pub returns-in_err-card_spans-clause-cause : goal.returns-in_err-card_spans-clause-cause
returns-in_err-card_spans-clause-cause c is =
    front_faulty c.args.cards.now c.args.others.now (let unfit : ¬ All IsFit c.args.cards.now = search rules in unfit)

pub returns-in_err-entered-clause-cause : goal.returns-in_err-entered-clause-cause
returns-in_err-entered-clause-cause c is =
    back_faulty c.args.cards.now c.args.others.now (let unfit : ¬ All IsFit c.args.others.now = search rules in unfit)

pub returns-clause-cause : goal.returns-clause-cause
returns-clause-cause c =
    faulty_rows _ _ c.in-Err.fault c.fault_of_rows.result
    (spans_of_both c.args.cards.now c.args.others.now c.deref.result.now c.deref-2.result.now
    (c.deref.ensures.value ∙ c.in_ok-card_spans.ensures.spans) (c.deref-2.ensures.value ∙ c.in_ok-entered.ensures.spans))
    c.in-Err.ensures c.fault_of_rows.ensures.cause

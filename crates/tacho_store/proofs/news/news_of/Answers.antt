use Rattle.std.proofs.Common.{sym}
use Rattle.tacho_store.proofs.NewsLemmas.{none_empty, handed_on, some_first, are_news, is_new}
use Rattle.tacho_store.proofs.news.news_of.Goals as goal

pub gains_of-requires : goal.gains_of-requires
gains_of-requires c = none_empty 0 c.args.spans.now c.requires

pub gains_of-requires-in-Err-Contradiction : goal.gains_of-requires-in-Err-Contradiction
gains_of-requires-in-Err-Contradiction c = none_empty 0 c.args.spans.now c.requires

pub returns-in_err-gains_of-in-Ok-2 : goal.returns-in_err-gains_of-in-Ok-2
returns-in_err-gains_of-in-Ok-2 c =
    let gains = c.in-Ok.gains in
    let some = some_first gains.items gains.len gains.ok.0 (sym c.if-is_empty.ensures) in
    handed_on _ c.args.card_line.now c.args.line.now c.args.spans.now c.in_err-gains_of-in-Ok-2.field-0.0 c.from_residual.result
    (is_new c.args.card_line.now c.args.spans.now gains.items some c.in-Ok.ensures) c.in_err-gains_of-in-Ok-2.ensures c.from_residual.ensures

pub returns-in_ok-gains_of-in-Ok-2 : goal.returns-in_ok-gains_of-in-Ok-2
returns-in_ok-gains_of-in-Ok-2 c =
    let gains = c.in-Ok.gains in
    let some = some_first gains.items gains.len gains.ok.0 (sym c.if-is_empty.ensures) in
    are_news c.args.card_line.now c.args.line.now c.args.spans.now gains.items c.in_ok-gains_of-in-Ok-2.field-0.items some c.in-Ok.ensures c.in_ok-gains_of-in-Ok-2.ensures

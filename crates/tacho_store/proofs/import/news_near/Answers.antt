use Rattle.std.proofs.Common.{rules}
use Rattle.tacho_reading.proofs.TellLemmas.{tells_as, tells_handed, tells_then}
use Rattle.tacho_store.proofs.DecisionLemmas.{decided, undecided}
use Rattle.tacho_store.proofs.import.news_near.Goals as goal

pub returns-in_err-card_line : goal.returns-in_err-card_line
returns-in_err-card_line g c = tells_handed c.in_err-card_line.ensures c.from_residual.ensures
    (λ db s stands up d is. undecided db s c.args.driver d c.args.spans.now _ c.from_residual.result up c.from_residual.ensures)

pub returns-in_err-line : goal.returns-in_err-line
returns-in_err-line g c = tells_handed (tells_then c.in_ok-card_line.ensures c.in_err-line.ensures) c.from_residual-in_err-line.ensures
    (λ db s stands (card_line, up) d is. undecided db s c.args.driver d c.args.spans.now _ c.from_residual-in_err-line.result up
    c.from_residual-in_err-line.ensures)

pub returns : goal.returns
returns g c = tells_as (tells_then c.in_ok-card_line.ensures c.in_ok-line.ensures) (search rules) (λ db s stands (cards, helds) d is.
    decided db s c.args.driver d _ _ c.args.spans.now _ _ c.news_of.result stands is cards helds c.range_of-start.ensures c.news_of.ensures)

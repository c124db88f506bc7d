use Rattle.std.proofs.Common.{rules, ap, ◌∙◌}
use Rattle.tacho_line.specs.Line.{first_empty}
use Rattle.tacho_reading.proofs.LookUpLemmas.{found_on, given_up}
use Rattle.tacho_reading.proofs.TellLemmas.{tells_as, tells_handed}
use Rattle.tacho_store.proofs.EnteringLemmas.{none_empty_line, gained}
use Rattle.tacho_store.proofs.entering.gains_near.Goals as goal

pub gains_of-requires : goal.gains_of-requires
gains_of-requires g c = ap first_empty c.requires.spans ∙ none_empty_line c.args.lines.now c.requires.batch

pub returns-in_err-line : goal.returns-in_err-line
returns-in_err-line g c = tells_handed c.in_err-line.ensures c.from_residual.ensures
    (λ db s stands up d is. found_on _ _ _ c.from_residual.result (given_up _ _ up) c.from_residual.ensures)

pub returns : goal.returns
returns g c = tells_as c.in_ok-line.ensures (search rules) (λ db s stands near d is.
    gained db s c.args.driver d _ _ c.args.lines.now c.args.spans.now _ (λ gains. gains.items) c.gains_of.result stands is c.requires.batch
    c.requires.spans c.range_of_lines-start.ensures near c.gains_of.ensures)

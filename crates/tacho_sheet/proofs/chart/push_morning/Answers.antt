use Rattle.tacho_sheet.proofs.TextLemmas.{on_pushed, pieces3}
use Rattle.tacho_sheet.proofs.chart.push_morning.Goals as goal

pub returns : goal.returns
returns c =
    on_pushed c.push_str-3.result _ _ c.push_str-3.ensures.bytes
    (λ three. pieces3 _ _ _ _ _ _ _ c.in_ok-push_str.ensures.bytes c.in_ok-push_str-2.ensures.bytes three)

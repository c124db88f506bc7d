use Rattle.tacho_sheet.proofs.TextLemmas.{on_done, pieces4}
use Rattle.tacho_sheet.proofs.chart.push_hours.Goals as goal

pub returns : goal.returns
returns c =
    on_done c.push_afternoon.result c.push_afternoon.ensures
    (λ four. pieces4 _ _ _ _ _ _ _ _ _ c.in_ok-write.ensures.bytes c.in_ok-push_columns.ensures c.in_ok-push_morning.ensures four)

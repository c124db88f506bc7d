use Rattle.tacho_sheet.proofs.TextLemmas.{on_done, pieces5}
use Rattle.tacho_sheet.proofs.chart.push_group.Goals as goal

pub returns : goal.returns
returns c =
    let bars = rw c.range_of_day-first.ensures.start at c.in_ok-push_bars.ensures in
    let shades = rw c.range_of_day-first.ensures.start at c.in_ok-push_shades.ensures in
    let marks = rw c.range_of_day-first.ensures.start at c.in_ok-push_marks.ensures in
    on_done c.push_day_end.result c.push_day_end.ensures
    (λ end. pieces5 _ _ _ _ _ _ _ _ _ _ _ c.in_ok-push_day_head.ensures bars shades marks end)

use Rattle.tacho_sheet.proofs.TextLemmas.{on_done, pieces3}
use Rattle.tacho_sheet.proofs.chart.push_day_label.Goals as goal

pub returns : goal.returns
returns c =
    on_done c.write.result c.write.ensures.bytes
    (λ three. pieces3 _ _ _ _ _ _ _ c.in_ok-push_str.ensures.bytes c.in_ok-write_day.ensures.ok
    (rw (c.name_of_weekday-name.ensures, c.weekday.ensures) at three))

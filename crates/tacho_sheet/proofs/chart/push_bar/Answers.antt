use Rattle.tacho_sheet.proofs.TextLemmas.{on_done, pieces2}
use Rattle.tacho_sheet.proofs.chart.push_bar.Goals as goal

pub returns : goal.returns
returns c =
    let one = rw (c.minutes_between-x.ensures, c.minutes_between-width.ensures) at c.in_ok-push_rect.ensures in
    on_done c.push_bar_title.result c.push_bar_title.ensures (λ two. pieces2 _ _ _ _ _ one two)

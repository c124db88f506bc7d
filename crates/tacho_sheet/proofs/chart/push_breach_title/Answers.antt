use Rattle.tacho_sheet.proofs.TextLemmas.{on_done}
use Rattle.tacho_sheet.proofs.chart.push_breach_title.Goals as goal

pub returns : goal.returns
returns c = on_done c.write.result c.write.ensures.bytes (λ written. rw c.name_of_kind-kind.ensures at written)

use Rattle.tacho_sheet.proofs.MarkLemmas.{overview_same}
use Rattle.tacho_sheet.proofs.laws.overview_is_by_marks.Goals as goal

pub returns : goal.returns
returns c = overview_same

use Rattle.tacho_sheet.proofs.MarkLemmas.{gap_text_same}
use Rattle.tacho_sheet.proofs.laws.gap_text_is_by_marks.Goals as goal

pub returns : goal.returns
returns c = gap_text_same

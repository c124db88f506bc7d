use Rattle.tacho_sheet.proofs.MarkLemmas.{month_sheet_same}
use Rattle.tacho_sheet.proofs.laws.month_sheet_is_by_marks.Goals as goal

pub returns : goal.returns
returns c = month_sheet_same

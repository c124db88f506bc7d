use Rattle.tacho_sheet.proofs.MarkLemmas.{form_same}
use Rattle.tacho_sheet.proofs.laws.form_is_by_marks.Goals as goal

pub returns : goal.returns
returns c = form_same

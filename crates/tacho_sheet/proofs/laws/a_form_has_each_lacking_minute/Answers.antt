use Rattle.tacho_sheet.proofs.FilledLemmas.{rows_same}
use Rattle.tacho_sheet.proofs.laws.a_form_has_each_lacking_minute.Goals as goal

pub returns : goal.returns
returns c = rows_same

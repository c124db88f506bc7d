use Rattle.tacho_sheet.proofs.FilledLemmas.{filled_leaves_none}
use Rattle.tacho_sheet.proofs.laws.a_filled_form_leaves_no_gap.Goals as goal

pub returns : goal.returns
returns c = filled_leaves_none

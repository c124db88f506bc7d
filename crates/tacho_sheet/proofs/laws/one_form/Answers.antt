use Rattle.tacho_sheet.proofs.OneLemmas.{one_form}
use Rattle.tacho_sheet.proofs.laws.one_form.Goals as goal

pub returns : goal.returns
returns c = one_form c.one_list_of_gaps.ensures

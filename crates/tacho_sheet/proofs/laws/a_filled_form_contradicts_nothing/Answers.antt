use Rattle.tacho_sheet.proofs.AcceptedLemmas.{accepted}
use Rattle.tacho_sheet.proofs.laws.a_filled_form_contradicts_nothing.Goals as goal

pub returns : goal.returns
returns c = accepted

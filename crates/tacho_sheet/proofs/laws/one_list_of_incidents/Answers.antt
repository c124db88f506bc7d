use Rattle.tacho_sheet.proofs.OneLemmas.{one_incidents}
use Rattle.tacho_sheet.proofs.laws.one_list_of_incidents.Goals as goal

pub returns : goal.returns
returns c = one_incidents

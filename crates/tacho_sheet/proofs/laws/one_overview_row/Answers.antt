use Rattle.tacho_sheet.proofs.OneLemmas.{one_overview}
use Rattle.tacho_sheet.proofs.laws.one_overview_row.Goals as goal

pub returns : goal.returns
returns c = one_overview

use Rattle.tacho_time.proofs.CivilLemmas.{civil_number}
use Rattle.tacho_time.proofs.laws.civil_dates.Goals as goal

pub returns : goal.returns
returns c = civil_number

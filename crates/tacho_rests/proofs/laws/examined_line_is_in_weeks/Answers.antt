use Rattle.tacho_rests.proofs.LackingLemmas.{examined_in_weeks}
use Rattle.tacho_rests.proofs.laws.examined_line_is_in_weeks.Goals as goal

pub returns : goal.returns
returns c = examined_in_weeks

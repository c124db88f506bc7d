use Rattle.tacho_line.proofs.GapLaw.{one_list_of_gaps}
use Rattle.tacho_line.proofs.laws.one_list_of_gaps.Goals as goal

pub returns : goal.returns
returns c = one_list_of_gaps

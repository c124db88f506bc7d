use Rattle.tacho_law.proofs.RunsLemmas.{one_rest_runs}
use Rattle.tacho_law.proofs.laws.one_list_of_rest_runs.Goals as goal

pub returns : goal.returns
returns c = one_rest_runs

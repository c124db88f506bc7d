use Rattle.tacho_law.proofs.ByRunsLemmas.{paid_by_turns}
use Rattle.tacho_law.proofs.laws.paid_by_runs.Goals as goal

pub returns : goal.returns
returns c = paid_by_turns

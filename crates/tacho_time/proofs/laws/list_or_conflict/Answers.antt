use Rattle.tacho_time.proofs.ExistenceLemmas.{list_or_conflict}
use Rattle.tacho_time.proofs.laws.list_or_conflict.Goals as goal

pub returns : goal.returns
returns c = list_or_conflict

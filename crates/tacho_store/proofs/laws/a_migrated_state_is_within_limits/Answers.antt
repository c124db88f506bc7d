use Rattle.tacho_store.proofs.MigratedLemmas.{migrated_within}
use Rattle.tacho_store.proofs.laws.a_migrated_state_is_within_limits.Goals as goal

pub returns : goal.returns
returns c = migrated_within

use Rattle.tacho_check.proofs.LearnLemmas.{both, learned_as, learned_none}
use Rattle.tacho_check.proofs.current.ask_migrated.Goals as goal

pub returns : goal.returns
returns g c = learned_as c.ask_meta.result (both c.in_ok-ask_old_entries.ensures c.ask_meta.ensures) (λ is _ found. (found.1, found.0))

pub returns-in_err-ask_old_entries : goal.returns-in_err-ask_old_entries
returns-in_err-ask_old_entries g c =
    learned_none _ c.from_residual.result c.in_err-ask_old_entries.ensures c.from_residual.ensures.0

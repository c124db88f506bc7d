use Rattle.tacho_state.proofs.RunLemmas.{run_stands, run_leaves, run_stopped}
use Rattle.tacho_state.proofs.laws.a_run_of_calls.Goals as goal

pub returns-clause-stands : goal.returns-clause-stands
returns-clause-stands g c calls old new s run clean st =
    let k = g.K.Keeper in
    run_stands k.stands k.is_clean k.leaves calls old new run clean s st

pub returns-clause-leaves : goal.returns-clause-leaves
returns-clause-leaves g c calls old new s run clean answered st left =
    let k = g.K.Keeper in
    run_leaves k.stands k.is_clean k.leaves calls old new run clean answered s st left

pub returns-clause-stopped : goal.returns-clause-stopped
returns-clause-stopped g c calls last old new s run clean answered st left =
    let k = g.K.Keeper in
    run_stopped k.stands k.is_clean k.leaves calls last old new run clean answered s st left

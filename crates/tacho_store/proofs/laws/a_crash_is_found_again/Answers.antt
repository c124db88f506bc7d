use Rattle.std.proofs.Common.{[], ◌∷◌}
use Rattle.sqlite.specs.Held.{state}
use Rattle.tacho_state.specs.Runs.{state_after}
use Rattle.tacho_state.proofs.RunLemmas.{run_stopped}
use Rattle.tacho_store.proofs.CrashLemmas.{found_of_two}
use Rattle.tacho_store.proofs.laws.a_crash_is_found_again.Goals as goal

pub returns : goal.returns
returns g c s calls call stood opened run clean answered handed may found =
    let before = state_after calls s in
    let after = call.after before in
    let left = run_stopped _ _ _ calls call c.args.opened.now c.args.last.now run clean answered s (opened.held s stood) (opened.rests s stood) in
    found_of_two _ _ _ _ (state g.S.Store c.args.left.now) (state g.S.Store c.args.found.now) c.args.archive.now after before
    (handed (after ∷ before ∷ []) left) may found

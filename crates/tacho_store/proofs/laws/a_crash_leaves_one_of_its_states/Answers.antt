use Rattle.sqlite.specs.Held.{state}
use Rattle.tacho_store.proofs.CrashLemmas.{found_again}
use Rattle.tacho_store.proofs.laws.a_crash_leaves_one_of_its_states.Goals as goal

pub returns : goal.returns
returns g c = found_again _ _ _ _ (state g.S.Store c.args.left.now) (state g.S.Store c.args.found.now) c.args.archive.now

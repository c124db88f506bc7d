use Rattle.std.proofs.lemmas.Result.{on_ok_weaker}
use Rattle.sqlite.specs.Held.{state}
use Rattle.tacho_tables.proofs.MakingLemmas.{makes}
use Rattle.tacho_tables.proofs.making.make_table.Goals as goal

pub returns-clause-made : goal.returns-clause-made
returns-clause-made g c clean schema table has it =
    let old = state g.S.Store c.args.tx.now.conn.now in
    let new = state g.S.Store c.run.new.tx.conn.now in
    on_ok_weaker c.run.result (λ ran. makes schema table _ old new ran.0 has it ran.1 ran.2) (c.run.ensures.ran clean)

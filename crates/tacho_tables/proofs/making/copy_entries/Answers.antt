use Rattle.std.proofs.lemmas.Result.{on_ok_weaker}
use Rattle.sqlite.specs.Held.{state}
use Rattle.tacho_tables.proofs.CarryLemmas.{copies}
use Rattle.tacho_tables.proofs.making.copy_entries.Goals as goal

pub returns-clause-copied : goal.returns-clause-copied
returns-clause-copied g c clean schema =
    let old = state g.S.Store c.args.tx.now.conn.now in
    let new = state g.S.Store c.run.new.tx.conn.now in
    on_ok_weaker c.run.result (λ ran. copies old new ran.0 schema ran.1) (c.run.ensures.ran clean)

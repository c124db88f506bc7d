use Rattle.std.proofs.Common.{rules, sym, subst, arith}
use Rattle.sqlite.specs.Effect.{Database}
use Rattle.sqlite.specs.Held.{state}
use Rattle.sqlite.specs.State.{HasCleanDisk}
use Rattle.tacho_stretches.specs.Pass.{passing}
use Rattle.tacho_tables.specs.Rows.{AreRowsOf, span_columns}
use Rattle.tacho_tables.specs.Tables.{IsArchive}
use Rattle.tacho_reading.proofs.StretchingLemmas.{took_all}
use Rattle.tacho_reading.proofs.stretching.take_held.Goals as goal

pub returns-clause-took : goal.returns-clause-took
returns-clause-took g c clean schema t stand =
    let mid = state g.S.Store c.in-Ok.rows.conn.now in
    let new = state g.S.Store c.take_rows.new.rows.conn.now in
    let late : HasCleanDisk new = search rules in
    let early : HasCleanDisk mid = omega (arith, c.take_rows.ensures.reads.survives.clean) in
    let same = c.in-Ok.ensures.begun.same early in
    took_all g.S.Store c.args.driver c.args.first c.args.start c.args.past t.held c.in-Ok.rows.conn.now c.take_rows.new.rows.conn.now (passing c.args.pass.now c.args.found.now)
    c.args.near.now.items
    (subst IsArchive (sym same.0.now_is) schema)
    (subst (λ (d : Database). AreRowsOf span_columns (d.trees 10) t.held) (sym same.0.now_is) stand.held)
    (c.in-Ok.ensures.begun.given early) c.take_rows.result (passing c.take_rows.new.pass c.take_rows.new.found) c.take_rows.new.near.items
    (c.take_rows.ensures.took late)

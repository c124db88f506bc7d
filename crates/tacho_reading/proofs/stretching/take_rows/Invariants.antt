use Rattle.std.proofs.Common.{◌≡◌, false}
use Rattle.sqlite.specs.Held.{state}
use Rattle.sqlite.specs.State.{Survives}
use Rattle.tacho_stretches.specs.Pass.{passing}
use Rattle.tacho_reading.proofs.StretchingLemmas.{IsTaking}
use Rattle.tacho_reading.proofs.stretching.take_rows.Given as goal

abbrev pub invariant-rows : goal.invariant-rows
invariant-rows g l =
    let old = l.fn.rows.conn.now in
    let now = l.rows.conn.now in
    (l.rows.conn.ghost_name ≡ l.fn.rows.conn.ghost_name) × Survives (state g.S.Store old) (state g.S.Store now) (λ _. ⊥)
    × (old.in_transaction ≡ false → now.in_transaction ≡ false) × IsTaking g.S.Store old now l.fn.start l.fn.past (passing l.fn.pass l.fn.found) (passing l.pass l.found) l.fn.near.items l.near.items

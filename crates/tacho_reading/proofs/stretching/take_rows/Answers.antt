use Rattle.std.proofs.Common.{◌∙◌, refl, subst, arith}
use Rattle.sqlite.specs.Held.{state}
use Rattle.sqlite.specs.State.{HasCleanDisk, IsUnchanged}
use Rattle.sqlite.proofs.StateLemmas.{survives_then}
use Rattle.tacho_stretches.specs.Pass.{passing}
use Rattle.tacho_tables.specs.Next.{GivesNext}
use Rattle.tacho_reading.proofs.MappedLemmas.{was_ok}
use Rattle.tacho_reading.proofs.StretchingLemmas.{taking_none, taking_more, taking_ended}
use Rattle.tacho_reading.proofs.TakenLemmas.{survives_self}
use Rattle.tacho_reading.proofs.stretching.take_rows.Goals as goal

pub rows-init : goal.rows-init
rows-init g c =
    let old = c.args.rows.now.conn.now in
    (refl, survives_self (state g.S.Store old), λ mode. mode, taking_none g.S.Store old c.args.start c.args.past (passing c.args.pass.now c.args.found.now) c.args.near.now.items)

pub returns-in_default-clause-took : goal.returns-in_default-clause-took
returns-in_default-clause-took g c clean =
    let mid = c.rows.rows.conn.now in
    let now = c.next_span.new.rows.conn.now in
    let given = λ (early : HasCleanDisk (state g.S.Store now)). was_ok c.next_span.result c.in_ok-next.next (λ next. GivesNext g.S.Store mid now next
    × IsUnchanged (state g.S.Store mid) (state g.S.Store now)) c.in_ok-next.ensures.cases (c.next_span.ensures.gives early) in
    taking_ended g.S.Store c.args.rows.now.conn.now mid now c.args.start c.args.past (passing c.args.pass.now c.args.found.now) (passing c.rows.pass c.rows.found)
    c.args.near.now.items c.rows.near.items c.rows.invariant.3
    (λ clean. omega (arith, c.next_span.ensures.asked.survives.clean)) (λ early. (given early).1)
    (subst (GivesNext g.S.Store mid now) c.in_default.is (given clean).0) clean

pub rows-preserved : goal.rows-preserved
rows-preserved g c =
    let old = c.args.rows.now.conn.now in
    let mid = c.rows.rows.conn.now in
    let now = c.next_span.new.rows.conn.now in
    let given = λ (early : HasCleanDisk (state g.S.Store now)). was_ok c.next_span.result c.in_ok-next.next (λ next. GivesNext g.S.Store mid now next
    × IsUnchanged (state g.S.Store mid) (state g.S.Store now)) c.in_ok-next.ensures.cases (c.next_span.ensures.gives early) in
    let was = c.rows.invariant in (
      c.next_span.ensures.same_reference ∙ was.0,
      survives_then (state g.S.Store old) (state g.S.Store mid) (state g.S.Store now) (λ _. ⊥) (λ _. ⊥) (λ _. ⊥)
          (λ _ db none. none) (λ _ db none. none) was.1 c.next_span.ensures.asked.survives,
      λ mode. c.next_span.ensures.asked.mode (was.2 mode),
      taking_more g.S.Store old mid now c.args.start c.args.past (passing c.args.pass.now c.args.found.now) (passing c.rows.pass c.rows.found) c.args.near.now.items c.rows.near.items was.3
          (λ clean. omega (arith, c.next_span.ensures.asked.survives.clean)) (λ early. (given early).1) c.in-Some.row (passing c.take.new.pass c.take.new.found)
          c.keep.new.near.items
          (λ early. subst (GivesNext g.S.Store mid now) c.in-Some.is (given early).0) c.in_ok-take.ensures.took
          c.in_ok-keep.ensures,
    )

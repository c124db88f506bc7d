use Rattle.std.proofs.Common.{rules, ◌∙◌, refl, subst, arith}
use Rattle.sqlite.specs.Held.{state}
use Rattle.sqlite.specs.State.{HasCleanDisk, IsUnchanged}
use Rattle.sqlite.proofs.StateLemmas.{survives_then}
use Rattle.tacho_tables.specs.Next.{GivesNext}
use Rattle.tacho_reading.specs.Taken.{IsStepOf}
use Rattle.tacho_reading.proofs.MappedLemmas.{was_ok}
use Rattle.tacho_reading.proofs.TakenLemmas.{survives_self, feeding_none, feeding_more, feeding_ended, feeding_stopped}
use Rattle.tacho_reading.proofs.TakenLemmas.{left_where_refused}
use Rattle.tacho_reading.proofs.feeding.feed_rows.Goals as goal

pub rows-init : goal.rows-init
rows-init g c =
    let old = c.args.rows.now.conn.now in (
      refl,
      survives_self (state g.S.Store old),
      λ mode. mode,
      feeding_none g.S.Store old c.args.base c.args.scan.now c.args.found.now c.requires.at c.requires.in_range,
    )

pub returns-in_default-clause-fed : goal.returns-in_default-clause-fed
returns-in_default-clause-fed g c clean =
    let mid = c.rows.rows.conn.now in
    let now = c.next_span.new.rows.conn.now in
    let given = λ (early : HasCleanDisk (state g.S.Store now)). was_ok c.next_span.result c.in_ok-next.next (λ next. GivesNext g.S.Store mid now next
    × IsUnchanged (state g.S.Store mid) (state g.S.Store now)) c.in_ok-next.ensures.cases (c.next_span.ensures.gives early) in
    feeding_ended g.S.Store c.args.rows.now.conn.now mid now c.args.base c.rows.minute c.args.scan.now c.args.found.now
    c.rows.scan c.rows.found
    c.rows.invariant.3 (λ clean. omega (arith, c.next_span.ensures.asked.survives.clean))
    (λ early. (given early).1) (subst (GivesNext g.S.Store mid now) c.in_default.is (given clean).0) clean

pub rows-preserved : goal.rows-preserved
rows-preserved g c =
    let old = c.args.rows.now.conn.now in
    let mid = c.rows.rows.conn.now in
    let now = c.next_span.new.rows.conn.now in
    let given = λ (early : HasCleanDisk (state g.S.Store now)). was_ok c.next_span.result c.in_ok-next.next (λ next. GivesNext g.S.Store mid now next
    × IsUnchanged (state g.S.Store mid) (state g.S.Store now)) c.in_ok-next.ensures.cases (c.next_span.ensures.gives early) in
    let was = c.rows.invariant in (
      c.next_span.ensures.same_reference ∙ was.0,
      survives_then (state g.S.Store old) (state g.S.Store mid) (state g.S.Store now) (λ _. ⊥) (λ _. ⊥) (λ _. ⊥)
          (λ _ db none. none) (λ _ db none. none)
          was.1 c.next_span.ensures.asked.survives,
      λ mode. c.next_span.ensures.asked.mode (was.2 mode),
      feeding_more g.S.Store old mid now c.args.base c.rows.minute c.args.scan.now c.args.found.now c.rows.scan
          c.rows.found was.3
          (λ clean. omega (arith, c.next_span.ensures.asked.survives.clean))
          (λ early. (given early).1)
          c.in-Some.row c.in-On.past c.take.new.scan c.take.new.found
          (λ early. subst (GivesNext g.S.Store mid now) c.in-Some.is (given early).0)
          (subst (IsStepOf c.args.base c.rows.minute c.in-Some.row c.rows.scan c.rows.found c.take.new.scan
          c.take.new.found) c.in-On.is c.in_ok-past.ensures.step),
    )

pub returns-in-Stop-clause-fed : goal.returns-in-Stop-clause-fed
returns-in-Stop-clause-fed g c clean =
    let old = c.args.rows.now.conn.now in
    let mid = c.rows.rows.conn.now in
    let now = c.next_span.new.rows.conn.now in
    let given = λ (early : HasCleanDisk (state g.S.Store now)). was_ok c.next_span.result c.in_ok-next.next (λ next. GivesNext g.S.Store mid now next
    × IsUnchanged (state g.S.Store mid) (state g.S.Store now)) c.in_ok-next.ensures.cases (c.next_span.ensures.gives early) in
    let stop =
    subst (IsStepOf c.args.base c.rows.minute c.in-Some.row c.rows.scan c.rows.found c.take.new.scan c.take.new.found)
    c.in-Stop.is c.in_ok-past.ensures.step in
    rw (stop.1, stop.2)
    (feeding_stopped g.S.Store old mid now c.args.base c.rows.minute c.args.scan.now c.args.found.now c.rows.scan
    c.rows.found c.rows.invariant.3 (λ clean. omega (arith, c.next_span.ensures.asked.survives.clean))
    (λ early. (given early).1) c.in-Some.row c.in-Stop.cause
    (subst (GivesNext g.S.Store mid now) c.in-Some.is (given clean).0) stop.0 clean)

pub returns-in_err-past-clause-ends : goal.returns-in_err-past-clause-ends
returns-in_err-past-clause-ends g c =
    let left =
    left_where_refused g.S.Store c.args.rows.now.conn.now c.rows.rows.conn.now c.args.base c.rows.minute
    c.args.scan.now c.args.found.now c.rows.scan c.rows.found c.rows.invariant.3 c.in-Some.row c.take.new.scan
    c.take.new.found c.in_err-past.field-0.0 c.in_err-past.ensures.refused in
    record { at = search rules; left = search rules }

use Rattle.std.proofs.Common.{rules}
use Rattle.tacho_state.specs.State.{State}
use Rattle.tacho_state.specs.State.{driver_of}
use Rattle.tacho_sheet.specs.Months.{incident_head}
use Rattle.tacho_desk.proofs.AllLemmas.{AreIncidentsOf, none_unknown, none_yet, incidents_of, row_more}
use Rattle.tacho_state.proofs.ReadLemmas.{read_first, read_on}
use Rattle.tacho_desk.proofs.all.incidents.Goals as goal

pub loop-driver-init : goal.loop-driver-init
loop-driver-init g c =
    let read = read_first c.drivers.ensures.reads in
    let listed = rw (← c.deref-driver-items.ensures.value) at c.in_ok-drivers.ensures.drivers in
    search (rules, none_yet)

pub returns-in_err-stretches-clause-serves : goal.returns-in_err-stretches-clause-serves
returns-in_err-stretches-clause-serves g c =
    let read = read_on g.K.Keeper.same_then c.loop-driver.invariant.read c.stretches.ensures.reads in
    let there = λ (s : State). none_unknown s c.deref-driver-items.result.now c.loop-driver.driver-index c.driver-item.result in
    search rules

pub returns-in_err-push_incidents-clause-serves : goal.returns-in_err-push_incidents-clause-serves
returns-in_err-push_incidents-clause-serves g c =
    let read = read_on g.K.Keeper.same_then c.loop-driver.invariant.read c.stretches.ensures.reads in
    search rules

pub loop-driver-preserved : goal.loop-driver-preserved
loop-driver-preserved g c =
    let drivers = c.deref-driver-items.result.now in
    let read = read_on g.K.Keeper.same_then c.loop-driver.invariant.read c.stretches.ensures.reads in
    record {
      read = read;
      live = search rules;
      listed = search rules;
      rows = λ clean s st.
          let before = c.stretches.ensures.reads.clean clean in
          let here = c.loop-driver.invariant.read.state before s st in
          row_more incident_head (AreIncidentsOf c.args.month) drivers _ c.driver-item.result _ _ s c.loop-driver-test.true c.driver-item.is
          (c.loop-driver.invariant.rows before s st)
          (incidents_of (driver_of c.driver-item.result.number s) _ _ _ _ c.args.month _ _ c.deref.ensures
          (c.in_ok-stretches.ensures.reads.answer clean s here)
          (c.in_ok-stretches.ensures.stretches clean s here) (rw c.deref-in-loop-driver.ensures.value at c.in_ok-push_incidents.ensures));
    }

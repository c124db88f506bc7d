use Rattle.std.proofs.Common.{rules}
use Rattle.tacho_state.specs.State.{State}
use Rattle.tacho_state.specs.State.{driver_of}
use Rattle.tacho_state.specs.Summaries.{told_summary}
use Rattle.tacho_sheet.specs.Forecast.{forecast_head, IsForecastRow}
use Rattle.tacho_desk.proofs.AllLemmas.{IsForecastOf, none_unknown, none_yet, of_base, row_more, when_some}
use Rattle.tacho_state.proofs.ReadLemmas.{read_first, read_on}
use Rattle.tacho_desk.proofs.all.forecast.Goals as goal

pub loop-driver-init : goal.loop-driver-init
loop-driver-init g c =
    let read = read_first c.drivers.ensures.reads in
    let listed = rw (← c.deref-driver-items.ensures.value) at c.in_ok-drivers.ensures.drivers in
    search (rules, none_yet)

pub returns-in_err-line-clause-serves : goal.returns-in_err-line-clause-serves
returns-in_err-line-clause-serves g c =
    let read = read_on g.K.Keeper.same_then c.loop-driver.invariant.read c.line_and_stretches_from_base.ensures.reads in
    let there = λ (s : State). none_unknown s c.deref-driver-items.result.now c.loop-driver.driver-index c.driver-item.result in
    search rules

pub returns-in_err-row-clause-serves : goal.returns-in_err-row-clause-serves
returns-in_err-row-clause-serves g c =
    let read = read_on g.K.Keeper.same_then c.loop-driver.invariant.read c.line_and_stretches_from_base.ensures.reads in
    search rules

pub loop-driver-preserved : goal.loop-driver-preserved
loop-driver-preserved g c =
    let drivers = c.deref-driver-items.result.now in
    let read = read_on g.K.Keeper.same_then c.loop-driver.invariant.read c.line_and_stretches_from_base.ensures.reads in
    record {
      read = read;
      live = search rules;
      listed = search rules;
      rows = λ clean s st.
          let before = c.line_and_stretches_from_base.ensures.reads.clean clean in
          let here = c.loop-driver.invariant.read.state before s st in
          row_more forecast_head (IsForecastOf c.args.minute) drivers _ c.driver-item.result _ _ s c.loop-driver-test.true c.driver-item.is
          (c.loop-driver.invariant.rows before s st)
          (of_base (λ held base stretches. IsForecastRow (told_summary c.driver-item.result) held base stretches c.args.minute)
          (driver_of c.driver-item.result.number s) c.in_ok-line.line _ _ _
          (c.in_ok-line.ensures.reads.answer clean s here) (c.in_ok-line.ensures.held clean s here)
          (c.in_ok-line.ensures.stretches clean s here)
          (when_some _ c.in_ok-row.row c.in_ok-ok_or.ensures.variant
          (rw c.deref.ensures.value at c.in_ok-row.ensures.row)));
    }

use Rattle.std.proofs.Common.{List, sym, subst}
use Rattle.std.specs.List.{All}
use Rattle.tacho_law.specs.declared.run.Run.{Run}
use Rattle.tacho_law.specs.declared.days.DutyDay.{DutyDay}
use Rattle.tacho_law.specs.Line.{line_of, Line}
use Rattle.tacho_law.specs.Runs.{AreRestRuns}
use Rattle.tacho_periods.specs.DutyDays.{AreDutyDays}
use Rattle.tacho_law.proofs.RunsLemmas.{rest_runs_are}
use Rattle.tacho_plain.specs.DayBreaches.{IsInTime}
use Rattle.tacho_plain.proofs.DayBreachesLemmas.{days_join, days_exactly, times_all}
use Rattle.tacho_plain.proofs.day_breaches.days.Goals as goal

pub duty_days-requires : goal.duty_days-requires
duty_days-requires c =
    rw c.deref.ensures.value (rest_runs_are (line_of c.args.spans.now) c.in_ok-runs.runs.items c.in_ok-runs.ensures)

pub of_rests-requires-clause-runs : goal.of_rests-requires-clause-runs
of_rests-requires-clause-runs c =
    rw c.deref-2.ensures.value (rest_runs_are (line_of c.args.spans.now) c.in_ok-runs.runs.items c.in_ok-runs.ensures)

pub of_rests-requires-clause-in_time : goal.of_rests-requires-clause-in_time
of_rests-requires-clause-in_time c =
    let line : Line = line_of c.args.spans.now in
    let all : AreRestRuns line c.deref.result.now =
    subst (λ (runs : List Run). AreRestRuns line runs) (sym c.deref.ensures.value) c.in_ok-runs.ensures in
    subst (λ (days : List DutyDay). All (λ (x : DutyDay). IsInTime x) days) (sym c.deref-3.ensures.value)
    (times_all c.args.spans.now c.args.base c.args.past c.requires
    c.in_ok-days.days.items (c.in_ok-days.ensures line all))

pub of_rests-requires-clause-line : goal.of_rests-requires-clause-line
of_rests-requires-clause-line c =
    let line : Line = line_of c.args.spans.now in
    let all : AreRestRuns line c.deref.result.now =
    subst (λ (runs : List Run). AreRestRuns line runs) (sym c.deref.ensures.value) c.in_ok-runs.ensures in (
      line,
      subst (λ (runs : List Run). AreRestRuns line runs) (sym c.deref-2.ensures.value) c.in_ok-runs.ensures,
      subst (λ (days : List DutyDay). AreDutyDays line days)
          (sym c.deref-3.ensures.value) (c.in_ok-days.ensures line all),
    )

pub of_driving-requires-clause-in_time : goal.of_driving-requires-clause-in_time
of_driving-requires-clause-in_time c =
    let line : Line = line_of c.args.spans.now in
    let all : AreRestRuns line c.deref.result.now =
    subst (λ (runs : List Run). AreRestRuns line runs) (sym c.deref.ensures.value) c.in_ok-runs.ensures in
    subst (λ (days : List DutyDay). All (λ (x : DutyDay). IsInTime x) days) (sym c.deref-4.ensures.value)
    (times_all c.args.spans.now c.args.base c.args.past c.requires
    c.in_ok-days.days.items (c.in_ok-days.ensures line all))

pub of_driving-requires-clause-are : goal.of_driving-requires-clause-are
of_driving-requires-clause-are c =
    let line : Line = line_of c.args.spans.now in
    let all : AreRestRuns line c.deref.result.now =
    subst (λ (runs : List Run). AreRestRuns line runs) (sym c.deref.ensures.value) c.in_ok-runs.ensures in
    subst (λ (days : List DutyDay). AreDutyDays line days) (sym c.deref-4.ensures.value) (c.in_ok-days.ensures line all)

pub returns : goal.returns
returns c =
    let line : Line = line_of c.args.spans.now in
    let all : AreRestRuns line c.deref.result.now =
    subst (λ (runs : List Run). AreRestRuns line runs) (sym c.deref.ensures.value) c.in_ok-runs.ensures in
    let all' : AreRestRuns line c.deref-2.result.now =
    subst (λ (runs : List Run). AreRestRuns line runs) (sym c.deref-2.ensures.value) c.in_ok-runs.ensures in
    let are : AreDutyDays line c.deref-3.result.now =
    subst (λ (days : List DutyDay). AreDutyDays line days)
    (sym c.deref-3.ensures.value) (c.in_ok-days.ensures line all) in
    let both = days_join line c.in_ok-found.found.items c.in_ok-more.more.items
    (c.in_ok-found.ensures line all' are) c.in_ok-more.ensures in
    days_exactly line c.append.new.self.items c.put_in_order.new.found.items
    (rw c.in_ok-append.ensures.items both) c.put_in_order.ensures.same
    (c.put_in_order.ensures.order (rw c.in_ok-append.ensures.items both.in_order))

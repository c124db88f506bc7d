use Rattle.std.proofs.Common.{◌≡◌, ℕ, ◌-◌, ◌<◌, ◌++◌, length, get_or, sym, ap, subst, ◌∙◌, arith}
use Rattle.tacho_law.specs.declared.run.Run.{Run}
use Rattle.tacho_law.specs.Line.{line_of, Line}
use Rattle.tacho_law.specs.Runs.{AreRestRuns, AreRestsOf}
use Rattle.tacho_law.specs.Debts.{AreDebts}
use Rattle.tacho_law.proofs.RunsLemmas.{joined_le, rest_runs_are}
use Rattle.tacho_law.specs.SoFar.{AreCollected}
use Rattle.tacho_plain.specs.RestBreaches.{IsLastRun}
use Rattle.tacho_law.specs.Breaches.{IsLate, IsLacking, IsOverdue}
use Rattle.tacho_plain.proofs.LastRunLemmas.{some_run, last_is_last, in_weeks, rests_in_time}
use Rattle.tacho_plain.proofs.RestBreachesLemmas.{IsRestKind, weekly_join, rests_join, due_as, rests_exactly}
use Rattle.tacho_plain.proofs.rest_breaches.rests.Goals as goal

pub long_rests-requires : goal.long_rests-requires
long_rests-requires c =
    rw c.deref.ensures.value (rest_runs_are (line_of c.args.spans.now) c.in_ok-runs.runs.items c.in_ok-runs.ensures)

pub long_rests-requires-2 : goal.long_rests-requires-2
long_rests-requires-2 c =
    rw c.deref-2.ensures.value (rest_runs_are (line_of c.args.spans.now) c.in_ok-runs.runs.items c.in_ok-runs.ensures)

pub overflow_sub-len : goal.overflow_sub-len
overflow_sub-len c =
    let some : 0 < length c.in_ok-runs.runs.items =
    some_run c.args.spans.now c.args.base c.args.past c.requires c.in_ok-runs.runs.items c.in_ok-runs.ensures in
    omega arith

pub index-last-requires : goal.index-last-requires
index-last-requires c =
    let some : 0 < length c.in_ok-runs.runs.items =
    some_run c.args.spans.now c.args.base c.args.past c.requires c.in_ok-runs.runs.items c.in_ok-runs.ensures in
    omega arith

pub debts_of-requires-clause-daily : goal.debts_of-requires-clause-daily
debts_of-requires-clause-daily c =
    let line : Line = line_of c.args.spans.now in
    let all : AreRestRuns line c.in_ok-runs.runs.items = c.in_ok-runs.ensures in
    let daily : AreRestsOf line 540 c.in_ok-daily.daily.items =
    c.in_ok-daily.ensures line (rw c.deref.ensures.value all) in
    rw c.deref-3.ensures.value
    (rests_in_time c.args.spans.now c.args.base c.args.past c.requires 540 c.in_ok-daily.daily.items daily)

pub debts_of-requires-clause-weekly : goal.debts_of-requires-clause-weekly
debts_of-requires-clause-weekly c =
    let line : Line = line_of c.args.spans.now in
    let all : AreRestRuns line c.in_ok-runs.runs.items = c.in_ok-runs.ensures in
    let weekly : AreRestsOf line 1440 c.in_ok-weekly.weekly.items =
    c.in_ok-weekly.ensures line (rw c.deref-2.ensures.value all) in
    rw c.deref-4.ensures.value
    (rests_in_time c.args.spans.now c.args.base c.args.past c.requires 1440 c.in_ok-weekly.weekly.items weekly)

pub debts_of-requires-clause-last : goal.debts_of-requires-clause-last
debts_of-requires-clause-last c =
    let line : Line = line_of c.args.spans.now in
    let all : AreRestRuns line c.in_ok-runs.runs.items = c.in_ok-runs.ensures in
    let d : Run = c.index-last.result.now in
    let place : c.len.result - 1 ≡ length c.in_ok-runs.runs.items - 1 = omega arith in
    let at : d ≡ get_or c.in_ok-runs.runs.items (length c.in_ok-runs.runs.items - 1) d =
    c.index-last.ensures ∙ ap (λ (i : ℕ). get_or c.in_ok-runs.runs.items i d) place in
    let last : IsLastRun line d =
    subst (λ (z : Run). IsLastRun line z) (sym at)
    (last_is_last c.args.spans.now c.args.base c.args.past c.requires c.in_ok-runs.runs.items all d) in
    last.early

pub debts_of-requires-clause-line : goal.debts_of-requires-clause-line
debts_of-requires-clause-line c =
    let line : Line = line_of c.args.spans.now in
    let all : AreRestRuns line c.in_ok-runs.runs.items = c.in_ok-runs.ensures in
    let weekly : AreRestsOf line 1440 c.in_ok-weekly.weekly.items =
    c.in_ok-weekly.ensures line (rw c.deref-2.ensures.value all) in
    let d : Run = c.index-last.result.now in
    let place : c.len.result - 1 ≡ length c.in_ok-runs.runs.items - 1 = omega arith in
    let at : d ≡ get_or c.in_ok-runs.runs.items (length c.in_ok-runs.runs.items - 1) d =
    c.index-last.ensures ∙ ap (λ (i : ℕ). get_or c.in_ok-runs.runs.items i d) place in
    let last : IsLastRun line d =
    subst (λ (z : Run). IsLastRun line z) (sym at)
    (last_is_last c.args.spans.now c.args.base c.args.past c.requires c.in_ok-runs.runs.items all d) in
    (line, rw c.deref-4.ensures.value weekly, last)

pub late_rests-requires : goal.late_rests-requires
late_rests-requires c =
    let line : Line = line_of c.args.spans.now in
    let all : AreRestRuns line c.in_ok-runs.runs.items = c.in_ok-runs.ensures in
    let weekly : AreRestsOf line 1440 c.in_ok-weekly.weekly.items =
    c.in_ok-weekly.ensures line (rw c.deref-2.ensures.value all) in
    rw c.deref-5.ensures.value
    (rests_in_time c.args.spans.now c.args.base c.args.past c.requires 1440 c.in_ok-weekly.weekly.items weekly)

pub lacking_weeks-requires-clause-in_time : goal.lacking_weeks-requires-clause-in_time
lacking_weeks-requires-clause-in_time c =
    let line : Line = line_of c.args.spans.now in
    let all : AreRestRuns line c.in_ok-runs.runs.items = c.in_ok-runs.ensures in
    let weekly : AreRestsOf line 1440 c.in_ok-weekly.weekly.items =
    c.in_ok-weekly.ensures line (rw c.deref-2.ensures.value all) in
    rw c.deref-6.ensures.value
    (rests_in_time c.args.spans.now c.args.base c.args.past c.requires 1440 c.in_ok-weekly.weekly.items weekly)

pub lacking_weeks-requires-clause-range : goal.lacking_weeks-requires-clause-range
lacking_weeks-requires-clause-range c =
    joined_le c.args.spans.now c.args.base c.args.past c.requires.joined

pub returns : goal.returns
returns c =
    let line : Line = line_of c.args.spans.now in
    let all : AreRestRuns line c.in_ok-runs.runs.items = c.in_ok-runs.ensures in
    let daily : AreRestsOf line 540 c.in_ok-daily.daily.items =
    c.in_ok-daily.ensures line (rw c.deref.ensures.value all) in
    let weekly : AreRestsOf line 1440 c.in_ok-weekly.weekly.items =
    c.in_ok-weekly.ensures line (rw c.deref-2.ensures.value all) in
    let d : Run = c.index-last.result.now in
    let place : c.len.result - 1 ≡ length c.in_ok-runs.runs.items - 1 = omega arith in
    let at : d ≡ get_or c.in_ok-runs.runs.items (length c.in_ok-runs.runs.items - 1) d =
    c.index-last.ensures ∙ ap (λ (i : ℕ). get_or c.in_ok-runs.runs.items i d) place in
    let last : IsLastRun line d =
    subst (λ (z : Run). IsLastRun line z) (sym at)
    (last_is_last c.args.spans.now c.args.base c.args.past c.requires c.in_ok-runs.runs.items all d) in
    let owed : AreDebts line c.number.result c.in_ok-debts.debts.items =
    c.in_ok-debts.ensures line (rw c.deref-3.ensures.value daily) (rw c.deref-4.ensures.value weekly) last in
    let debts : AreDebts line c.args.past c.in_ok-debts.debts.items = rw c.number.ensures.value at owed in
    let late : AreCollected (IsLate line) c.in_ok-breaches.breaches.items =
    c.in_ok-breaches.ensures line (rw c.deref-5.ensures.value weekly) in
    let lacking : AreCollected (IsLacking line c.args.base c.args.past) c.in_ok-lacking.lacking.items =
    c.in_ok-lacking.ensures line (rw c.deref-6.ensures.value weekly)
    (in_weeks c.args.spans.now c.args.base c.args.past c.requires c.in_ok-runs.runs.items all) in
    let due : AreCollected (IsOverdue c.args.past c.in_ok-debts.debts.items) c.in_ok-unpaid.unpaid.items =
    due_as line c.args.past c.number-2.result c.in_ok-debts.debts.items c.deref-7.result.now
    c.in_ok-unpaid.unpaid.items c.number-2.ensures.value c.deref-7.ensures.value debts c.in_ok-unpaid.ensures in
    let three : AreCollected (IsRestKind line c.args.base c.args.past c.in_ok-debts.debts.items)
    ((c.in_ok-breaches.breaches.items ++ c.in_ok-lacking.lacking.items) ++ c.in_ok-unpaid.unpaid.items) =
    rests_join line c.args.base c.args.past c.in_ok-debts.debts.items
    (c.in_ok-breaches.breaches.items ++ c.in_ok-lacking.lacking.items) c.in_ok-unpaid.unpaid.items
    (weekly_join line c.args.base c.args.past c.in_ok-breaches.breaches.items
    c.in_ok-lacking.lacking.items late lacking)
    due in
    record {
      are_debts = debts;
      exactly =
          rests_exactly line c.args.base c.args.past c.in_ok-debts.debts.items c.append-2.new.self.items
          c.put_in_order.new.found.items (rw (c.in_ok-append-2.ensures.items, c.in_ok-append.ensures.items) three)
          c.put_in_order.ensures.same
          (c.put_in_order.ensures.order
          (rw (c.in_ok-append-2.ensures.items, c.in_ok-append.ensures.items) three.in_order));
    }

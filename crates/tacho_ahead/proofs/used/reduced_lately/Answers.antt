use Rattle.std.proofs.Common.{◌≤◌}
use Rattle.std.specs.List.{Contains}
use Rattle.tacho_law.specs.declared.run.Run.{Run}
use Rattle.tacho_law.specs.Runs.{AreRestsOf}
use Rattle.tacho_law.proofs.RunsLemmas.{rest_runs_are}
use Rattle.tacho_periods.proofs.RunsLemmas.{rests_are}
use Rattle.tacho_ahead.proofs.TodayLemmas.{reduced_lately, weekly_ended}
use Rattle.tacho_ahead.proofs.used.reduced_lately.Goals as goal

pub long_rests-requires : goal.long_rests-requires
long_rests-requires c = let (line, are) = c.requires.line in rest_runs_are line c.args.runs.now are

pub long_rests-requires-2 : goal.long_rests-requires-2
long_rests-requires-2 c = let (line, are) = c.requires.line in rest_runs_are line c.args.runs.now are

pub last_ended-requires-clause-runs : goal.last_ended-requires-clause-runs
last_ended-requires-clause-runs c =
    let (line, are) = c.requires.line in
    rw c.deref-2.ensures.value (rests_are line 1440 c.in_ok-weekly.weekly.items (c.in_ok-weekly.ensures line are))

pub last_ended-requires-clause-some : goal.last_ended-requires-clause-some
last_ended-requires-clause-some c =
    let (line, are) = c.requires.line in
    rw c.deref-2.ensures.value
    (weekly_ended line c.args.runs.now c.in_ok-weekly.weekly.items c.args.minute are (c.in_ok-weekly.ensures line are)
    c.requires.some)

pub reduced_since-requires-clause-parts : goal.reduced_since-requires-clause-parts
reduced_since-requires-clause-parts c =
    let (line, are) = c.requires.line in
    rw c.deref.ensures.value (rests_are line 180 c.in_ok-parts.parts.items (c.in_ok-parts.ensures line are))

pub returns : goal.returns
returns c line are days =
    let weekly : AreRestsOf line 1440 c.in_ok-weekly.weekly.items = c.in_ok-weekly.ensures line are in
    let among : Contains c.in_ok-weekly.weekly.items c.last_ended.result = rw c.deref-2.ensures.value at c.last_ended.ensures.among in
    let last : (run : Run) → Contains c.in_ok-weekly.weekly.items run → run.past ≤ c.args.minute → run.start ≤ c.last_ended.result.start =
    rw c.deref-2.ensures.value at c.last_ended.ensures.last in
    let parts : AreRestsOf line 180 c.deref.result.now = rw c.deref.ensures.value (c.in_ok-parts.ensures line are) in
    reduced_lately line c.in_ok-weekly.weekly.items c.args.minute c.last_ended.result c.reduced_since.result weekly among
    c.last_ended.ensures.ended last (c.reduced_since.ensures line days parts)

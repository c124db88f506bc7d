use Rattle.std.proofs.Common.{◌-◌, ◌<◌, ℕ, List, get_or, arith}
use Rattle.tacho_law.specs.declared.run.Run.{Run}
use Rattle.tacho_law.specs.Line.{Line, line_of}
use Rattle.tacho_law.specs.Exactly.{AreExactly}
use Rattle.tacho_law.specs.Runs.{AreRuns, Before}
use Rattle.tacho_law.proofs.RunsLemmas.{rest_runs_are}
use Rattle.tacho_periods.proofs.BreaksLemmas.{breaks_are}
use Rattle.tacho_periods.proofs.RunsLemmas.{no_run}
use Rattle.tacho_evidence.specs.declared.line.EvidenceLine.{EvidenceLine}
use Rattle.tacho_evidence.specs.Driven.{AreDriven}
use Rattle.tacho_evidence.specs.Evidence.{AreByTime, IsRestBetween}
use Rattle.tacho_evidence.proofs.BreakLinesLemmas.{Around, around_breach, break_is, drives_rise}
use Rattle.tacho_evidence.proofs.BreakLemmas.{between_of}
use Rattle.tacho_evidence.proofs.DebtLinesLemmas.{runs_in_time}
use Rattle.tacho_evidence.proofs.NearLemmas.{runs_near_are}
use Rattle.tacho_evidence.proofs.breaks.break_lines.Goals as goal

pub begun_by-next-requires : goal.begun_by-next-requires
begun_by-next-requires c =
    breaks_are c.args.runs.now c.args.breaks.now (rest_runs_are (line_of c.args.examined.now.spans.now) c.args.runs.now c.requires.runs)
    c.requires.breaks

pub bounds-breaks-next-2 : goal.bounds-breaks-next-2
bounds-breaks-next-2 c =
    let line : Line = line_of c.args.examined.now.spans.now in
    let o : AreRuns c.args.breaks.now =
    breaks_are c.args.runs.now c.args.breaks.now (rest_runs_are line c.args.runs.now c.requires.runs) c.requires.breaks in
    (around_breach line c.args.runs.now c.args.breaks.now c.args.breach.now c.begun_by-next.result c.number.result c.requires.breach o
    c.number.ensures.value c.begun_by-next.ensures.within c.begun_by-next.ensures.begun c.begun_by-next.ensures.later).within

pub touching-near-requires-clause-in_time : goal.touching-near-requires-clause-in_time
touching-near-requires-clause-in_time c =
    runs_in_time c.args.examined.now.spans.now c.args.examined.now.base c.args.examined.now.past c.requires.examined
    c.args.runs.now c.requires.runs

pub touching-near-requires-clause-range : goal.touching-near-requires-clause-range
touching-near-requires-clause-range c =
    let line : Line = line_of c.args.examined.now.spans.now in
    let n : ℕ = c.begun_by-next.result in
    let o : AreRuns c.args.breaks.now =
    breaks_are c.args.runs.now c.args.breaks.now (rest_runs_are line c.args.runs.now c.requires.runs) c.requires.breaks in
    let a : Around c.args.breaks.now n c.requires.breach.earlier c.requires.breach.later =
    around_breach line c.args.runs.now c.args.breaks.now c.args.breach.now n c.number.result c.requires.breach o
    c.number.ensures.value c.begun_by-next.ensures.within c.begun_by-next.ensures.begun c.begun_by-next.ensures.later in
    let some : 0 < n = a.some in
    let before : (get_or c.args.breaks.now (n - 1) no_run).past < (get_or c.args.breaks.now n no_run).start =
    o.in_order (n - 1) n no_run (omega (arith, some)) a.within in
    omega (arith, before)

pub rests_between-requires : goal.rests_between-requires
rests_between-requires c =
    runs_near_are c.args.runs.now c.touching-near.result.now
    (rest_runs_are (line_of c.args.examined.now.spans.now) c.args.runs.now c.requires.runs)
    (λ run h. ((c.touching-near.ensures.each run).0 h).0) c.touching-near.ensures.in_order

pub append_by_time-requires-clause-drives : goal.append_by_time-requires-clause-drives
append_by_time-requires-clause-drives c =
    rw c.deref.ensures.value
    (drives_rise (line_of c.args.examined.now.spans.now) _ _ c.in_ok-drives.drives.items c.in_ok-drives.ensures)

pub append_by_time-requires-clause-rests : goal.append_by_time-requires-clause-rests
append_by_time-requires-clause-rests c =
    let near : List Run = c.touching-near.result.now in
    let are : AreRuns near =
    runs_near_are c.args.runs.now near (rest_runs_are (line_of c.args.examined.now.spans.now) c.args.runs.now c.requires.runs)
    (λ run h. ((c.touching-near.ensures.each run).0 h).0) c.touching-near.ensures.in_order in
    rw c.deref-2.ensures.value
    (runs_near_are near c.in_ok-rests.rests.items are (λ run h. ((c.in_ok-rests.ensures.each run).0 h).0)
    c.in_ok-rests.ensures.in_order)

pub returns : goal.returns
returns c =
    let line : Line = line_of c.args.examined.now.spans.now in
    let breaks : List Run = c.args.breaks.now in
    let n : ℕ = c.begun_by-next.result in
    let o : AreRuns breaks =
    breaks_are c.args.runs.now c.args.breaks.now (rest_runs_are line c.args.runs.now c.requires.runs) c.requires.breaks in
    let a : Around breaks n c.requires.breach.earlier c.requires.breach.later =
    around_breach line c.args.runs.now breaks c.args.breach.now n c.number.result c.requires.breach o
    c.number.ensures.value c.begun_by-next.ensures.within c.begun_by-next.ensures.begun c.begun_by-next.ensures.later in
    let driven : AreDriven line (get_or breaks (n - 1) no_run).past (get_or breaks n no_run).start c.in_ok-drives.drives.items =
    c.in_ok-drives.ensures in
    let rested : AreExactly (IsRestBetween line (get_or breaks (n - 1) no_run) (get_or breaks n no_run)) Before c.in_ok-rests.rests.items =
    between_of line c.args.runs.now c.touching-near.result.now c.in_ok-rests.rests.items (get_or breaks (n - 1) no_run)
    (get_or breaks n no_run) c.requires.runs c.touching-near.ensures.each c.in_ok-rests.ensures in
    let m : List EvidenceLine = c.in_ok-append_by_time.ensures.0 in
    let by_time : AreByTime c.in_ok-drives.drives.items c.in_ok-rests.rests.items m =
    rw (c.deref.ensures.value, c.deref-2.ensures.value) at c.in_ok-append_by_time.ensures.1 in
    break_is line breaks c.args.breach.now c.requires.breach c.in_ok-drives.drives.items c.in_ok-rests.rests.items m
    c.push-2.new.self.items (rw (a.first, a.second) at driven) (rw (a.first, a.second) at rested) by_time
    (rw (c.in_ok-push-2.ensures.items, c.in_ok-append_by_time.ensures.2, c.in_ok-push.ensures.items, c.new-lines.ensures.items, a.first, a.second))

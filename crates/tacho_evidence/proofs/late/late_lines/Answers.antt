use Rattle.std.proofs.Common.{◌+◌, ℕ, List, get_or, arith}
use Rattle.tacho_law.specs.declared.run.Run.{Run}
use Rattle.tacho_law.specs.Line.{line_of, Line}
use Rattle.tacho_periods.proofs.RunsLemmas.{no_run, rests_are}
use Rattle.tacho_evidence.proofs.LateLinesLemmas.{late_at, late_evidence_of}
use Rattle.tacho_evidence.proofs.late.late_lines.Goals as goal

pub ended_before-earlier-requires : goal.ended_before-earlier-requires
ended_before-earlier-requires c = rests_are (line_of c.args.examined.now.spans.now) 1440 c.args.weekly.now c.requires.weekly

pub bounds-weekly-earlier : goal.bounds-weekly-earlier
bounds-weekly-earlier c =
    let at = late_at (line_of c.args.examined.now.spans.now) c.args.weekly.now c.requires.weekly
    c.ended_before-earlier.result c.number.result c.ended_before-earlier.ensures.ended c.ended_before-earlier.ensures.later
    c.ended_before-earlier.ensures.within c.args.breach.now c.requires.breach c.number.ensures.value in
    omega (arith, at.0)

pub bounds-weekly-earlier-2 : goal.bounds-weekly-earlier-2
bounds-weekly-earlier-2 c =
    (late_at (line_of c.args.examined.now.spans.now) c.args.weekly.now c.requires.weekly
    c.ended_before-earlier.result c.number.result c.ended_before-earlier.ensures.ended c.ended_before-earlier.ensures.later
    c.ended_before-earlier.ensures.within c.args.breach.now c.requires.breach c.number.ensures.value).0

pub returns : goal.returns
returns c =
    let line : Line = line_of c.args.examined.now.spans.now in
    let weekly : List Run = c.args.weekly.now in
    let n : ℕ = c.ended_before-earlier.result in
    let (within, first, second) = late_at line weekly c.requires.weekly n c.number.result c.ended_before-earlier.ensures.ended
    c.ended_before-earlier.ensures.later c.ended_before-earlier.ensures.within c.args.breach.now c.requires.breach
    c.number.ensures.value in
    rw (c.in_ok-push-2.ensures.items, c.in_ok-push.ensures.items, c.new-lines.ensures.items)
    (late_evidence_of line c.args.breach.now c.requires.breach (get_or weekly n no_run) (get_or weekly (n + 1) no_run) first second)

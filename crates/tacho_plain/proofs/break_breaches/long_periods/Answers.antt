use Rattle.std.proofs.Common.{◌≤◌, ℕ, ◌-◌, List, get_or}
use Rattle.tacho_time.specs.declared.span.Activity.{Activity}
use Rattle.tacho_law.specs.declared.run.Run.{Run}
use Rattle.tacho_law.specs.Line.{line_of}
use Rattle.tacho_law.specs.Driving.{driving}
use Rattle.tacho_periods.proofs.RunsLemmas.{no_run}
use Rattle.tacho_plain.proofs.BreakBreachesLemmas.{found_none, found_add, found_skip, found_all}
use Rattle.tacho_plain.proofs.break_breaches.long_periods.Goals as goal
use Rattle.tacho_plain.proofs.break_breaches.long_periods.Goals.{in-Some+in_ok-push, in_default}

pub loop-i-init : goal.loop-i-init
loop-i-init c = rw c.new-found.ensures.items (found_none (line_of c.args.examined.now.spans.now) c.args.breaks.now)

pub loop-i-preserved : goal.loop-i-preserved
loop-i-preserved c =
    let line : ℕ → Activity = line_of c.args.examined.now.spans.now in
    let breaks : List Run = c.args.breaks.now in
    let i : ℕ = c.loop-i.i in
    elim c.match-breach_between.branch [
      | in-Some+in_ok-push w ↦
          rw (w.found-is, w.in_ok-push.ensures.items)
          (found_add line breaks c.requires.breaks i c.loop-i.found.items c.loop-i.invariant
          c.loop-i.auto.i c.loop-i-test.true w.in-Some.breach w.in-Some.ensures)
      | in_default w ↦
          let few : driving line (get_or breaks (i - 1) no_run).past (get_or breaks i no_run).start ≤ 270 =
          w.in_default.ensures in
          rw w.found-is
          (found_skip line breaks c.requires.breaks i c.loop-i.found.items
          c.loop-i.invariant c.loop-i.auto.i c.loop-i-test.true few)
    ]

pub returns : goal.returns
returns c =
    found_all (line_of c.args.examined.now.spans.now) c.args.breaks.now c.requires.breaks
    c.loop-i.i c.loop-i.found.items c.loop-i.invariant c.loop-i-test.false

use Rattle.std.proofs.Common.{◌≡◌, ◌≤◌, ℕ, ◌⊎◌, Bool, true, List, get_or, take, arith, subst}
use Rattle.std.specs.Prelude.{◌↔◌, IsTrue}
use Rattle.std.proofs.lemmas.List.{take_all}
use Rattle.tacho_law.specs.declared.run.Run.{Run}
use Rattle.tacho_law.specs.Runs.{minutes_of}
use Rattle.tacho_law.specs.Breaks.{AreCompleteBreaks}
use Rattle.tacho_law.proofs.BreaksLemmas.{breaking_none}
use Rattle.tacho_periods.proofs.BreaksLemmas.{add_here, short_here, stay_here}
use Rattle.tacho_periods.proofs.break_runs.complete_breaks.Goals as goal
use Rattle.tacho_periods.proofs.break_runs.complete_breaks.Goals.{then-completes+in_ok-push}
use Rattle.tacho_periods.proofs.break_runs.complete_breaks.Goals.{else-completes+then-minutes-ge-FIRST_PART_OF_BREAK}
use Rattle.tacho_periods.proofs.break_runs.complete_breaks.Goals.{else-completes+else-minutes-ge-FIRST_PART_OF_BREAK}

pub loop-run-init : goal.loop-run-init
loop-run-init c = rw c.new-breaks.ensures.items breaking_none

pub loop-run-preserved : goal.loop-run-preserved
loop-run-preserved c =
    let xs : List Run = c.args.runs.now in
    let i : ℕ = c.loop-run.run-index in
    let none : Run = record { start = 0; past = 0 } in
    let run : Run = get_or xs i none in
    let breaks : List Run = c.loop-run.breaks.items in
    let short : Bool = c.loop-run.has_first_part in
    let test : IsTrue c.completes.result ↔ ((45 ≤ minutes_of run) ⊎ ((30 ≤ minutes_of run) × IsTrue short)) =
    c.completes.ensures in
    elim c.if-completes.branch [
      | then-completes+in_ok-push w ↦
          rw (w.breaks-is, w.has_first_part-is, w.in_ok-push.ensures.items)
          (add_here xs i none c.loop-run-test.true c.requires.in_order c.requires.some
          breaks short c.loop-run.invariant (test.0 w.if-completes.true))
      | else-completes+then-minutes-ge-FIRST_PART_OF_BREAK w ↦
          rw (w.breaks-is, w.has_first_part-is)
          (short_here xs i none c.loop-run-test.true c.requires.in_order c.requires.some breaks
          short c.loop-run.invariant (λ h. let e : c.completes.result ≡ true = test.1 h in cc)
          w.if-minutes-ge-FIRST_PART_OF_BREAK.true)
      | else-completes+else-minutes-ge-FIRST_PART_OF_BREAK w ↦
          rw (w.breaks-is, w.has_first_part-is)
          (stay_here xs i none c.loop-run-test.true c.requires.in_order c.requires.some breaks short
          c.loop-run.invariant (λ h. let e : c.completes.result ≡ true = test.1 h in cc) (omega arith))
    ]

pub returns : goal.returns
returns c =
    let e : take c.loop-run.run-index c.args.runs.now ≡ c.args.runs.now =
    take_all c.loop-run.run-index c.args.runs.now c.loop-run-test.false in
    subst (λ (xs : List Run). AreCompleteBreaks xs c.loop-run.breaks.items) e c.loop-run.invariant.whole

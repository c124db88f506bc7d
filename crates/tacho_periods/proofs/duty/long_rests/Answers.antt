use Rattle.std.proofs.Common.{◌≡◌, ◌≤◌, ℕ, List, take, arith, subst}
use Rattle.std.proofs.lemmas.List.{take_all}
use Rattle.tacho_law.specs.declared.run.Run.{Run}
use Rattle.tacho_law.specs.Runs.{Before, minutes_of}
use Rattle.tacho_periods.proofs.KeptLemmas.{AreKept, kept_none, kept_add_at, kept_skip_at}
use Rattle.tacho_periods.proofs.RunsLemmas.{no_run}
use Rattle.tacho_periods.proofs.DaysLemmas.{rests_of}
use Rattle.tacho_periods.proofs.duty.long_rests.Goals as goal
use Rattle.tacho_periods.proofs.duty.long_rests.Goals.{then-run-least+in_ok-push, else-run-least}

pub loop-run-init : goal.loop-run-init
loop-run-init c = rw c.new-rests.ensures.items (kept_none Run Before (λ run. c.args.least ≤ minutes_of run))

pub loop-run-preserved : goal.loop-run-preserved
loop-run-preserved c =
    let xs : List Run = c.args.runs.now in
    let i : ℕ = c.loop-run.run-index in
    elim c.if-run-least.branch [
      | then-run-least+in_ok-push w ↦
          rw (w.rests-is, w.in_ok-push.ensures.items)
          (kept_add_at Run Before (λ run. c.args.least ≤ minutes_of run) xs i no_run c.loop-run-test.true
          c.requires.in_order c.loop-run.rests.items c.loop-run.invariant w.if-run-least.true)
      | else-run-least w ↦
          rw w.rests-is
          (kept_skip_at Run Before (λ run. c.args.least ≤ minutes_of run) xs i no_run c.loop-run-test.true
          c.requires.in_order c.loop-run.rests.items c.loop-run.invariant (λ h. omega arith))
    ]

pub returns : goal.returns
returns c =
    let e : take c.loop-run.run-index c.args.runs.now ≡ c.args.runs.now =
    take_all c.loop-run.run-index c.args.runs.now c.loop-run-test.false in
    λ line are. rests_of line c.args.runs.now c.loop-run.rests.items c.args.least are
    (subst (λ (seen : List Run). AreKept Run Before (λ run. c.args.least ≤ minutes_of run) seen c.loop-run.rests.items)
    e c.loop-run.invariant)

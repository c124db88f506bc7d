use Rattle.std.proofs.Common.{◌≡◌, ℕ, List, true, take, subst}
use Rattle.std.proofs.lemmas.List.{take_all}
use Rattle.tacho_law.specs.declared.run.Run.{Run}
use Rattle.tacho_law.specs.Runs.{Before}
use Rattle.tacho_periods.proofs.KeptLemmas.{AreKept, kept_none, kept_add_at, kept_skip_at}
use Rattle.tacho_periods.proofs.RunsLemmas.{no_run}
use Rattle.tacho_evidence.proofs.BreakLemmas.{Between}
use Rattle.tacho_evidence.proofs.breaks.rests_between.Goals as goal
use Rattle.tacho_evidence.proofs.breaks.rests_between.Goals.{then-is_between+in_ok-push, else-is_between}

pub loop-run-init : goal.loop-run-init
loop-run-init c = rw c.new-rests.ensures.items (kept_none Run Before (Between c.args.earlier c.args.later))

pub loop-run-preserved : goal.loop-run-preserved
loop-run-preserved c =
    let xs : List Run = c.args.runs.now in
    let i : ℕ = c.loop-run.run-index in
    elim c.if-is_between.branch [
      | then-is_between+in_ok-push w ↦
          rw (w.rests-is, w.in_ok-push.ensures.items)
          (kept_add_at Run Before (Between c.args.earlier c.args.later) xs i no_run c.loop-run-test.true
          c.requires.in_order c.loop-run.rests.items c.loop-run.invariant (c.is_between.ensures.0 w.if-is_between.true))
      | else-is_between w ↦
          rw w.rests-is
          (kept_skip_at Run Before (Between c.args.earlier c.args.later) xs i no_run c.loop-run-test.true
          c.requires.in_order c.loop-run.rests.items c.loop-run.invariant
          (λ h. let e : c.is_between.result ≡ true = c.is_between.ensures.1 h in cc))
    ]

pub returns : goal.returns
returns c =
    let e : take c.loop-run.run-index c.args.runs.now ≡ c.args.runs.now =
    take_all c.loop-run.run-index c.args.runs.now c.loop-run-test.false in
    subst (λ (seen : List Run). AreKept Run Before (Between c.args.earlier c.args.later) seen c.loop-run.rests.items)
    e c.loop-run.invariant

use Rattle.std.proofs.Common.{ℕ, ◌+◌, List, get_or, map, refl}
use Rattle.tacho_law.specs.declared.run.Run.{Run}
use Rattle.tacho_law.specs.Runs.{Before}
use Rattle.tacho_evidence.specs.declared.line.EvidenceLine.{EvidenceLine}
use Rattle.tacho_evidence.specs.declared.line.EvidenceLine.TheVariants.{Rest}
use Rattle.tacho_evidence.proofs.AppendedLemmas.{LongWithin, appended_none, appended_add, appended_skip, appended_all}
use Rattle.tacho_evidence.proofs.AppendedLemmas.{rests_more}
use Rattle.tacho_evidence.proofs.DaysInTimeLemmas.{no_run}
use Rattle.tacho_evidence.proofs.daily.append_rests.Goals as goal
use Rattle.tacho_evidence.proofs.daily.append_rests.Goals.{then-is_rest_within+in_ok-push, else-is_rest_within}

pub loop-run-init : goal.loop-run-init
loop-run-init c = (0, appended_none Before (LongWithin c.args.day) (map Rest) c.args.lines.now.items refl)

pub loop-run-preserved : goal.loop-run-preserved
loop-run-preserved c =
    let xs : List Run = c.args.runs.now in
    let i : ℕ = c.loop-run.run-index in
    let (count, seen) = c.loop-run.invariant in
    let before : List EvidenceLine = c.args.lines.now.items in
    let lines : List EvidenceLine = c.loop-run.lines.items in
    elim c.if-is_rest_within.branch [
      | then-is_rest_within+in_ok-push w ↦ (
        count + 1,
        rw (w.lines-is, w.in_ok-push.ensures.items)
            (appended_add Before (LongWithin c.args.day) (map Rest) before xs i no_run c.loop-run-test.true
            c.requires.in_order lines count seen (Rest (get_or xs i no_run))
            (λ ys e. rests_more (get_or xs i no_run) ys) (c.is_rest_within.ensures.0 w.if-is_rest_within.true)),
      )
      | else-is_rest_within w ↦ (
        count,
        rw w.lines-is
            (appended_skip Before (LongWithin c.args.day) (map Rest) before xs i no_run c.loop-run-test.true
            c.requires.in_order lines count seen
            (λ h. let t = c.is_rest_within.ensures.1 h in let f = w.if-is_rest_within.false in cc)),
      )
    ]

pub returns : goal.returns
returns c =
    let (count, seen) = c.loop-run.invariant in
    let all = appended_all Before (LongWithin c.args.day) (map Rest) c.args.lines.now.items c.args.runs.now
    c.loop-run.run-index c.loop-run.lines.items count c.loop-run-test.false seen in
    (all.kept, all.exactly, all.lines_are)

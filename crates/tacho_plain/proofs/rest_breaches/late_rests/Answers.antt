use Rattle.std.proofs.Common.{ℕ, List, refl, arith}
use Rattle.tacho_law.specs.declared.run.Run.{Run}
use Rattle.tacho_plain.proofs.LateRestLemmas.{late_none, late_skip, late_add, late_all}
use Rattle.tacho_plain.proofs.rest_breaches.late_rests.Goals as goal
use Rattle.tacho_plain.proofs.rest_breaches.late_rests.Goals.{then-latest-start+in_ok-push, else-latest-start}

pub loop-i-init : goal.loop-i-init
loop-i-init c = rw c.new-found.ensures.items (late_none c.args.weekly.now)

pub loop-i-preserved : goal.loop-i-preserved
loop-i-preserved c =
    let weekly : List Run = c.args.weekly.now in
    let i : ℕ = c.loop-i.i in
    elim c.if-latest-start.branch [
      | then-latest-start+in_ok-push w ↦
          rw (w.found-is, w.in_ok-push.ensures.items)
          (late_add weekly c.requires i (omega arith) c.loop-i-test.true c.loop-i.found.items c.loop-i.invariant _
          (record {
            kind_is = refl;
            moment = w.new.ensures;
            since = w.new-then-latest-start.ensures;
            late = omega arith;
            amount = omega arith;
          }))
      | else-latest-start w ↦
          rw w.found-is
          (late_skip weekly c.requires i (omega arith) c.loop-i-test.true
          c.loop-i.found.items c.loop-i.invariant (omega arith))
    ]

pub returns : goal.returns
returns c = λ line are.
    late_all line c.args.weekly.now are c.loop-i.i c.loop-i-test.false c.loop-i.found.items c.loop-i.invariant

use Rattle.std.proofs.Common.{◌≡◌, ℕ, ◌+◌, ◌-◌, ◌*◌, ◌≤◌, ◌<◌, List, refl, arith}
use Rattle.std.specs.Prelude.{◌↔◌, IsTrue}
use Rattle.std.proofs.lemmas.Bool.{both_ways}
use Rattle.tacho_law.specs.declared.breach.Breach.{Breach}
use Rattle.tacho_law.specs.Line.{Line}
use Rattle.tacho_law.specs.Runs.{AreRestsOf}
use Rattle.tacho_law.specs.Choice.{CanServe}
use Rattle.tacho_choice.specs.Weeks.{IsInWeeks}
use Rattle.tacho_plain.proofs.ServedLemmas.{judged_first, judged_on, judged_anew, judged_all}
use Rattle.tacho_plain.proofs.rest_breaches.lacking_weeks.Goals as goal
use Rattle.tacho_plain.proofs.rest_breaches.lacking_weeks.Goals.{then-not-can_serve+in_ok-push, else-not-can_serve}

pub can_serve-requires-clause-range : goal.can_serve-requires-clause-range
can_serve-requires-clause-range c =
    let before : c.loop-at.start < c.loop-at.at = c.loop-at.invariant.before in
    omega arith

pub loop-at-init : goal.loop-at-init
loop-at-init c =
    let first : ℕ = c.number-first.result in
    record {
      before = omega arith;
      judged = λ line are is. rw c.new-found.ensures.items
          (judged_first line c.args.horizon first (first + 0) (first + (1 - 1)) (omega arith) (omega arith) is);
    }

-- whether some choice serves the weeks up to this one
served : (c : goal.Joined-not-can_serve) (line : Line) → AreRestsOf line 1440 c.args.weekly.now → IsInWeeks line
    → (IsTrue c.can_serve.result
    ↔ CanServe line (c.number-first.result + c.loop-at.start) (c.number-first.result + c.loop-at.at))
served c line are is =
    c.can_serve.ensures line c.number-first.result is
    (rw c.deref.ensures.value (c.in_ok-weeks.ensures.each line are is))

pub loop-at-preserved : goal.loop-at-preserved
loop-at-preserved c =
    let first : ℕ = c.number-first.result in
    let at : ℕ = c.loop-at.at in
    let from : 1 ≤ at = c.loop-at.auto.at in
    let count = c.in_ok-weeks.ensures.count in
    let found : List Breach = c.loop-at.found.items in
    let before : c.loop-at.start < at = c.loop-at.invariant.before in
    elim c.if-not-can_serve.branch [
      | then-not-can_serve+in_ok-push w ↦ rw (w.found-is, w.start-is, w.in_ok-push.ensures.items) (record {
        before = omega arith;
        judged = λ line are is.
            judged_anew line c.args.horizon first (first + c.loop-at.start) (first + (at - 1)) found
            (c.loop-at.invariant.judged line are is) (first + at) (first + (at + 1 - 1)) (omega arith) (omega arith) is
            (λ h. both_ways c.can_serve.result w.if-not-can_serve.true ((served c line are is).1 h))
            (omega arith) _ refl (omega arith) (omega arith) refl;
      })
      | else-not-can_serve w ↦ rw (w.found-is, w.start-is) (record {
        before = omega arith;
        judged = λ line are is.
            judged_on line c.args.horizon first (first + c.loop-at.start) (first + (at - 1)) found
            (c.loop-at.invariant.judged line are is) (first + at) (first + (at + 1 - 1)) (omega arith) (omega arith)
            ((served c line are is).0 w.if-not-can_serve.false);
      })
    ]

pub returns : goal.returns
returns c = λ line are is.
    (let first : ℕ = c.number-first.result in
    let w : ℕ = c.requires.base.week in
    let monday : c.args.base ≡ 5760 + 10080 * w = c.requires.base.monday in
    let count = c.in_ok-weeks.ensures.count in
    judged_all line c.args.horizon first (first + c.loop-at.start) (first + (c.loop-at.at - 1)) c.loop-at.found.items
    (c.loop-at.invariant.judged line are is) c.args.base (omega arith) (omega arith))

use Rattle.std.proofs.Common.{◌≡◌, ◌+◌, ◌≤◌, ℕ, List, subst, arith}
use Rattle.tacho_time.specs.declared.span.Activity.{Activity}
use Rattle.tacho_law.specs.declared.breach.Breach.{Breach}
use Rattle.tacho_law.specs.Line.{line_of}
use Rattle.tacho_law.specs.Driving.{driving}
use Rattle.tacho_law.specs.Weeks.{week_start}
use Rattle.tacho_plain.specs.WeekBreaches.{IsLongWeek, IsLongPair, AreOfWeeks}
use Rattle.tacho_plain.proofs.WeekBreachesLemmas.{WithWeek, weeks_none, week_skip, week_add, pair_skip, pair_add}
use Rattle.tacho_plain.proofs.week_breaches.breaches_of_weeks.Goals as goal
use Rattle.tacho_plain.proofs.week_breaches.breaches_of_weeks.Goals.{in-Some+in_ok-push, in_default}
use Rattle.tacho_plain.proofs.week_breaches.breaches_of_weeks.Goals.{in-Some-two+in_ok-push-2, in_default-two}

pub loop-number-init : goal.loop-number-init
loop-number-init c = rw c.new-found.ensures.items (weeks_none (line_of c.args.examined.now.spans.now) c.args.first)

pub loop-number-preserved : goal.loop-number-preserved
loop-number-preserved c =
    let line : ℕ → Activity = line_of c.args.examined.now.spans.now in
    let first : ℕ = c.args.first in
    let n : ℕ = c.loop-number.number in
    let old : List Breach = c.loop-number.found.items in
    let mid : List Breach = c.match-week.found.items in
    let some : first ≤ n = c.loop-number.auto.number in
    let at : c.first_minute-start.result ≡ week_start n = omega arith in
    let next : c.first_minute-next.result ≡ week_start (n + 1) = omega arith in
    let after : c.first_minute-after.result ≡ week_start (n + 2) = omega arith in
    let week : WithWeek line first n mid = elim c.match-week.branch [
      | in-Some+in_ok-push w ↦
          let is : IsLongWeek line n w.in-Some.breach = rw (at, next) at w.in-Some.ensures in
          rw (w.found-is, w.in_ok-push.ensures.items)
          (week_add line first n old w.in-Some.breach c.loop-number.invariant is)
      | in_default w ↦
          let few : driving line (week_start n) (week_start (n + 1)) ≤ 3360 = rw (at, next) at w.in_default.ensures in
          rw w.found-is (week_skip line first n old c.loop-number.invariant few)
    ] in
    elim c.match-two.branch [
      | in-Some-two+in_ok-push-2 w ↦
          let is : IsLongPair line n w.in-Some-two.breach = rw (at, after) at w.in-Some-two.ensures in
          rw (w.found-is, w.in_ok-push-2.ensures.items) (pair_add line first n mid w.in-Some-two.breach some week is)
      | in_default-two w ↦
          let few : driving line (week_start n) (week_start (n + 2)) ≤ 5400 =
          rw (at, after) at w.in_default-two.ensures in
          rw w.found-is (pair_skip line first n mid some week few)
    ]

pub returns : goal.returns
returns c =
    let end : c.loop-number.number ≡ c.args.end = omega (arith, c.loop-number.auto.number-end) in
    subst (λ (n : ℕ). AreOfWeeks (line_of c.args.examined.now.spans.now) c.args.first n c.loop-number.found.items)
    end c.loop-number.invariant

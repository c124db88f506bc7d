use Rattle.std.proofs.Common.{◌≡◌, ◌<◌, ◌+◌, length, get_or, subst, rules}
use Rattle.tacho_ahead.proofs.EndedLemmas.{AreMissing, skip_missing, push_missing, all_missing}
use Rattle.tacho_ahead.proofs.outlook.missing.Goals as goal
use Rattle.tacho_ahead.proofs.outlook.missing.Goals.{then-not-has+in_ok-push, else-not-has}

pub loop-breach-preserved : goal.loop-breach-preserved
loop-breach-preserved c =
    let breaches = c.args.breaches.now in
    let others = c.args.others.now in
    let i = c.loop-breach.breach-index in
    let old = c.loop-breach.missing.items in
    let item = c.breach-item.result in
    let within : i < length breaches = search rules in
    let is : item ≡ get_or breaches i item = c.breach-item.is in
    elim c.if-not-has.branch [
      | then-not-has+in_ok-push w ↦
          push_missing breaches others i within old c.loop-breach.invariant item is c.if-not-has.missing.items
          (search rules) (λ in'. let t = c.has.ensures.1 in' in let f = w.if-not-has in cc)
      | else-not-has w ↦
          subst (AreMissing breaches others (i + 1)) (search rules)
          (skip_missing breaches others i within old c.loop-breach.invariant item is (c.has.ensures.0 (search rules)))
    ]

pub returns-clause-each : goal.returns-clause-each
returns-clause-each c =
    all_missing c.args.breaches.now c.args.others.now c.loop-breach.breach-index c.loop-breach.missing.items (search rules)
    c.loop-breach.invariant

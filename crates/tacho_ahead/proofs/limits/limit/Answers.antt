use Rattle.std.proofs.Common.{◌≡◌, sym, ◌∙◌, true, false}
use Rattle.tacho_ahead.proofs.LimitLemmas.{searched_next, limit_found, limit_none}
use Rattle.tacho_ahead.proofs.limits.limit.Goals as goal

pub returns-then-branch-clause-limit : goal.returns-then-branch-clause-limit
returns-then-branch-clause-limit c =
    limit_found c.args.scan.now c.args.found.now c.loop-until.found c.args.had.now c.args.kind c.number-first.result c.loop-until.until
    c.args.start c.new.result c.reach-until-end.result c.number-first.ensures.value c.new.ensures c.loop-until.auto.until
    c.reach-until-end.ensures.is c.loop-until-test.true c.loop-until.invariant
    (λ held base known. (c.in_ok-is_broken.ensures.broken held base known).0 c.if-branch.true)

pub loop-until-preserved : goal.loop-until-preserved
loop-until-preserved c =
    searched_next c.args.scan.now c.args.found.now c.loop-until.found c.is_broken.new.found c.args.had.now c.args.kind
    c.number-first.result c.loop-until.until c.loop-until.invariant c.in_ok-is_broken.ensures.same
    (λ held base known broken.
    let t = (c.in_ok-is_broken.ensures.broken held base known).1 broken in
    let f = c.if-branch.false in
    let no : true ≡ false = sym t ∙ f in cc)

pub returns-clause-limit : goal.returns-clause-limit
returns-clause-limit c =
    limit_none c.args.scan.now c.args.found.now c.loop-until.found c.args.had.now c.args.kind c.number-first.result c.loop-until.until
    c.args.start c.reach-until-end.result c.number-first.ensures.value c.reach-until-end.ensures.is c.loop-until-test.false
    c.loop-until.invariant

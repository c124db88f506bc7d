use Rattle.std.proofs.Common.{◌≡◌, ◌<◌, ℕ, ◌-◌, List, length, take, drop, ap, sym, subst, ◌∙◌, arith}
use Rattle.tacho_law.specs.declared.breach.Breach.{Breach}
use Rattle.tacho_law.specs.declared.debt.Debt.{Debt}
use Rattle.tacho_ahead.specs.Ahead.{limit_of}
use Rattle.tacho_ahead.specs.Fed.{IsPicked}
use Rattle.tacho_ahead.proofs.EndedLemmas.{reported_of}
use Rattle.tacho_ahead.proofs.PlanLemmas.{rest_of, taken}
use Rattle.tacho_ahead.proofs.SearchLemmas.{tried_none, tried_more, tried_all}
use Rattle.tacho_ahead.proofs.search.search.Goals as goal

pub loop-until-init : goal.loop-until-init
loop-until-init c =
    tried_none c.args.scan.now c.args.found.now c.args.had.now c.args.start c.number-first.result c.none-limits.result
    c.number-first.ensures.value c.none-limits.ensures

pub loop-until-preserved : goal.loop-until-preserved
loop-until-preserved c =
    let f = c.loop-until.found in
    let all = c.drive_and_rest.new.found in
    let until = c.loop-until.until in
    let appends = c.drive_and_rest.ensures.appends in
    let same = c.loop-until.invariant.same in
    let n = length c.as_slice-breaches.result.now in
    let d = length c.as_slice-debts.result.now in
    let v = c.deref.result.now in
    let first : c.number-first.result ≡ c.args.start = c.number-first.ensures.value in
    let long : n ≡ length f.breaches.items =
    ap (λ (xs : List Breach). length xs) (c.as_slice-breaches.ensures.value ∙ sym same.breaches) in
    let deep : d ≡ length f.debts.items = ap (λ (xs : List Debt). length xs) (c.as_slice-debts.ensures.value ∙ sym same.debts) in
    let left : take (length v - n) (drop n v) ≡ appends.breaches =
    rest_of v f.breaches.items appends.breaches n (c.deref.ensures.value ∙ appends.longer) long in
    let after = c.loop-until.auto.until in
    let before : until < c.reach-until-end.result = c.loop-until-test.true in
    let far = c.reach-until-end.ensures.within in
    let within = c.requires.within in
    tried_more c.args.scan.now c.args.found.now f all c.forget.new.found c.args.had.now c.args.start until c.loop-until.limits
    c.noted-limits.result c.loop-until.invariant appends (omega (arith, first, after)) (omega (arith, before, far, within))
    (let found = rw first at c.in_ok-drive_and_rest.ensures.all in λ p b fed goes. reported_of p b all (found p b fed goes))
    (λ k not.
    subst (λ (xs : List Breach). IsPicked c.args.start k until xs c.args.had.now (limit_of c.loop-until.limits k) (limit_of c.noted-limits.result k))
    left
    (subst (λ (u : ℕ). IsPicked c.args.start k u (take (length v - n) (drop n v)) c.args.had.now (limit_of c.loop-until.limits k) (limit_of c.noted-limits.result k))
    c.new.ensures (c.noted-limits.ensures k not)))
    (record {
      breaches = c.forget.ensures.breaches ∙ ap (λ (xs : List Breach). take n xs) appends.longer ∙ taken f.breaches.items appends.breaches n long;
      debts = c.forget.ensures.debts ∙ ap (λ (xs : List Debt). take d xs) appends.more ∙ taken f.debts.items appends.debts d deep;
    })

pub returns-clause-limits : goal.returns-clause-limits
returns-clause-limits c = λ held base known k not.
    tried_all held base c.args.start c.reach-until-end.result c.reach-until-end.ensures.is k c.loop-until.until c.loop-until-test.false
    (limit_of c.loop-until.limits k) (c.loop-until.invariant.tried held base known k not)

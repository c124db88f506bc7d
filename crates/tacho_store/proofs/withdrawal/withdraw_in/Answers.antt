use Rattle.std.proofs.Common.{◌≡◌, inl, refl, arith}
use Rattle.tacho_store.proofs.WithdrawnLemmas.{one_withdrawn, last_withdrawn, not_withdrawn}
use Rattle.tacho_store.proofs.withdrawal.withdraw_in.Goals as goal

pub loop-number-init : goal.loop-number-init
loop-number-init g c = inl (refl, refl)

pub loop-number-preserved : goal.loop-number-preserved
loop-number-preserved g c = one_withdrawn c.loop-number.invariant c.in_ok-withdraw_one.ensures

pub returns : goal.returns
returns g c =
    let end : c.loop-number.number ≡ c.args.last = omega (arith, c.loop-number-test.false, c.loop-number.auto.number-end c.requires) in
    last_withdrawn c.loop-number.invariant end c.withdraw_one-2.ensures

pub returns-in_err-withdraw_one : goal.returns-in_err-withdraw_one
returns-in_err-withdraw_one g c = not_withdrawn c.loop-number.invariant (omega (arith, c.loop-number-test.true)) c.in_err-withdraw_one.ensures
    c.from_residual.result c.from_residual.ensures

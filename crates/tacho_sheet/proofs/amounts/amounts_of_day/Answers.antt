use Rattle.std.proofs.Common.{◌≡◌, ◌-◌, ◌*◌, ℕ, subst, arith}
use Rattle.std.proofs.lemmas.Result.{IfOk-weaker}
use Rattle.tacho_sheet.specs.Amounts.{AreAmounts}
use Rattle.tacho_sheet.proofs.amounts.amounts_of_day.Goals as goal

pub returns : goal.returns
returns c =
    let line = c.args.line.now in
    let day : ℕ = c.args.day in
    let start : ℕ = c.new-start.result in
    let past : ℕ = c.new-past.result in
    let at : start ≡ 1440 * day = omega arith in
    let many : past - start ≡ 1440 = omega arith in
    IfOk-weaker c.amounts_of_range.result (AreAmounts line start (past - start)) (AreAmounts line (1440 * day) 1440)
    (λ a counted. subst (λ (m : ℕ). AreAmounts line m 1440 a) at (subst (λ (n : ℕ). AreAmounts line start n a) many counted))
    c.amounts_of_range.ensures

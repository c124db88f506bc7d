use Rattle.std.proofs.Common.{◌≡◌, ◌+◌, ◌-◌, ℕ, List, get_or, take, ap, arith}
use Rattle.std.proofs.lemmas.List.Sums.{sum_by_more}
use Rattle.tacho_law.specs.declared.debt.Debt.{Debt}
use Rattle.tacho_law.specs.Debts.{share, paid_from}
use Rattle.tacho_periods.proofs.room.left_of.Goals as goal

pub loop-debt-preserved : goal.loop-debt-preserved
loop-debt-preserved c =
    let debts : List Debt = c.args.debts.now in
    let i : ℕ = c.loop-debt.debt-index in
    let more : paid_from c.args.rest (take (i + 1) debts)
    ≡ paid_from c.args.rest (take i debts) + share c.args.rest (get_or debts i c.debt-item.result) =
    sum_by_more (share c.args.rest) debts i c.debt-item.result c.loop-debt-test.true in
    let same : share c.args.rest c.debt-item.result ≡ share c.args.rest (get_or debts i c.debt-item.result) =
    ap (share c.args.rest) c.debt-item.is in
    let is : c.share_of.result ≡ share c.args.rest c.debt-item.result = c.share_of.ensures in
    let before : c.loop-debt.left ≡ c.args.minutes - paid_from c.args.rest (take i debts) = c.loop-debt.invariant in
    omega arith

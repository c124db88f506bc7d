use Rattle.std.proofs.Common.{◌≡◌, ◌+◌, ◌*◌, ◌<◌, ◌≤◌, ℕ, arith}
use Rattle.tacho_rests.proofs.OwingLemmas.{stands_none}
use Rattle.tacho_rests.proofs.compensation.LedgerJudge.new.Goals as goal

pub returns-clause-none : goal.returns-clause-none
returns-clause-none c =
    let w : ℕ = c.week_of.result in
    let low : 5760 + 10080 * w ≤ c.args.base = c.week_of.ensures.from in
    let high : c.args.base < 5760 + 10080 * (w + 1) = c.week_of.ensures.before in
    let monday : c.args.base ≡ 5760 + 10080 * c.requires.monday.week = c.requires.monday.monday in
    let week : c.none.result.week ≡ w = c.none.ensures.week in
    stands_none c.args.base c.none.result c.requires.monday (omega arith) c.none.ensures.rests c.none.ensures.debts

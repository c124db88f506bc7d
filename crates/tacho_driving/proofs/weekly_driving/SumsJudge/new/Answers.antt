use Rattle.std.proofs.Common.{◌≡◌, ◌≤◌, ◌<◌, ◌+◌, ◌-◌, ◌*◌, ℕ, arith}
use Rattle.tacho_law.specs.Weeks.{week_start}
use Rattle.tacho_driving.proofs.SumsLemmas.{sums_none}
use Rattle.tacho_driving.proofs.weekly_driving.SumsJudge.new.Goals as goal

pub returns-clause-none : goal.returns-clause-none
returns-clause-none c =
    let w : ℕ = c.number.result - 1 in
    let k : ℕ = c.requires.monday.week in
    let monday : c.args.base ≡ 5760 + 10080 * k = c.requires.monday.monday in
    let late : 15780960 ≤ c.args.base = c.requires.monday.from in
    let low : 5760 + 10080 * c.week_of.result ≤ c.args.base = c.week_of.ensures.from in
    let high : c.args.base < 5760 + 10080 * (c.week_of.result + 1) = c.week_of.ensures.before in
    let n : c.number.result ≡ c.week_of.result = c.number.ensures.value in
    let is : c.args.base ≡ week_start (w + 1) = omega arith in
    rw c.none.ensures (sums_none c.args.base w is)

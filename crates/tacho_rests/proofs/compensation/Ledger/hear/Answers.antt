use Rattle.std.proofs.Common.{◌≡◌, ◌+◌, ◌<◌, ◌≤◌, ℕ, List, take, arith}
use Rattle.tacho_law.specs.declared.run.Run.{Run}
use Rattle.tacho_law.specs.declared.debt.Debt.{Debt}
use Rattle.tacho_law.specs.Weeks.{week_start, IsInWeek}
use Rattle.tacho_pass.specs.Found.{own_of}
use Rattle.tacho_pass.specs.Kinds.{is_b10}
use Rattle.tacho_rests.specs.Turns.{IsOpened}
use Rattle.tacho_rests.proofs.LedgerLemmas.{ledger_rest}
use Rattle.tacho_rests.proofs.compensation.Ledger.hear.Goals as goal

pub returns-clause-kept : goal.returns-clause-kept
returns-clause-kept c = λ line horizon last e l n s.
    (let v : ℕ = c.number-week.result in
    let low : week_start c.week_of.result ≤ c.new.result = c.week_of.ensures.from in
    let high : c.new.result < week_start (c.week_of.result + 1) = c.week_of.ensures.before in
    let start : c.new.result ≡ c.args.run.start = c.new.ensures in
    let is : v ≡ c.week_of.result = c.number-week.ensures.value in
    let week : IsInWeek v c.args.run.start = (omega arith, omega arith) in
    let rests : List Run = take c.enter.new.self.rests.count c.enter.new.self.rests.slots in
    let debts : List Debt = take c.enter.new.self.debts.count c.enter.new.self.debts.slots in
    let o : IsOpened line horizon c.args.run v rests debts (own_of is_b10 c.enter.new.found.breaches.items)
    c.enter.new.found.debts.items = c.in_ok-enter.ensures.opened line horizon last c.args.run e l n week s in
    rw (c.add.ensures.week, c.in_ok-enter.ensures.week, c.add.ensures.debts, c.add.ensures.rests)
    (ledger_rest line horizon last l v rests debts (own_of is_b10 c.enter.new.found.breaches.items)
    c.enter.new.found.debts.items c.args.run o week))

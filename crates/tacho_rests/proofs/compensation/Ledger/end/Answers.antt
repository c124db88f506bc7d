use Rattle.std.proofs.Common.{◌≡◌, ◌+◌, ◌++◌, ◌<◌, ◌≤◌, ℕ, true, false, List, take, refl, ap, ◌∙◌, arith}
use Rattle.tacho_law.specs.declared.run.Run.{Run}
use Rattle.tacho_law.specs.declared.run.TheConstants.{FAR}
use Rattle.tacho_law.specs.declared.debt.Debt.{Debt}
use Rattle.tacho_law.specs.declared.breach.Breach.{Breach}
use Rattle.tacho_law.specs.Weeks.{week_start, IsInWeek}
use Rattle.tacho_pass.specs.Found.{own_of}
use Rattle.tacho_pass.specs.Kinds.{is_b10}
use Rattle.tacho_pass.proofs.AppendingLemmas.{appends_then, own_more}
use Rattle.tacho_rests.specs.Paying.{due_of, overdue_of, close_debts, rests_with}
use Rattle.tacho_rests.specs.Turns.{IsOpened, IsLedger}
use Rattle.tacho_rests.proofs.OverdueOfLemmas.{overdue_kinds}
use Rattle.tacho_rests.proofs.LedgerLemmas.{ledger_rest, ledger_last, same_run}
use Rattle.tacho_rests.proofs.compensation.Ledger.end.Goals as goal

pub returns-in_err-left-clause-appends : goal.returns-in_err-left-clause-appends
returns-in_err-left-clause-appends c =
    appends_then is_b10 true c.args.found.now c.enter.new.found c.close.new.found c.in_ok-enter.ensures.appends
    c.in_err-left.ensures.appends

pub returns-in_err-emit-clause-appends : goal.returns-in_err-emit-clause-appends
returns-in_err-emit-clause-appends c =
    appends_then is_b10 true c.args.found.now c.enter.new.found c.emit.new.found c.in_ok-enter.ensures.appends
    (appends_then is_b10 true c.enter.new.found c.close.new.found c.emit.new.found c.in_ok-left.ensures.appends
    c.in_err-emit.ensures.appends)

pub returns-clause-appends : goal.returns-clause-appends
returns-clause-appends c =
    appends_then is_b10 true c.args.found.now c.enter.new.found c.emit.new.found c.in_ok-enter.ensures.appends
    (appends_then is_b10 true c.enter.new.found c.close.new.found c.emit.new.found c.in_ok-left.ensures.appends
    c.in_ok-emit.ensures.appends)

pub returns-clause-debts : goal.returns-clause-debts
returns-clause-debts c = λ line last e l at n s.
    (let v : ℕ = c.number-week.result in
    let horizon : ℕ = c.args.horizon in
    let low : week_start c.week_of.result ≤ c.new.result = c.week_of.ensures.from in
    let high : c.new.result < week_start (c.week_of.result + 1) = c.week_of.ensures.before in
    let start : c.new.result ≡ c.args.start = c.new.ensures in
    let is : v ≡ c.week_of.result = c.number-week.ensures.value in
    let week : IsInWeek v last.start = (omega arith, omega arith) in
    let rests : List Run = take c.enter.new.self.rests.count c.enter.new.self.rests.slots in
    let debts : List Debt = take c.enter.new.self.debts.count c.enter.new.self.debts.slots in
    let own : List Breach = own_of is_b10 c.enter.new.found.breaches.items in
    let owed : List Debt = c.enter.new.found.debts.items in
    let o : IsOpened line horizon last v rests debts own owed =
    c.in_ok-enter.ensures.opened line horizon last last e l n week s in
    let k : IsLedger line horizon (last.start + 1) v (rests_with rests last) debts own owed =
    ledger_rest line horizon last l v rests debts own owed last o week in
    let run : Run = record { start = c.args.start; past = FAR } in
    let same : run ≡ last = same_run last c.args.start at l.no_end in
    let left : List Debt = close_debts horizon false v (rests_with rests last) debts in
    let due : List Debt = due_of (week_start v) debts in
    let of_week : c.add.new.self.week ≡ v = c.add.ensures.week ∙ c.in_ok-enter.ensures.week in
    let of_rests : take c.add.new.self.rests.count c.add.new.self.rests.slots ≡ rests_with rests
    last = c.add.ensures.rests ∙ ap (rests_with rests) same in
    let of_debts : take c.add.new.self.debts.count c.add.new.self.debts.slots ≡ debts =
    rw c.add.ensures.debts refl in
    let end : c.number-end.result ≡ horizon = c.number-end.ensures.value in
    let left_is : take c.in_ok-left.left.count c.in_ok-left.left.slots ≡ left = c.in_ok-left.ensures.left
    ∙ rw (end, of_week, of_rests, of_debts) refl in
    let debts_are : c.emit.new.found.debts.items ≡ (owed ++ due) ++ left = c.in_ok-emit.ensures.debts
    ∙ rw (c.as_slice.ensures.all, left_is, c.in_ok-left.ensures.debts, of_week, of_debts) refl in
    let breaches_are : c.emit.new.found.breaches.items
    ≡ (c.enter.new.found.breaches.items ++ overdue_of (week_start v) due) ++ overdue_of horizon left =
    c.in_ok-emit.ensures.breaches
    ∙ rw (c.as_slice.ensures.all, left_is, c.in_ok-left.ensures.breaches, of_week, of_debts) refl in
    let own_is : own_of is_b10 c.emit.new.found.breaches.items ≡ (own ++ overdue_of (week_start v) due) ++ overdue_of
    horizon left =
    ap (own_of is_b10) breaches_are
    ∙ own_more is_b10 (c.enter.new.found.breaches.items ++ overdue_of (week_start v) due) (overdue_of horizon left)
    (overdue_kinds horizon left)
    ∙ ap (λ (xs : List Breach). xs ++ overdue_of horizon left)
    (own_more is_b10 c.enter.new.found.breaches.items (overdue_of (week_start v) due)
    (overdue_kinds (week_start v) due)) in
    rw (own_is, debts_are) (ledger_last line horizon last l v (rests_with rests last) debts own owed k week))

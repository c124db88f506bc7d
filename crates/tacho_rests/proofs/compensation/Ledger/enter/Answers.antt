use Rattle.std.proofs.Common.{◌≡◌, ◌++◌, ℕ, true, List, take, sym, ap, ◌∙◌}
use Rattle.tacho_law.specs.declared.run.Run.{Run}
use Rattle.tacho_law.specs.declared.breach.Breach.{Breach}
use Rattle.tacho_law.specs.declared.debt.Debt.{Debt}
use Rattle.tacho_law.specs.Weeks.{week_start}
use Rattle.tacho_pass.specs.Found.{own_of}
use Rattle.tacho_pass.specs.Kinds.{is_b10}
use Rattle.tacho_pass.proofs.AppendingLemmas.{appends_none, own_more}
use Rattle.tacho_rests.specs.Paying.{due_of, overdue_of}
use Rattle.tacho_rests.proofs.OverdueOfLemmas.{overdue_kinds}
use Rattle.tacho_rests.proofs.LedgerLemmas.{ledger_later}
use Rattle.tacho_rests.proofs.compensation.Ledger.enter.Goals as goal

pub returns-then-week-self-clause-appends : goal.returns-then-week-self-clause-appends
returns-then-week-self-clause-appends c = appends_none is_b10 true c.args.found.now

pub returns-in-Ok-clause-opened : goal.returns-in-Ok-clause-opened
returns-in-Ok-clause-opened c = λ line horizon last run e l n week s.
    (let w : ℕ = c.args.self.now.week in
    let rests : List Run = take c.args.self.now.rests.count c.args.self.now.rests.slots in
    let debts : List Debt = take c.args.self.now.debts.count c.args.self.now.debts.slots in
    let own : List Breach = c.args.found.now.breaches.items in
    let more : List Breach = overdue_of (week_start w) (due_of (week_start w) debts) in
    let own_is : own_of is_b10 c.close.new.found.breaches.items ≡ own_of is_b10 own ++ more =
    ap (own_of is_b10) c.in-Ok.ensures.breaches
    ∙ own_more is_b10 own more (overdue_kinds (week_start w) (due_of (week_start w) debts)) in
    rw (c.begin.ensures.rests, c.begin.ensures.debts, c.in-Ok.ensures.left, own_is, c.in-Ok.ensures.debts)
    (ledger_later line horizon last l e w rests debts (own_of is_b10 own) c.args.found.now.debts.items run c.args.week s
    n week (λ same. c.if-week-self.false (sym same))))

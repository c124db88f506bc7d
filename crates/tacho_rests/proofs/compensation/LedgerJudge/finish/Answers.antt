use Rattle.std.proofs.Common.{true, List}
use Rattle.tacho_law.specs.declared.breach.Breach.{Breach}
use Rattle.tacho_law.specs.declared.debt.Debt.{Debt}
use Rattle.tacho_pass.specs.Found.{own_of}
use Rattle.tacho_pass.specs.Kinds.{is_b10}
use Rattle.tacho_pass.proofs.AppendingLemmas.{appends_none}
use Rattle.tacho_rests.proofs.OwingLemmas.{ends_at, ends_none}
use Rattle.tacho_rests.proofs.compensation.LedgerJudge.finish.Goals as goal

pub returns-then-start-lt-FIRST_WEEK-clause-appends : goal.returns-then-start-lt-FIRST_WEEK-clause-appends
returns-then-start-lt-FIRST_WEEK-clause-appends c = appends_none is_b10 true c.args.found.now

pub returns-then-start-lt-FIRST_WEEK-clause-finished : goal.returns-then-start-lt-FIRST_WEEK-clause-finished
returns-then-start-lt-FIRST_WEEK-clause-finished c = λ base spans r x.
    (let own : List Breach = own_of is_b10 c.args.found.now.breaches.items in
    let owed : List Debt = c.args.found.now.debts.items in
    ends_none spans base c.args.horizon c.args.start c.args.self own owed r x c.if-start-lt-FIRST_WEEK.true)

pub returns-clause-finished : goal.returns-clause-finished
returns-clause-finished c = λ base spans r x.
    (let own : List Breach = own_of is_b10 c.args.found.now.breaches.items in
    let owed : List Debt = c.args.found.now.debts.items in
    ends_at spans base c.args.horizon c.args.start c.args.self own owed r x
    (own_of is_b10 c.end.new.found.breaches.items) c.end.new.found.debts.items
    c.if-start-lt-FIRST_WEEK.false c.in_ok-end.ensures.debts)

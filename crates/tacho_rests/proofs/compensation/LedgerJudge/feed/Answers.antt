use Rattle.std.proofs.Common.{◌≡◌, true, None, Some, List, sym, ◌∙◌}
use Rattle.tacho_time.specs.declared.span.Span.{Span}
use Rattle.tacho_law.specs.declared.breach.Breach.{Breach}
use Rattle.tacho_law.specs.declared.debt.Debt.{Debt}
use Rattle.tacho_pass.specs.Found.{own_of}
use Rattle.tacho_pass.specs.Kinds.{is_b10}
use Rattle.tacho_pass.specs.Heard.{run_before}
use Rattle.tacho_pass.proofs.AppendingLemmas.{appends_none}
use Rattle.tacho_rests.proofs.OwingLemmas.{fed_none, fed_first, fed_next}
use Rattle.tacho_rests.proofs.compensation.LedgerJudge.feed.Goals as goal

pub returns-in_default-clause-appends : goal.returns-in_default-clause-appends
returns-in_default-clause-appends c = appends_none is_b10 true c.args.found.now

pub returns-then-run-lt-FIRST_WEEK-clause-appends : goal.returns-then-run-lt-FIRST_WEEK-clause-appends
returns-then-run-lt-FIRST_WEEK-clause-appends c = appends_none is_b10 true c.args.found.now

pub returns-in_default-clause-fed : goal.returns-in_default-clause-fed
returns-in_default-clause-fed c = λ base spans r.
    (let own : List Breach = own_of is_b10 c.args.found.now.breaches.items in
    let owed : List Debt = c.args.found.now.debts.items in
    let s : Span = c.args._span in
    let none : run_before c.args._start s ≡ None = sym c.requires.run ∙ c.in_default.is in
    fed_none spans s base c.args._start c.args.self.now own owed r c.requires.nonempty none)

pub returns-then-run-lt-FIRST_WEEK-clause-fed : goal.returns-then-run-lt-FIRST_WEEK-clause-fed
returns-then-run-lt-FIRST_WEEK-clause-fed c = λ base spans r.
    (let own : List Breach = own_of is_b10 c.args.found.now.breaches.items in
    let owed : List Debt = c.args.found.now.debts.items in
    let s : Span = c.args._span in
    let is : run_before c.args._start s ≡ Some c.in-Some.run' = sym c.requires.run ∙ c.in-Some.is in
    fed_first spans s base c.args._start c.args.self.now own owed r c.requires.nonempty c.in-Some.run' is
    c.if-run-lt-FIRST_WEEK.true)

pub returns-clause-fed : goal.returns-clause-fed
returns-clause-fed c = λ base spans r.
    (let own : List Breach = own_of is_b10 c.args.found.now.breaches.items in
    let owed : List Debt = c.args.found.now.debts.items in
    let s : Span = c.args._span in
    let is : run_before c.args._start s ≡ Some c.in-Some.run' = sym c.requires.run ∙ c.in-Some.is in
    fed_next spans s base c.args._start c.args.self.now own owed r c.requires.nonempty c.in-Some.run' is
    c.if-run-lt-FIRST_WEEK.false c.hear.new.self (own_of is_b10 c.hear.new.found.breaches.items)
    c.hear.new.found.debts.items c.in_ok-hear.ensures.kept)

use Rattle.std.proofs.Common.{◌≡◌, ◌-◌, ◌<◌, ◌≤◌, false, None, Some, List, [], arith, sym, ◌∙◌}
use Rattle.tacho_time.specs.declared.span.Span.{Span}
use Rattle.tacho_law.specs.declared.run.Run.{Run}
use Rattle.tacho_law.specs.declared.breach.Breach.{Breach}
use Rattle.tacho_pass.specs.Found.{own_of}
use Rattle.tacho_pass.specs.Kinds.{is_b9}
use Rattle.tacho_pass.specs.Heard.{run_before}
use Rattle.tacho_pass.proofs.AppendingLemmas.{appends_none}
use Rattle.tacho_rests.proofs.LackingLemmas.{choices_fed_none, choices_fed_short, choices_fed_more}
use Rattle.tacho_rests.proofs.missing_rest.ChoicesJudge.feed.Goals as goal

pub returns-in_default-clause-appends : goal.returns-in_default-clause-appends
returns-in_default-clause-appends c = appends_none is_b9 false c.args.found.now

pub returns-then-saturating_sub-lt-WEEKLY_REST-clause-appends :
    goal.returns-then-saturating_sub-lt-WEEKLY_REST-clause-appends
returns-then-saturating_sub-lt-WEEKLY_REST-clause-appends c = appends_none is_b9 false c.args.found.now

pub returns-in_default-clause-fed : goal.returns-in_default-clause-fed
returns-in_default-clause-fed c = λ base spans r.
    (let own : List Breach = own_of is_b9 c.args.found.now.breaches.items in
    let s : Span = c.args._span in
    let none : run_before c.args._start s ≡ None = sym c.requires.run ∙ c.in_default.is in
    choices_fed_none spans s base c.args._start c.args.self.now own [] r c.requires.nonempty none)

pub returns-then-saturating_sub-lt-WEEKLY_REST-clause-fed : goal.returns-then-saturating_sub-lt-WEEKLY_REST-clause-fed
returns-then-saturating_sub-lt-WEEKLY_REST-clause-fed c = λ base spans r.
    (let own : List Breach = own_of is_b9 c.args.found.now.breaches.items in
    let s : Span = c.args._span in
    let run : Run = c.in-Some.run' in
    let is : run_before c.args._start s ≡ Some run = sym c.requires.run ∙ c.in-Some.is in
    let sub : c.saturating_sub.result ≡ run.past - run.start = c.saturating_sub.ensures in
    let short : c.saturating_sub.result < 1440 = c.if-saturating_sub-lt-WEEKLY_REST.true in
    choices_fed_short spans s base c.args._start c.args.self.now own [] r c.requires.nonempty run is
    (omega arith))

pub returns-clause-fed : goal.returns-clause-fed
returns-clause-fed c = λ base spans r.
    (let own : List Breach = own_of is_b9 c.args.found.now.breaches.items in
    let s : Span = c.args._span in
    let run : Run = c.in-Some.run' in
    let is : run_before c.args._start s ≡ Some run = sym c.requires.run ∙ c.in-Some.is in
    let sub : c.saturating_sub.result ≡ run.past - run.start = c.saturating_sub.ensures in
    let long : 1440 ≤ c.saturating_sub.result = c.if-saturating_sub-lt-WEEKLY_REST.false in
    choices_fed_more spans s base c.args._start c.args.self.now own [] r c.requires.nonempty run is
    (omega arith) c.hear.new.self (own_of is_b9 c.hear.new.found.breaches.items)
    c.in_ok-hear.ensures.kept)

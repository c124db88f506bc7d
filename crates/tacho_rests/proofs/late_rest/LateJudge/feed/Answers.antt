use Rattle.std.proofs.Common.{◌≡◌, ◌++◌, None, Some, List, [], sym, ap, ◌∙◌, false}
use Rattle.tacho_time.specs.declared.span.Span.{Span}
use Rattle.tacho_law.specs.declared.run.Run.{Run}
use Rattle.tacho_law.specs.declared.breach.Breach.{Breach}
use Rattle.tacho_pass.specs.Found.{own_of, as_list}
use Rattle.tacho_pass.specs.Kinds.{is_b8}
use Rattle.tacho_pass.specs.Heard.{run_before}
use Rattle.tacho_pass.proofs.AppendingLemmas.{appends_none, own_more}
use Rattle.tacho_rests.specs.declared.late_rest.Late.{Late}
use Rattle.tacho_rests.specs.Lateness.{late_run}
use Rattle.tacho_rests.proofs.LatenessLemmas.{late_kinds, late_fed_none, late_fed}
use Rattle.tacho_rests.proofs.late_rest.LateJudge.feed.Goals as goal

pub returns-in_default-clause-appends : goal.returns-in_default-clause-appends
returns-in_default-clause-appends c = appends_none is_b8 false c.args.found.now

pub returns-in_default-clause-fed : goal.returns-in_default-clause-fed
returns-in_default-clause-fed c = λ base spans r.
    (let own : List Breach = own_of is_b8 c.args.found.now.breaches.items in
    let s : Span = c.args._span in
    let none : run_before c.args._start s ≡ None = sym c.requires.run ∙ c.in_default.is in
    late_fed_none spans s base c.args._start c.args.self.now own [] r c.requires.nonempty none)

pub returns-clause-fed : goal.returns-clause-fed
returns-clause-fed c = λ base spans r.
    (let late : Late = c.args.self.now in
    let own : List Breach = own_of is_b8 c.args.found.now.breaches.items in
    let s : Span = c.args._span in
    let run : Run = c.in-Some.run' in
    let is : run_before c.args._start s ≡ Some run = sym c.requires.run ∙ c.in-Some.is in
    let own_is : own_of is_b8 c.put.new.found.breaches.items ≡ own ++ as_list (late_run late.end run) =
    ap (own_of is_b8) c.in_ok-put.ensures.breaches
    ∙ rw c.breach_of.ensures
    (own_more is_b8 c.args.found.now.breaches.items (as_list (late_run late.end run)) (late_kinds late.end run)) in
    rw (own_is, c.end_after-self.ensures) (late_fed spans s base c.args._start late own [] r c.requires.nonempty run is))

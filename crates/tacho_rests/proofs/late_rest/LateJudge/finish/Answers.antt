use Rattle.std.proofs.Common.{◌≡◌, ◌++◌, ◌≤◌, List, [], arith, ap, ◌∙◌}
use Rattle.tacho_law.specs.declared.run.Run.{Run}
use Rattle.tacho_law.specs.declared.run.TheConstants.{FAR}
use Rattle.tacho_law.specs.declared.breach.Breach.{Breach}
use Rattle.tacho_pass.specs.Found.{own_of, as_list}
use Rattle.tacho_pass.specs.Kinds.{is_b8}
use Rattle.tacho_pass.proofs.AppendingLemmas.{own_more}
use Rattle.tacho_pass.proofs.HearingLemmas.{line_runs}
use Rattle.tacho_rests.specs.declared.late_rest.Late.{Late}
use Rattle.tacho_rests.specs.Lateness.{late_run}
use Rattle.tacho_rests.proofs.LatenessLemmas.{late_kinds, late_ends}
use Rattle.tacho_rests.proofs.late_rest.LateJudge.finish.Goals as goal

pub returns-clause-finished : goal.returns-clause-finished
returns-clause-finished c = λ base spans r x.
    (let late : Late = c.args.self in
    let old : List Breach = c.args.found.now.breaches.items in
    let last : Run = record { start = c.args.start; past = FAR } in
    let within : c.args._horizon ≤ 68374080 = c.requires.within in
    let own_is : own_of is_b8 c.put.new.found.breaches.items ≡ own_of is_b8 old ++ as_list (late_run late.end last) =
    ap (own_of is_b8) c.in_ok-put.ensures.breaches
    ∙ rw c.breach_of.ensures (own_more is_b8 old (as_list (late_run late.end last)) (late_kinds late.end last)) in
    rw own_is (late_ends spans base c.args._horizon c.args.start late (own_of is_b8 old) [] r x
    (line_runs spans c.args._horizon (omega arith) base x.joined)))

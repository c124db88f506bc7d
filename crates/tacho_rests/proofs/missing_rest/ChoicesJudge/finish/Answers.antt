use Rattle.std.proofs.Common.{◌≤◌, List, [], arith}
use Rattle.tacho_law.specs.declared.breach.Breach.{Breach}
use Rattle.tacho_pass.specs.Found.{own_of}
use Rattle.tacho_pass.specs.Kinds.{is_b9}
use Rattle.tacho_pass.proofs.HearingLemmas.{line_runs}
use Rattle.tacho_rests.proofs.LackingLemmas.{choices_end}
use Rattle.tacho_rests.proofs.missing_rest.ChoicesJudge.finish.Goals as goal

pub returns-clause-finished : goal.returns-clause-finished
returns-clause-finished c = λ base spans r x.
    (let own : List Breach = own_of is_b9 c.args.found.now.breaches.items in
    let within : c.args.horizon ≤ 68374080 = c.requires.within in
    choices_end spans base c.args.horizon c.args.start c.args.self own [] r x
    (line_runs spans c.args.horizon (omega arith) base x.joined) (own_of is_b9 c.end.new.found.breaches.items)
    c.in_ok-end.ensures.kept)

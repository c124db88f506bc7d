use Rattle.std.proofs.Common.{◌≡◌, ◌++◌, List, [], ap, ◌∙◌}
use Rattle.tacho_law.specs.declared.run.Run.{Run}
use Rattle.tacho_law.specs.declared.run.TheConstants.{FAR}
use Rattle.tacho_law.specs.declared.breach.Breach.{Breach}
use Rattle.tacho_pass.specs.Found.{own_of}
use Rattle.tacho_pass.proofs.AppendingLemmas.{own_more}
use Rattle.tacho_driving.specs.declared.breaks.Period.{Period}
use Rattle.tacho_pass.specs.Kinds.{is_b1}
use Rattle.tacho_driving.specs.Periods.{found_at}
use Rattle.tacho_driving.proofs.PeriodsLemmas.{found_kinds, periods_end}
use Rattle.tacho_driving.proofs.breaks.PeriodJudge.finish.Goals as goal

pub returns-clause-finished : goal.returns-clause-finished
returns-clause-finished c = λ base spans r x.
    (let p : Period = c.args.self in
    let old : List Breach = c.args.found.now.breaches.items in
    let last : Run = record { start = c.args.start; past = FAR } in
    let own_is : own_of is_b1 c.end.new.found.breaches.items ≡ own_of is_b1 old ++ found_at last p =
    ap (own_of is_b1) c.in_ok-end.ensures.breaches ∙ own_more is_b1 old (found_at last p) (found_kinds last p) in
    rw own_is (periods_end spans base c.args._horizon c.args.start p (own_of is_b1 old) [] r x))

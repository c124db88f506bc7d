use Rattle.std.proofs.Common.{◌≡◌, ◌++◌, List, [], ap, ◌∙◌}
use Rattle.tacho_law.specs.declared.run.Run.{Run}
use Rattle.tacho_law.specs.declared.run.TheConstants.{FAR}
use Rattle.tacho_law.specs.declared.breach.Breach.{Breach}
use Rattle.tacho_pass.specs.Found.{own_of}
use Rattle.tacho_pass.specs.Kinds.{is_b2_or_b3}
use Rattle.tacho_pass.proofs.AppendingLemmas.{own_more}
use Rattle.tacho_days.specs.declared.daily_rest.RestingDay.{RestingDay}
use Rattle.tacho_days.specs.RestingDays.{rest_found}
use Rattle.tacho_days.proofs.DailyRestsStandingLemmas.{rest_kinds, rests_end}
use Rattle.tacho_days.proofs.daily_rest.RestingDayJudge.finish.Goals as goal

pub returns-clause-finished : goal.returns-clause-finished
returns-clause-finished c = λ base spans r x.
    (let d : RestingDay = c.args.self in
    let old : List Breach = c.args.found.now.breaches.items in
    let last : Run = record { start = c.args.start; past = FAR } in
    let own_is : own_of is_b2_or_b3 c.end.new.found.breaches.items ≡ own_of is_b2_or_b3 old ++ rest_found last d =
    ap (own_of is_b2_or_b3) c.in_ok-end.ensures.breaches
    ∙ own_more is_b2_or_b3 old (rest_found last d) (rest_kinds last d) in
    rw own_is (rests_end spans base c.args._horizon c.args.start d (own_of is_b2_or_b3 old) [] r x))

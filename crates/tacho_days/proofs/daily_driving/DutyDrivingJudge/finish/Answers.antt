use Rattle.std.proofs.Common.{◌≡◌, ◌≤◌, ◌++◌, List, [], ap, ◌∙◌, arith}
use Rattle.std.proofs.lemmas.Bool.Decides.{nat_tests}
use Rattle.tacho_law.specs.declared.run.Run.{Run}
use Rattle.tacho_law.specs.declared.run.TheConstants.{FAR}
use Rattle.tacho_law.specs.declared.breach.Breach.{Breach}
use Rattle.tacho_pass.specs.Found.{own_of}
use Rattle.tacho_pass.specs.Kinds.{is_b4_or_b5}
use Rattle.tacho_pass.proofs.AppendingLemmas.{own_more}
use Rattle.tacho_days.specs.declared.daily_driving.DutyDriving.{DutyDriving}
use Rattle.tacho_days.specs.DailyDriving.{duty_found}
use Rattle.tacho_days.proofs.DailyDrivingLemmas.{duty_kinds, driven_end}
use Rattle.tacho_days.proofs.daily_driving.DutyDrivingJudge.finish.Goals as goal

pub returns-clause-finished : goal.returns-clause-finished
returns-clause-finished c = λ base spans r x.
    (let p : DutyDriving = c.args.self in
    let old : List Breach = c.args.found.now.breaches.items in
    let last : Run = record { start = c.args.start; past = FAR } in
    let late : 5760 ≤ p.from = grind (arith, nat_tests) in
    let own_is : own_of is_b4_or_b5 c.end.new.found.breaches.items ≡ own_of is_b4_or_b5 old ++ duty_found last p =
    ap (own_of is_b4_or_b5) c.in_ok-end.ensures.breaches
    ∙ own_more is_b4_or_b5 old (duty_found last p) (duty_kinds last p) in
    rw own_is (driven_end spans base c.args._horizon c.args.start p (own_of is_b4_or_b5 old) [] r x late))

use Rattle.std.proofs.Common.{◌≡◌, ◌≤◌, ◌++◌, Bool, ℕ, Option, List, [], refl, ap, ◌∙◌, arith}
use Rattle.std.proofs.lemmas.Bool.Decides.{nat_tests}
use Rattle.tacho_time.specs.declared.span.Span.{Span}
use Rattle.tacho_law.specs.Driving.{is_drive}
use Rattle.tacho_law.specs.declared.run.Run.{Run}
use Rattle.tacho_law.specs.declared.breach.Breach.{Breach}
use Rattle.tacho_pass.specs.Found.{own_of}
use Rattle.tacho_pass.specs.Heard.{run_before}
use Rattle.tacho_pass.specs.Kinds.{is_b4_or_b5}
use Rattle.tacho_pass.proofs.AppendingLemmas.{own_more}
use Rattle.tacho_days.specs.declared.daily_driving.DutyDriving.{DutyDriving}
use Rattle.tacho_days.specs.DailyDriving.{duty_any, duty_found_at_optional_run, duty_with}
use Rattle.tacho_days.proofs.DailyDrivingLemmas.{any_kinds, driven_fed}
use Rattle.tacho_days.proofs.daily_driving.DutyDrivingJudge.feed.Goals as goal

pub returns-clause-fed : goal.returns-clause-fed
returns-clause-fed c = λ base spans r.
    (let p : DutyDriving = c.args.self.now in
    let x : Span = c.args.span in
    let start : ℕ = c.args._start in
    let old : List Breach = c.args.found.now.breaches.items in
    let own : List Breach = own_of is_b4_or_b5 old in
    let run : Option Run = run_before start x in
    let run_is : c.args.run ≡ run = c.requires.run in
    let within : x.past ≤ 68374080 = c.requires.within in
    let late : 5760 ≤ p.from = grind (arith, nat_tests) in
    let drives : Bool = is_drive x.mark.activity in
    let duty : c.hear.new.self ≡ duty_with drives x.start x.past (duty_any run p) =
    c.in_ok-hear.ensures.after
    ∙ rw (c.is_drive-drives.ensures, run_is, c.number.ensures.value, c.number-2.ensures.value)
    (refl {a = duty_with drives x.start x.past (duty_any run p)}) in
    let items : c.hear.new.found.breaches.items ≡ old ++ duty_found_at_optional_run run p =
    c.in_ok-hear.ensures.breaches ∙ rw run_is refl in
    let own_is : own_of is_b4_or_b5 c.hear.new.found.breaches.items ≡ own ++ duty_found_at_optional_run run p =
    ap (own_of is_b4_or_b5) items ∙ own_more is_b4_or_b5 old (duty_found_at_optional_run run p) (any_kinds run p) in
    rw (own_is, duty) (driven_fed spans x base start p own [] r c.requires.nonempty (omega arith) late))

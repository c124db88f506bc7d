use Rattle.std.proofs.Common.{◌≡◌, ◌≤◌, ◌++◌, ℕ, Option, List, [], refl, ap, ◌∙◌, arith}
use Rattle.tacho_time.specs.declared.span.Span.{Span}
use Rattle.tacho_law.specs.Driving.{is_drive}
use Rattle.tacho_law.specs.declared.run.Run.{Run}
use Rattle.tacho_law.specs.declared.breach.Breach.{Breach}
use Rattle.tacho_pass.specs.Found.{own_of}
use Rattle.tacho_pass.specs.Heard.{run_before}
use Rattle.tacho_pass.proofs.AppendingLemmas.{own_more}
use Rattle.tacho_driving.specs.declared.breaks.Period.{Period}
use Rattle.tacho_pass.specs.Kinds.{is_b1}
use Rattle.tacho_driving.specs.Periods.{after_optional_run, found_at_optional_run, period_with}
use Rattle.tacho_driving.proofs.PeriodsLemmas.{any_kinds, periods_fed}
use Rattle.tacho_driving.proofs.breaks.PeriodJudge.feed.Goals as goal

pub returns-clause-fed : goal.returns-clause-fed
returns-clause-fed c = λ base spans r.
    (let p : Period = c.args.self.now in
    let x : Span = c.args.span in
    let start : ℕ = c.args._start in
    let old : List Breach = c.args.found.now.breaches.items in
    let own : List Breach = own_of is_b1 old in
    let run : Option Run = run_before start x in
    let run_is : c.args.run ≡ run = c.requires.run in
    let within : x.past ≤ 68374080 = c.requires.within in
    let period : c.hear.new.self ≡ period_with (is_drive x.mark.activity) x.start x.past (after_optional_run run p) =
    c.in_ok-hear.ensures.after ∙ rw (c.is_drive-drives.ensures, run_is, c.number.ensures.value, c.number-2.ensures.value) refl in
    let items : c.hear.new.found.breaches.items ≡ old ++ found_at_optional_run run p =
    c.in_ok-hear.ensures.breaches ∙ rw run_is refl in
    let own_is : own_of is_b1 c.hear.new.found.breaches.items ≡ own ++ found_at_optional_run run p =
    ap (own_of is_b1) items ∙ own_more is_b1 old (found_at_optional_run run p) (any_kinds run p) in
    rw (own_is, period) (periods_fed spans x base start p own [] r c.requires.nonempty (omega arith)))

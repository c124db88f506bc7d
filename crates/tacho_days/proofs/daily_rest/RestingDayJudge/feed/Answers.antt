use Rattle.std.proofs.Common.{◌≡◌, ◌≤◌, ◌++◌, ℕ, Option, List, [], refl, ap, ◌∙◌, arith}
use Rattle.tacho_time.specs.declared.span.Span.{Span}
use Rattle.tacho_law.specs.declared.run.Run.{Run}
use Rattle.tacho_law.specs.declared.breach.Breach.{Breach}
use Rattle.tacho_pass.specs.Found.{own_of}
use Rattle.tacho_pass.specs.Heard.{run_before}
use Rattle.tacho_pass.specs.Kinds.{is_b2_or_b3}
use Rattle.tacho_pass.proofs.AppendingLemmas.{own_more}
use Rattle.tacho_days.specs.declared.daily_rest.RestingDay.{RestingDay}
use Rattle.tacho_days.specs.RestingDays.{after_optional_rest, found_at_optional_rest}
use Rattle.tacho_days.proofs.DailyRestsStandingLemmas.{any_kinds, rests_fed}
use Rattle.tacho_days.proofs.daily_rest.RestingDayJudge.feed.Goals as goal

pub returns-clause-fed : goal.returns-clause-fed
returns-clause-fed c = λ base spans r.
    (let d : RestingDay = c.args.self.now in
    let x : Span = c.args._span in
    let start : ℕ = c.args._start in
    let old : List Breach = c.args.found.now.breaches.items in
    let own : List Breach = own_of is_b2_or_b3 old in
    let run : Option Run = run_before start x in
    let run_is : c.args.run ≡ run = c.requires.run in
    let within : x.past ≤ 68374080 = c.requires.within in
    let day : c.hear.new.self ≡ after_optional_rest run d = c.in_ok-hear.ensures.after ∙ rw run_is refl in
    let items : c.hear.new.found.breaches.items ≡ old ++ found_at_optional_rest run d =
    c.in_ok-hear.ensures.breaches ∙ rw run_is refl in
    let own_is : own_of is_b2_or_b3 c.hear.new.found.breaches.items ≡ own ++ found_at_optional_rest run d =
    ap (own_of is_b2_or_b3) items ∙ own_more is_b2_or_b3 old (found_at_optional_rest run d) (any_kinds run d) in
    rw (own_is, day) (rests_fed spans x base start d own [] r c.requires.nonempty (omega arith)))

use Rattle.std.proofs.Common.{refl, sym}
use Rattle.tacho_pass.specs.Kinds.{is_b2_or_b3, is_b4_or_b5, is_b2_to_b5}
use Rattle.tacho_pass.proofs.TogetherLemmas.{and_next, among, before, behind}
use Rattle.tacho_days.proofs.DaysLemmas.{days_defined}
use Rattle.tacho_days.proofs.days.DayRulesJudge.finish.Goals as goal

pub returns-in_err-finish-2-clause-appends : goal.returns-in_err-finish-2-clause-appends
returns-in_err-finish-2-clause-appends c = and_next c.in_ok-finish.ensures.appends c.in_err-finish-2.ensures.appends

pub returns-clause-appends : goal.returns-clause-appends
returns-clause-appends c = and_next c.in_ok-finish.ensures.appends c.in_ok-finish-2.ensures.appends

pub returns-clause-finished : goal.returns-clause-finished
returns-clause-finished c = λ base spans r x.
    (let a = c.in_ok-finish.ensures.appends in
    let b = c.in_ok-finish-2.ensures.appends in
    days_defined c.finish-2.new.found.breaches.items base c.args.horizon spans
    (rw (behind is_b2_or_b3 refl b is_b2_to_b5 refl) (c.in_ok-finish.ensures.finished base spans
    (rw (sym (among is_b2_or_b3 is_b2_to_b5 c.args.found.now.breaches.items refl)) r.daily_rest) x))
    (rw (among is_b4_or_b5 is_b2_to_b5 c.finish-2.new.found.breaches.items refl)
    (c.in_ok-finish-2.ensures.finished base spans
    (rw (before is_b4_or_b5 refl a is_b2_to_b5 refl) r.daily_driving) x)))

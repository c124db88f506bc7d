use Rattle.std.proofs.Common.{rules, ◌≡◌, ◌<◌, length, arith, subst, Bool}
use Rattle.std.specs.Prelude.{◌&&◌, not}
use Rattle.std.proofs.lemmas.Bool.{both_ways}
use Rattle.tacho_choice.specs.Step.{place_of}
use Rattle.tacho_choice.proofs.OutcomesLemmas.{place_below, some_holds}
use Rattle.tacho_rests.specs.Choices.{IsStep}
use Rattle.tacho_rests.proofs.missing_rest.served.Goals as goal

pub returns-then-is_left : goal.returns-then-is_left
returns-then-is_left c =
    let size : length c.step-next.result ≡ 10 = search rules in
    let (k, (within, held)) = c.is_left.ensures.0 c.if-is_left.true in
    let step : IsStep c.args.week.rests (not c.args.rested && not c.args.week.whole) c.args.outcomes
    c.step-next.result =
    subst (λ (b : Bool). IsStep c.args.week.rests b c.args.outcomes c.step-next.result) c.asks.ensures
    c.step-next.ensures in
    (step, some_holds c.step-next.result k (omega arith) held)

pub returns-else-is_left : goal.returns-else-is_left
returns-else-is_left c =
    let size : length c.step-next.result ≡ 10 = search rules in
    let step : IsStep c.args.week.rests (not c.args.rested && not c.args.week.whole) c.args.outcomes
    c.step-next.result =
    subst (λ (b : Bool). IsStep c.args.week.rests b c.args.outcomes c.step-next.result) c.asks.ensures
    c.step-next.ensures in (
      c.step-next.result,
      (
        step,
        λ left h. both_ways c.is_left.result c.if-is_left.false
            (c.is_left.ensures.1 (place_of left, (let b : place_of left < 10 = place_below left in omega arith, h))),
      ),
    )

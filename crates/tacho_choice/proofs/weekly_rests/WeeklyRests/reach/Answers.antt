use Rattle.std.proofs.Common.{rules, ◌≡◌, ◌<◌, length, arith}
use Rattle.tacho_choice.specs.declared.outcome.Outcome.{Outcome}
use Rattle.tacho_choice.specs.Step.{place_of}
use Rattle.tacho_choice.proofs.OutcomesLemmas.{place_below, reach_put}
use Rattle.tacho_choice.proofs.weekly_rests.WeeklyRests.reach.Goals as goal

pub bounds-outcomes-place : goal.bounds-outcomes-place
bounds-outcomes-place c =
    let s : Outcome = record { counted = c.counted-counted.result; crossing = c.args.after } in
    let below : place_of s < 10 = place_below s in
    let at : c.place.result ≡ place_of s = c.place.ensures in
    omega arith

pub returns-then-lead_to : goal.returns-then-lead_to
returns-then-lead_to c =
    let size : length c.args.outcomes.now ≡ 10 = search rules in
    reach_put c.args.outcomes.now c.args.old c.args.self c.args.asks c.args.before c.args.after c.allows.result
    c.counted-counted.result c.counted-counted.ensures c.allows.ensures c.place.result size c.if-not-allows.false
    (c.lead_to.ensures.0 c.if-lead_to.true) c.place.ensures

use Rattle.tacho_choice.proofs.OutcomesLemmas.{holds_none, no_outcomes, step_four}
use Rattle.tacho_choice.proofs.weekly_rests.WeeklyRests.step.Goals as goal

pub returns : goal.returns
returns c = step_four c.args.self c.args.asks c.args.outcomes no_outcomes c.reach.new.outcomes c.reach-2.new.outcomes
    c.reach-3.new.outcomes c.reach-4.new.outcomes holds_none c.reach.ensures c.reach-2.ensures c.reach-3.ensures c.reach-4.ensures

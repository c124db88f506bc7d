use Rattle.tacho_desk.proofs.OwnLemmas.{others_stay, same_answers}
use Rattle.tacho_desk.proofs.laws.own_tasks_stand_alone.Goals as goal

pub returns-clause-same : goal.returns-clause-same
returns-clause-same c = same_answers

pub returns-clause-others : goal.returns-clause-others
returns-clause-others c = others_stay

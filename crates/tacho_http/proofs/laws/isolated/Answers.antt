use Rattle.tacho_http.proofs.LawLemmas.{keeps_others, one_reply, same_reply}
use Rattle.tacho_http.proofs.laws.isolated.Goals as goal

pub returns-clause-same : goal.returns-clause-same
returns-clause-same c = same_reply c.drivers_ask_for_their_own.ensures.own c.own_tasks_stand_alone.ensures.same

pub returns-clause-one : goal.returns-clause-one
returns-clause-one c =
    one_reply c.drivers_ask_for_their_own.ensures.own c.own_tasks_stand_alone.ensures.same c.own_tasks_have_one_answer.ensures

pub returns-clause-others : goal.returns-clause-others
returns-clause-others c = keeps_others c.drivers_ask_for_their_own.ensures.own c.own_tasks_stand_alone.ensures.others

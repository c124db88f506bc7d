use Rattle.std.proofs.Common.{rules}
use Rattle.tacho_store.proofs.StepsLemmas.{undone_answers, undone_keeps}
use Rattle.tacho_store.proofs.withdrawal.withdraw.Goals as goal

pub returns-in-Err-act_within-clause-acts : goal.returns-in-Err-act_within-clause-acts
returns-in-Err-act_within-clause-acts g c = record {
  clean = search rules;
  answer = search (rules, undone_answers);
  state = search rules;
  same = search rules;
  others = search (rules, undone_keeps);
  answered = search rules;
  was_live = search rules;
  live = search rules;
  crash = search rules;
  shut = search rules;
  refused = search rules;
  kept = search rules;
}

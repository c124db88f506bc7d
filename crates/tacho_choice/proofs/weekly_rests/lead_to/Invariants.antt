use Rattle.tacho_choice.proofs.OutcomesLemmas.{NoneLeads}
use Rattle.tacho_choice.proofs.weekly_rests.lead_to.Given as goal

abbrev pub invariant-loop-i : goal.invariant-loop-i
invariant-loop-i l = NoneLeads l.asks l.outcomes l.crossing l.counted l.i

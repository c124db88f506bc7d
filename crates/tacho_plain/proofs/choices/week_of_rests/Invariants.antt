use Rattle.tacho_plain.proofs.WeeksOfRestsLemmas.{SeenWeek}
use Rattle.tacho_plain.proofs.choices.week_of_rests.Given as goal

abbrev pub invariant-loop-rest : goal.invariant-loop-rest
invariant-loop-rest l = SeenWeek l.rests l.number l.rest-index l.week

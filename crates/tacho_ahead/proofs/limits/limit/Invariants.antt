use Rattle.tacho_ahead.proofs.LimitLemmas.{IsSearched}
use Rattle.tacho_ahead.proofs.limits.limit.Given as goal

abbrev pub invariant-loop-until : goal.invariant-loop-until
invariant-loop-until l = IsSearched l.scan l.initial.found l.found l.had l.kind l.first l.until

use Rattle.std.proofs.Common.{take}
use Rattle.tacho_evidence.proofs.ChosenLemmas.{HasRests}
use Rattle.tacho_evidence.proofs.choice.append_weekly.Given as goal

abbrev pub invariant-loop-rest : goal.invariant-loop-rest
invariant-loop-rest l = HasRests l.first l.last (take l.rest-index l.rests) l.initial.lines.items l.lines.items

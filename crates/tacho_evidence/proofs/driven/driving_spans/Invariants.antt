use Rattle.std.proofs.Common.{drop}
use Rattle.tacho_evidence.proofs.DrivenLemmas.{Driving}
use Rattle.tacho_evidence.proofs.driven.driving_spans.Given as goal

abbrev pub invariant-loop-span : goal.invariant-loop-span
invariant-loop-span l = Driving l.spans (drop l.span-index l.later) l.past l.from l.to l.driven.items l.start

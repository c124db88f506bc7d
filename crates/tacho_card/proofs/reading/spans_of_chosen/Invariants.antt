use Rattle.std.proofs.Common.{take}
use Rattle.tacho_card.specs.CardFile.{those_there}
use Rattle.tacho_card.proofs.GivesLemmas.{IsRaw}
use Rattle.tacho_card.proofs.reading.spans_of_chosen.Given as goal

-- the spans so far are those of the data so far
abbrev pub invariant-loop-activity : goal.invariant-loop-activity
invariant-loop-activity l = IsRaw (those_there (take l.activity-index l.chosen)) l.raw.items

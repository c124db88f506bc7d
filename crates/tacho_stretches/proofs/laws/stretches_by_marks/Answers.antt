use Rattle.tacho_stretches.proofs.MarkLemmas.{by_marks}
use Rattle.tacho_stretches.proofs.laws.stretches_by_marks.Goals as goal

pub returns : goal.returns
returns c = by_marks

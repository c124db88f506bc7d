use Rattle.tacho_handover.proofs.HandedLemmas.{each_needed}
use Rattle.tacho_handover.proofs.laws.each_is_needed.Goals as goal

pub returns : goal.returns
returns c = each_needed

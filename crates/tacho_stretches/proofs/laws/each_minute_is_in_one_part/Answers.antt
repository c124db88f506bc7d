use Rattle.tacho_stretches.proofs.OnceLemmas.{each_once, none_before, none_after}
use Rattle.tacho_stretches.proofs.laws.each_minute_is_in_one_part.Goals as goal

pub returns : goal.returns
returns c = record { within = each_once; before = none_before; after = none_after }

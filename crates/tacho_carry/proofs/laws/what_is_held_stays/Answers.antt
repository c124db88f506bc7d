use Rattle.tacho_carry.proofs.HeldLemmas.{held_stays, left_out_held}
use Rattle.tacho_carry.proofs.laws.what_is_held_stays.Goals as goal

pub returns : goal.returns
returns c = record { carried = held_stays; left_out = left_out_held }

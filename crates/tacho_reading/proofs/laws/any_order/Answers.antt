use Rattle.tacho_reading.proofs.OrderedLemmas.{any_order_stands}
use Rattle.tacho_reading.proofs.laws.any_order.Goals as goal

pub returns : goal.returns
returns c = any_order_stands

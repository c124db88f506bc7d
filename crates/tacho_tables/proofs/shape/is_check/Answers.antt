use Rattle.std.proofs.Common.{arith}
use Rattle.tacho_tables.proofs.ShapeLemmas.{few, deep, neither}
use Rattle.tacho_tables.proofs.shape.is_check.Goals as goal

pub returns-then-nodes-lt3 : goal.returns-then-nodes-lt3
returns-then-nodes-lt3 c = neither (few c.args.nodes.now c.args.root (omega arith))

pub returns : goal.returns
returns c = deep c.args.nodes.now c.args.root c.is_choice.result (omega arith) c.is_choice.ensures

use Rattle.std.proofs.Common.{◌≡◌}
use Rattle.tacho_card.specs.CardFile.{value_of as first_value}
use Rattle.tacho_card.proofs.blocks.Blocks.value_of.Given as goal

-- the value found in the remaining blocks is that of all blocks
abbrev pub invariant-loop-block : goal.invariant-loop-block
invariant-loop-block l =
    (goal.iterator-loop-block).can_next l.block-iterator
    × (goal.iterator-loop-block).is_finite l.block-iterator
    × (first_value l.identifier l.kind l.block-iterator ≡ first_value l.identifier l.kind l.self)

use Rattle.std.proofs.Common.{◌≡◌, []}
use Rattle.tacho_card.specs.CardFile.{first_repeat as first_repeated}
use Rattle.tacho_card.proofs.SingleLemmas.{marks}
use Rattle.tacho_card.proofs.blocks.Blocks.repeated.Given as goal

-- the repetition found in the remaining blocks is that of all blocks
abbrev pub invariant-loop-block : goal.invariant-loop-block
invariant-loop-block l =
    (goal.iterator-loop-block).can_next l.block-iterator
    × (goal.iterator-loop-block).is_finite l.block-iterator
    × (l.seen ≡ marks l.yielded)
    × (first_repeated l.yielded l.block-iterator ≡ first_repeated [] l.self)

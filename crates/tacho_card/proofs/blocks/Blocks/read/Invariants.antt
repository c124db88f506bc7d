use Rattle.std.proofs.Common.{◌≡◌, ◌≤◌, ◌-◌, length, drop}
use Rattle.tacho_card.specs.CardFile.{blocks_from, blocks_of}
use Rattle.tacho_card.proofs.FileLemmas.{fault_in}
use Rattle.tacho_card.proofs.blocks.Blocks.read.Given as goal

-- the fault of the remaining bytes is the fault of all bytes
abbrev pub invariant-loop-offset : goal.invariant-loop-offset
invariant-loop-offset l =
    (l.offset ≤ length l.bytes) × (fault_in (blocks_from (length l.bytes - l.offset) l.offset (drop l.offset l.bytes)) ≡ fault_in (blocks_of l.bytes))

abbrev pub decreases-loop-offset : goal.decreases-loop-offset
decreases-loop-offset l = length l.bytes - l.offset
